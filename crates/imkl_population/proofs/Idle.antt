-- Features at which nothing can be wrong when a population is finished.
use Rattle.std.proofs.Common.{◌≡◌, ℕ, zero, suc, ◌<◌, Bool, true, false, ◌&&◌, ◌||◌, not, List, [], length, Some, None, nat_lt, refl, sym, ◌∙◌, arith, if◌then◌else◌}
use Rattle.std.proofs.Math.Bool.{or-false}
use Rattle.std.proofs.lemmas.Bool.{false≢true, lt-ltb, ltb-true, le-ltb, or_parts}
use Rattle.imkl_model.specs.declared.feature.FeatureInfo.{FeatureInfo}
use Rattle.imkl_model.specs.ClassModel.{feature_at, belongs}
use Rattle.imkl_population.specs.declared.required.Side.TheVariants.{Written, Opposite}
use Rattle.imkl_population.specs.Building.{bounds_fault}
use Rattle.imkl_population.specs.Ends.{IsUncrowdedBelow}
use Rattle.imkl_population.specs.Finishing.{gap, end_fault}
use Rattle.imkl_population.specs.Numbers.{first_below}
use Rattle.imkl_population.specs.Population.{Population, class_of, written_at, values_of}
use Rattle.imkl_population.specs.Required.{Requirements, is_required, is_one_of, required, with_required}
use Rattle.imkl_model.specs.Features.{is_opposite}
use Rattle.imkl_population.specs.Values.{is_over}
use Rattle.imkl_population.specs.Order.{first_in}
use Rattle.imkl_population.proofs.Firsts.{first_in-places}
use Rattle.imkl_population.proofs.Orders.{places-same}

abbrev pub written_side : Population → Requirements
written_side p = record { model = p.model; side = Written }

abbrev pub opposite_side : Population → Requirements
opposite_side p = record { model = p.model; side = Opposite }

none_by : {A : Type 0} (a b l m : Bool) (x : A) → (m ≡ true → l ≡ true) → (a && b && l) ≡ false → (if a && b && m then Some x else None) ≡ None
none_by false b l m x h is = refl
none_by true false l m x h is = refl
none_by true true l false x h is = refl
none_by true true false true x h is = absurd (false≢true (h refl))
none_by true true true true x h is = absurd (false≢true (sym is))

-- where a class requires no value, there is no gap
pub no_gap : (p : Population) (o f : ℕ) (fs : List ℕ) → (is_required (written_side p) (class_of p o) f || is_one_of fs f) ≡ false → gap p o f ≡ None
no_gap p o f fs idle =
    let i : FeatureInfo = feature_at p.model f in
    let n : ℕ = length (written_at p o f) in
    none_by (belongs p.model (class_of p o) f) (not (is_opposite i.role)) (nat_lt 0 i.lower) (nat_lt n i.lower) _
    (λ h. lt-ltb 0 i.lower (omega (arith, ltb-true n i.lower h))) (or_parts (is_required (written_side p) (class_of p o) f) (is_one_of fs f) idle).0

few_none : (n lower : ℕ) → nat_lt 0 lower ≡ false → nat_lt n lower ≡ false
few_none n zero h = le-ltb n 0 (omega arith)
few_none n (suc k) h = absurd (false≢true (sym h ∙ lt-ltb 0 (suc k) (omega arith)))

end_by : (a b l : Bool) (i : FeatureInfo) (o f n : ℕ) → nat_lt 0 i.lower ≡ l → (a && b && l) ≡ false → (b ≡ true → is_over i.upper n ≡ false) → (if a && b then bounds_fault i o f n else None) ≡ None
end_by false b l i o f n is idle few = refl
end_by true false l i o f n is idle few = refl
end_by true true true i o f n is idle few = absurd (false≢true (sym idle))
end_by true true false i o f n is idle few = rw (few_none n i.lower is, few refl) refl

-- where a class requires no holder and no end is crowded, the bounds are kept
pub no_end_fault : (p : Population) (o f crowded : ℕ) (extra : List ℕ) → o < length p.objects → IsUncrowdedBelow p crowded f → (is_one_of extra f ≡ false → o < crowded)
    → (is_required (opposite_side p) (class_of p o) f || is_one_of extra f) ≡ false → end_fault p o f ≡ None
no_end_fault p o f crowded extra inside uncrowded others idle =
    let i : FeatureInfo = feature_at p.model f in
    let parts = or_parts (is_required (opposite_side p) (class_of p o) f) (is_one_of extra f) idle in
    end_by (belongs p.model (class_of p o) f) (is_opposite i.role) (nat_lt 0 i.lower) i o f (length (values_of p o f)) refl parts.0 (uncrowded o inside (others parts.1))

-- what a class requires is what it requires with nothing else
pub required-alone : (r : Requirements) (c : ℕ) → required r c ≡ with_required r c []
required-alone r c = places-same (is_required r c) (λ f. is_required r c f || is_one_of [] f) (length r.model.features) (λ f lt. sym (or-false (is_required r c f)))

-- the first gap of an object is the first at what its class requires
pub first_gap_in : (p : Population) (o : ℕ) (r : Requirements) (c : ℕ) (fs items : List ℕ) → r ≡ written_side p → c ≡ class_of p o → items ≡ with_required r c fs → first_in (gap p o) items ≡ first_below (gap p o) (length p.model.features)
first_gap_in p o r c fs items side class are =
    let list_below : items ≡ with_required (written_side p) (class_of p o) fs = are ∙ rw (side, class) refl in
    rw list_below (first_in-places (gap p o) (λ f. is_required (written_side p) (class_of p o) f || is_one_of fs f) (length p.model.features) (λ f lt idle. no_gap p o f fs idle))

-- the first fault of an object's opposite ends is the first at what its class requires, and elsewhere where an end may
-- be crowded
pub first_end_fault_in : (p : Population) (o crowded : ℕ) (r : Requirements) (c : ℕ) (extra items : List ℕ) → o < length p.objects → ((f : ℕ) → f < length p.model.features → IsUncrowdedBelow p crowded f)
    → ((f : ℕ) → f < length p.model.features → is_one_of extra f ≡ false → o < crowded) → r ≡ opposite_side p → c ≡ class_of p o → items ≡ with_required r c extra
    → first_in (end_fault p o) items ≡ first_below (end_fault p o) (length p.model.features)
first_end_fault_in p o crowded r c extra items inside uncrowded others side class are =
    let list_below : items ≡ with_required (opposite_side p) (class_of p o) extra = are ∙ rw (side, class) refl in
    rw list_below (first_in-places (end_fault p o) (λ f. is_required (opposite_side p) (class_of p o) f || is_one_of extra f) (length p.model.features)
    (λ f lt idle. no_end_fault p o f crowded extra inside (uncrowded f lt) (others f lt) idle))
