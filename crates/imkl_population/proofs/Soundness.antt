-- What is written at a feature of a draft: nothing, or values without a fault.
use Rattle.std.proofs.Common.{◌≡◌, ℕ, ◌<◌, arith, Bool, true, false, ◌&&◌, not, cond, List, [], ◌∷◌, length, Option, Some, None, refl, sym, ap, subst, ◌∙◌, if◌then◌else◌, is_none, is_some, inl, inr}
use Rattle.std.specs.Prelude.{unwrap_or}
use Rattle.std.specs.List.{list_all}
use Rattle.std.specs.Prelude.{All}
use Rattle.std.specs.Option.{option_or}
use Rattle.std.specs.Map.{lookup, keys_of}
use Rattle.std.proofs.lemmas.List.Elements.{All-head, All-tail}
use Rattle.std.specs.Ordering.{nat_cmp, is_eq}
use Rattle.std.specs.BTreeMap.{is_at}
use Rattle.std.specs.Cmp.{Equal-is}
use Rattle.std.specs.FinMap.{nat_cmp-IsAntisymmetric}
use Rattle.std.proofs.lemmas.Bool.{false≢true, and_parts}
use Rattle.std.proofs.Math.ListN.{get_or-eq_default}
use Rattle.imkl_model.specs.declared.feature.FeatureInfo.{FeatureInfo}
use Rattle.std.proofs.lemmas.Bool.Decides.{leb_tells}
use Rattle.imkl_model.specs.ClassModel.{Model, feature_at, belongs, no_feature}
use Rattle.imkl_population.specs.declared.fault.PopulationFault.{PopulationFault}
use Rattle.imkl_population.specs.declared.fault.PopulationFault.TheVariants.{WrongFeature, WrongKind, WrongClass, DuplicateTarget, Derived}
use Rattle.imkl_population.specs.declared.scalar.Scalar.{Scalar}
use Rattle.imkl_population.specs.Written.{written_in, is_set}
use Rattle.imkl_population.specs.Population.{Population, class_of}
use Rattle.imkl_model.specs.Features.{is_attribute, is_opposite, is_unique}
use Rattle.imkl_population.specs.Values.{is_of_type, is_target_of, repeats_value}
use Rattle.imkl_population.specs.Building.{bounds_fault, value_fault, link_fault}
use Rattle.imkl_population.specs.Draft.{is_sound, entry_fault_by}

sound_here : (p : Population) (o f k : ℕ) (b : Bool) (vs : List Scalar) (r : Option (List Scalar)) → is_eq (nat_cmp f k) ≡ b → is_sound p o (k, vs) ≡ true
    → (is_some r ≡ true → is_sound p o (f, unwrap_or r []) ≡ true)
    → is_some (cond b (Some vs) r) ≡ true → is_sound p o (f, unwrap_or (cond b (Some vs) r) []) ≡ true
sound_here p o f k true vs r e sound later set =
    let same : k ≡ f = sym (nat_cmp-IsAntisymmetric f k ((Equal-is (nat_cmp f k)).0 e)) in
    subst (λ (n : ℕ). is_sound p o (n, vs) ≡ true) same sound
sound_here p o f k false vs r e sound later set = later set

-- where each entry is sound, so is what is set at a feature
pub sound_in : (p : Population) (o f : ℕ) (w : List (ℕ × List Scalar)) → list_all (is_sound p o) w ≡ true → is_set w f ≡ true → is_sound p o (f, written_in w f) ≡ true
sound_in p o f [] h set = absurd (false≢true set)
sound_in p o f (e ∷ w) h set =
    let parts = and_parts (is_sound p o e) (list_all (is_sound p o) w) h in
    sound_here p o f e.0 (is_eq (nat_cmp f e.0)) e.1 (lookup (is_at (nat_cmp f)) w) refl parts.0 (sound_in p o f w parts.1) set

set_here : (n f k : ℕ) (b : Bool) (vs : List Scalar) (r : Option (List Scalar)) → is_eq (nat_cmp f k) ≡ b → k < n → (is_some r ≡ true → f < n) → is_some (cond b (Some vs) r) ≡ true → f < n
set_here n f k true vs r e below later set =
    let same : f ≡ k = nat_cmp-IsAntisymmetric f k ((Equal-is (nat_cmp f k)).0 e) in
    omega arith
set_here n f k false vs r e below later set = later set

-- what is set at a feature stands at one of the keys
pub known_in : (n f : ℕ) (w : List (ℕ × List Scalar)) → All (λ g. g < n) (keys_of w) → is_set w f ≡ true → f < n
known_in n f [] h set = absurd (false≢true set)
known_in n f (e ∷ w) h set =
    let P : ℕ → Type 0 = λ g. g < n in
    set_here n f e.0 (is_eq (nat_cmp f e.0)) e.1 (lookup (is_at (nat_cmp f)) w) refl (All-head P e.0 (keys_of w) h) (known_in n f w (All-tail P e.0 (keys_of w) h)) set

-- what is not set reads as no values
pub unset_in : (w : List (ℕ × List Scalar)) (f : ℕ) → is_set w f ≡ false → written_in w f ≡ []
unset_in w f = unset_by (lookup (is_at (nat_cmp f)) w)
  where
    unset_by : (r : Option (List Scalar)) → is_some r ≡ false → unwrap_or r [] ≡ []
    unset_by None h = refl
    unset_by (Some vs) h = absurd (false≢true (sym h))

pub record AreValues (p : Population) (o f : ℕ) (vs : List Scalar) : Type 0 where
  pub belongs_so : belongs p.model (class_of p o) f ≡ true
  pub typed : list_all (is_of_type p.model (feature_at p.model f).element) vs ≡ true
  pub apart : (is_unique (feature_at p.model f) && repeats_value vs) ≡ false
  pub bounded : bounds_fault (feature_at p.model f) o f (length vs) ≡ None

pub record AreTargets (p : Population) (o f : ℕ) (vs : List Scalar) : Type 0 where
  pub belongs_so : belongs p.model (class_of p o) f ≡ true
  pub underived : is_opposite (feature_at p.model f).role ≡ false
  pub joined : list_all (is_target_of p (feature_at p.model f).element) vs ≡ true
  pub apart : repeats_value vs ≡ false
  pub bounded : bounds_fault (feature_at p.model f) o f (length vs) ≡ None

none_is : {A : Type 0} (o : Option A) → is_none o ≡ true → o ≡ None
none_is None h = refl
none_is (Some a) h = absurd (false≢true h)

value_parts : (a t r : Bool) (q : Option PopulationFault)
    → is_none (option_or (if not a then Some WrongFeature else (if not t then Some WrongKind else None)) (if r then Some DuplicateTarget else q)) ≡ true → (a ≡ true) × (t ≡ true) × (r ≡ false) × (q ≡ None)
value_parts false t r q h = absurd (false≢true h)
value_parts true false r q h = absurd (false≢true h)
value_parts true true true q h = absurd (false≢true h)
value_parts true true false q h = (refl, refl, refl, none_is q h)

link_parts : (a d t r : Bool) (q : Option PopulationFault)
    → is_none (option_or (if not a then Some WrongFeature else (if d then Some Derived else None)) (if not t then Some WrongClass else (if r then Some DuplicateTarget else q))) ≡ true
    → (a ≡ true) × (d ≡ false) × (t ≡ true) × (r ≡ false) × (q ≡ None)
link_parts false d t r q h = absurd (false≢true h)
link_parts true true t r q h = absurd (false≢true h)
link_parts true false false r q h = absurd (false≢true h)
link_parts true false true true q h = absurd (false≢true h)
link_parts true false true false q h = (refl, refl, refl, refl, none_is q h)

-- what a sound entry of an attribute, and of an end, has
pub values_sound : (p : Population) (o f : ℕ) (vs : List Scalar) → is_attribute (feature_at p.model f).role ≡ true → is_sound p o (f, vs) ≡ true → AreValues p o f vs
values_sound p o f vs a h =
    let i : FeatureInfo = feature_at p.model f in
    let sound : is_none (value_fault p o f i vs) ≡ true = subst (λ (b : Bool). is_none (entry_fault_by b p o f i vs) ≡ true) a h in
    let parts = value_parts (belongs p.model (class_of p o) f && is_attribute i.role) (list_all (is_of_type p.model i.element) vs) (is_unique i && repeats_value vs) (bounds_fault i o f (length vs)) sound in
    record { belongs_so = (and_parts (belongs p.model (class_of p o) f) (is_attribute i.role) parts.0).0; typed = parts.1; apart = parts.2; bounded = parts.3 }

pub targets_sound : (p : Population) (o f : ℕ) (vs : List Scalar) → is_attribute (feature_at p.model f).role ≡ false → is_sound p o (f, vs) ≡ true → AreTargets p o f vs
targets_sound p o f vs a h =
    let i : FeatureInfo = feature_at p.model f in
    let sound : is_none (link_fault p o f i vs) ≡ true = subst (λ (b : Bool). is_none (entry_fault_by b p o f i vs) ≡ true) a h in
    let parts = link_parts (belongs p.model (class_of p o) f && not (is_attribute i.role)) (is_opposite i.role) (list_all (is_target_of p i.element) vs) (repeats_value vs) (bounds_fault i o f (length vs)) sound in
    record { belongs_so = (and_parts (belongs p.model (class_of p o) f) (not (is_attribute i.role)) parts.0).0; underived = parts.1; joined = parts.2; apart = parts.3; bounded = parts.4 }

-- a feature that has another role than an attribute is one of the model
pub end_within : (m : Model) (f : ℕ) → is_attribute (feature_at m f).role ≡ false → f < length m.features
end_within m f h =
    elim (leb_tells (length m.features) f) [
      | inl le ↦ absurd (false≢true (sym h ∙ ap (λ (i : FeatureInfo). is_attribute i.role) (get_or-eq_default m.features no_feature le.1)))
      | inr less ↦ less.1
    ]
