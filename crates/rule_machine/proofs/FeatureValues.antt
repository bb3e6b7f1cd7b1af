-- What is read of an object, and the instances of a class: their kinds and how long they are.
use Rattle.std.proofs.Common.{◌≡◌, ℕ, zero, suc, ◌<◌, ◌≤◌, Bool, true, false, not, ◌||◌, List, [], ◌∷◌, map, length, get_or, Option, Some, None, refl, sym, ap, ◌∙◌, subst, inl, inr, arith}
use Rattle.std.specs.Prelude.{◌==◌, nat_eq, nat_lt, is_none, if◌then◌else◌}
use Rattle.std.specs.List.{list_all, list_any, AllPass, IsDistinct, AllByRecursion}
use Rattle.std.specs.Cmp.{nat_eq_equiv}
use Rattle.std.proofs.lemmas.Bool.{and_parts, and_from, or_parts, or_left, or_right, eqb-true, eq-eqb, ltb-true, lt-ltb, ltb-false}
use Rattle.std.proofs.lemmas.Bool.Decides.{leb_tells}
use Rattle.std.proofs.lemmas.List.{length-map, get_or_push}
use Rattle.std.proofs.lemmas.List.Folds.{list_all-map, list_any_at}
use Rattle.std.proofs.lemmas.List.Sums.{list_all-from_AllPass}
use Rattle.std.proofs.Math.ListN.{get_or-append}
use Rattle.std.proofs.lemmas.Map.Made.{length-le_from_is_member}
use Rattle.ocl_base.specs.Lists.{repeats}
use Rattle.ocl_base.specs.CollectionKinds.{is_unique_kind}
use Rattle.ocl_base.proofs.ForAbove.{repeats-map, place_of, places_below, places_pass, places_apart}
use Rattle.ocl_base.specs.declared.collection_kind.CollectionKind.{CollectionKind}
use Rattle.ocl_base.specs.declared.collection_kind.CollectionKind.TheVariants as collection
use Rattle.imkl_model.specs.declared.feature.ElementType.{ElementType}
use Rattle.imkl_model.specs.declared.feature.ElementType.TheVariants as type
use Rattle.imkl_model.specs.declared.feature.FeatureInfo.{FeatureInfo}
use Rattle.imkl_model.specs.ClassModel.{conforms, feature_at, belongs}
use Rattle.imkl_model.specs.Features.{is_attribute, is_single, is_unique}
use Rattle.imkl_model.specs.WellFormed.{IsClassModel}
use Rattle.imkl_population.specs.declared.scalar.Scalar.{Scalar}
use Rattle.imkl_population.specs.declared.scalar.Scalar.TheVariants as scalar
use Rattle.imkl_population.specs.declared.fault.PopulationFault.TheVariants.{TooFew, TooMany}
use Rattle.imkl_population.specs.Population.{Population, class_of, values_of, is_instance, instances, targets}
use Rattle.imkl_population.specs.Values.{is_of_type, is_target_of, same_scalar, repeats_value, is_over}
use Rattle.imkl_population.specs.Building.{bounds_fault}
use Rattle.imkl_population.specs.Consistency.{IsConsistent}
use Rattle.imkl_population.specs.Sizes.{list_below, count_of, longest_below, longest_of, is_unbounded, sizes_of}
use Rattle.imkl_population.proofs.ForAbove.{length-list_below, list_all-weaker}
use Rattle.ocl_kinds.specs.declared.kind.ScalarKind.{ScalarKind}
use Rattle.ocl_kinds.specs.declared.kind.ScalarKind.TheVariants as element
use Rattle.ocl_kinds.specs.declared.kind.Kind.TheVariants as kind
use Rattle.ocl_kinds.specs.Kinds.{element_kind, feature_kind}
use Rattle.ocl_kinds.proofs.ForAbove.{same_collection_itself}
use Rattle.rule_cost.specs.Bounds.{class_size, attribute_length, within_upper, end_length, feature_length}
use Rattle.rule_values.specs.Value as value
use Rattle.rule_values.specs.Value.{Element, same_element, is_scalar_in, is_element_in, are_elements, is_in}
use Rattle.rule_values.specs.Operations.{single_value, feature_value, all_instances}
use Rattle.rule_machine.specs.Machine.{Setting}
use Rattle.rule_machine.specs.Places.{place, At, sizes_in}
use Rattle.rule_machine.proofs.InKinds.{single_at}

-- ---- lists

-- elements that are never null
all_some : (p : Population) (k : ScalarKind) (vs : List Scalar) → list_all (λ v. is_scalar_in p v k) vs ≡ true → list_all (is_element_in p k) (map Some vs) ≡ true
all_some p k vs h = list_all-map (is_element_in p k) Some vs ∙ h

-- elements apart, where a collection must have them so
elements_apart : (c : CollectionKind) (vs : List Scalar) → (is_unique_kind c ≡ true → repeats_value vs ≡ false) → are_elements c (map Some vs) ≡ true
elements_apart c vs apart = by_test (is_unique_kind c) apart
  where
    by_test : (b : Bool) → (b ≡ true → repeats_value vs ≡ false) → (not b || not (repeats same_element (map Some vs))) ≡ true
    by_test true apart = ap not (repeats-map same_element Some vs ∙ apart refl)
    by_test false apart = refl

-- ---- the values of a feature are in its kind

of_type_in : (p : Population) (t : ElementType) (v : Scalar) → is_of_type p.model t v ≡ true → is_scalar_in p v (element_kind t) ≡ true
of_type_in p type.Boolean (scalar.Bool b) h = refl
of_type_in p type.Integer (scalar.Int n) h = h
of_type_in p type.String (scalar.Text t) h = refl
of_type_in p (type.Enumeration e) (scalar.Literal d l) h = h
of_type_in p t v h = cc

target_in : (p : Population) (t : ElementType) (v : Scalar) → is_target_of p t v ≡ true → is_scalar_in p v (element_kind t) ≡ true
target_in p (type.Class c) (scalar.Object o) h = h
target_in p t v h = cc

values_in : (p : Population) (o f : ℕ) → IsConsistent p → o < length p.objects → list_all (λ v. is_scalar_in p v (element_kind (feature_at p.model f).element)) (values_of p o f) ≡ true
values_in p o f c lt = by_role (is_attribute (feature_at p.model f).role) (c.typed o f lt) (c.joined o f lt)
  where
    by_role : (b : Bool) → (b ≡ true → list_all (is_of_type p.model (feature_at p.model f).element) (values_of p o f) ≡ true) → (b ≡ false → list_all (is_target_of p (feature_at p.model f).element) (values_of p o f) ≡ true) → list_all (λ v. is_scalar_in p v (element_kind (feature_at p.model f).element)) (values_of p o f) ≡ true
    by_role true typed joined = list_all-weaker (is_of_type p.model (feature_at p.model f).element) _ (of_type_in p (feature_at p.model f).element) (values_of p o f) (typed refl)
    by_role false typed joined = list_all-weaker (is_target_of p (feature_at p.model f).element) _ (target_in p (feature_at p.model f).element) (values_of p o f) (joined refl)

-- what has targets is of a class
target_class : (p : Population) (t : ElementType) (v : Scalar) → is_target_of p t v ≡ true → (d : ℕ) × (t ≡ type.Class d)
target_class p (type.Class d) v h = (d, refl)
target_class p t v h = cc

-- ---- distinct objects of a class are at most its instances

all_targets : (p : Population) (t : ElementType) (vs : List Scalar) → list_all (is_target_of p t) vs ≡ true → length (targets vs) ≡ length vs
all_targets p t [] h = refl
all_targets p (type.Class c) (scalar.Object o ∷ vs) h =
    ap suc (all_targets p (type.Class c) vs (and_parts (is_target_of p (type.Class c) (scalar.Object o)) (list_all (is_target_of p (type.Class c)) vs) h).1)
all_targets p t (v ∷ vs) h = cc

target_apart : (o : ℕ) (vs : List Scalar) → list_any (same_scalar (scalar.Object o)) vs ≡ false → AllByRecursion (λ y. nat_eq o y ≡ false) (targets vs)
target_apart o [] h = tt
target_apart o (scalar.Object q ∷ vs) h =
    let parts = or_parts (o == q) (list_any (same_scalar (scalar.Object o)) vs) h in
    (parts.0, target_apart o vs parts.1)
target_apart o (v ∷ vs) h = target_apart o vs h

targets_apart : (vs : List Scalar) → repeats_value vs ≡ false → IsDistinct nat_eq (targets vs)
unfolding IsDistinct
targets_apart [] h = tt
targets_apart (scalar.Object o ∷ vs) h =
    let parts = or_parts (list_any (same_scalar (scalar.Object o)) vs) (repeats_value vs) h in
    (target_apart o vs parts.0, targets_apart vs parts.1)
targets_apart (v ∷ vs) h = targets_apart vs (or_parts (list_any (same_scalar v) vs) (repeats_value vs) h).1

target_there : (p : Population) (c q : ℕ) (vs : List Scalar) → list_all (is_target_of p (type.Class c)) vs ≡ true → list_any (nat_eq q) (targets vs) ≡ true → (q < length p.objects) × (is_instance p c q ≡ true)
target_there p c q [] a h = cc
target_there p c q (scalar.Object o ∷ vs) a h =
    let parts = and_parts (is_target_of p (type.Class c) (scalar.Object o)) (list_all (is_target_of p (type.Class c)) vs) a in
    let its = and_parts (nat_lt o (length p.objects)) (conforms p.model (class_of p o) c) parts.0 in
    by_test (nat_eq q o) refl its (λ h. target_there p c q vs parts.1 h) h
  where
    by_test : (b : Bool) → nat_eq q o ≡ b → (nat_lt o (length p.objects) ≡ true) × (conforms p.model (class_of p o) c ≡ true) → (list_any (nat_eq q) (targets vs) ≡ true → (q < length p.objects) × (is_instance p c q ≡ true)) → (b || list_any (nat_eq q) (targets vs)) ≡ true → (q < length p.objects) × (is_instance p c q ≡ true)
    by_test true e its go h =
        let same : q ≡ o = eqb-true q o e in
        (omega (arith, same, ltb-true o (length p.objects) its.0), ap (is_instance p c) same ∙ its.1)
    by_test false e its go h = go h
target_there p c q (v ∷ vs) a h = cc

instance_there : (p : Population) (c q : ℕ) → q < length p.objects → is_instance p c q ≡ true → list_any (nat_eq q) (instances p c) ≡ true
instance_there p c q lt its =
    let w = place_of (is_instance p c) (length p.objects) q lt its in
    list_any_at (nat_eq q) (instances p c) w.0 0 w.1 (eq-eqb q (get_or (instances p c) w.0 0) (sym w.2))

-- objects of a class, none twice
pub few_targets : (p : Population) (t : ElementType) (c : ℕ) (vs : List Scalar) → t ≡ type.Class c → list_all (is_target_of p t) vs ≡ true → repeats_value vs ≡ false → length vs ≤ count_of p c
few_targets p t c vs is all apart =
    let a = subst (λ t. list_all (is_target_of p t) vs ≡ true) is all in
    let le = length-le_from_is_member nat_eq_equiv (targets vs) (instances p c) (targets_apart vs apart) (λ q h. let its = target_there p c q vs a h in instance_there p c q its.0 its.1) in
    omega (arith, le, all_targets p (type.Class c) vs a)

-- ---- sizes

get_below : (g : ℕ → ℕ) (n k : ℕ) → k < n → get_or (list_below g n) k 0 ≡ g k
get_below g zero k lt = absurd (omega arith)
get_below g (suc n) k lt =
    elim (leb_tells n k) [
      | inl h ↦ let same : k ≡ n = omega (arith, h.1, lt) in get_or_push (list_below g n) (g n) 0 k (length-list_below g n ∙ sym same) ∙ ap g (sym same)
      | inr h ↦ get_or-append (list_below g n) (g n ∷ []) 0 k (omega (arith, h.1, length-list_below g n)) ∙ get_below g n k h.1
    ]

longest_above : (p : Population) (f n o : ℕ) → o < n → length (values_of p o f) ≤ longest_below p f n
longest_above p f zero o lt = absurd (omega arith)
longest_above p f (suc n) o lt =
    elim (leb_tells n o) [
      | inl h ↦ let same : length (values_of p o f) ≡ length (values_of p n f) = ap (λ x. length (values_of p x f)) (omega (arith, h.1, lt)) in omega (arith, same)
      | inr h ↦ omega (arith, longest_above p f n o h.1)
    ]

class_size_is : (p : Population) (c : ℕ) → c < length p.model.classes → class_size (sizes_of p) c ≡ count_of p c
class_size_is p c lt = get_below (count_of p) (length p.model.classes) c lt

-- ---- the length of a feature's value

not_over : (i : FeatureInfo) (o f n u : ℕ) → i.upper ≡ Some u → bounds_fault i o f n ≡ None → n ≤ u
not_over i o f n u e h = by_lower (nat_lt n i.lower) h
  where
    by_upper : (b : Bool) → nat_lt u n ≡ b → (if b then Some (TooMany o f) else None) ≡ None → n ≤ u
    by_upper true t h = cc
    by_upper false t h = omega (arith, ltb-false u n t)

    by_lower : (b : Bool) → (if b then Some (TooFew o f) else (if is_over i.upper n then Some (TooMany o f) else None)) ≡ None → n ≤ u
    by_lower true h = cc
    by_lower false h = by_upper (nat_lt u n) refl (ap (λ x. if is_over x n then Some (TooMany o f) else None) (sym e) ∙ h)

module _ (p : Population) (o f : ℕ) (m : IsClassModel p.model) (c : IsConsistent p) (lt : o < length p.objects) (known : f < length p.model.features) (its : belongs p.model (class_of p o) f ≡ true) where
  attribute_within : (upper : Option ℕ) → (feature_at p.model f).upper ≡ upper → is_attribute (feature_at p.model f).role ≡ true → length (values_of p o f) ≤ attribute_length (sizes_of p) f upper
  attribute_within (Some u) e r = not_over (feature_at p.model f) o f (length (values_of p o f)) u e (c.bounded o f lt known its)
  attribute_within None e r =
      let unbounded : is_unbounded (feature_at p.model f) ≡ true = and_from _ _ r (ap is_none e) in
      let longest = get_below (longest_of p) (length p.model.features) f known in
      let all : longest_of p f ≡ longest_below p f (length p.objects) = ap (λ b. if b then longest_below p f (length p.objects) else 0) unbounded in
      omega (arith, longest, all, longest_above p f (length p.objects) o lt)

  within_bound : (n : ℕ) (upper : Option ℕ) → (feature_at p.model f).upper ≡ upper → length (values_of p o f) ≤ n → length (values_of p o f) ≤ within_upper upper n
  within_bound n (Some u) e le =
      let few = not_over (feature_at p.model f) o f (length (values_of p o f)) u e (c.bounded o f lt known its) in
      omega (arith, few, le)
  within_bound n None e le = le

  class_within : (d : ℕ) → (feature_at p.model f).element ≡ type.Class d → is_attribute (feature_at p.model f).role ≡ false → length (values_of p o f) ≤ end_length (sizes_of p) (feature_at p.model f).element (feature_at p.model f).upper
  class_within d e r =
      let unique : is_unique (feature_at p.model f) ≡ true = or_left _ _ (ap not r) in
      let few = few_targets p (feature_at p.model f).element d (values_of p o f) e (c.joined o f lt r) (c.apart o f lt unique) in
      let within = within_bound (class_size (sizes_of p) d) (feature_at p.model f).upper refl (omega (arith, few, class_size_is p d (m.known_classes f d known e))) in
      subst (λ t. length (values_of p o f) ≤ end_length (sizes_of p) t (feature_at p.model f).upper) (sym e) within

  end_within : (vs : List Scalar) → values_of p o f ≡ vs → is_attribute (feature_at p.model f).role ≡ false → length (values_of p o f) ≤ end_length (sizes_of p) (feature_at p.model f).element (feature_at p.model f).upper
  end_within [] e r = let none : length (values_of p o f) ≡ 0 = ap length e in omega (arith, none)
  end_within (v ∷ vs) e r =
      let joined = subst (λ l. list_all (is_target_of p (feature_at p.model f).element) l ≡ true) e (c.joined o f lt r) in
      let d = target_class p (feature_at p.model f).element v (and_parts (is_target_of p (feature_at p.model f).element v) (list_all (is_target_of p (feature_at p.model f).element) vs) joined).0 in
      class_within d.0 d.1 r

  length_within : length (values_of p o f) ≤ feature_length (sizes_of p) f (feature_at p.model f)
  length_within = by_role (is_attribute (feature_at p.model f).role) refl
    where
      by_role : (b : Bool) → is_attribute (feature_at p.model f).role ≡ b → length (values_of p o f) ≤ (if b then attribute_length (sizes_of p) f (feature_at p.model f).upper else end_length (sizes_of p) (feature_at p.model f).element (feature_at p.model f).upper)
      by_role true r = attribute_within (feature_at p.model f).upper refl r
      by_role false r = end_within (values_of p o f) refl r

  -- what is read of an object is in the feature's kind, and no longer than its bound
  pub feature_value_at : (s : Setting) → s.population ≡ p → At s (feature_value (feature_at p.model f) (values_of p o f)) (place (feature_kind (feature_at p.model f)) (feature_length (sizes_of p) f (feature_at p.model f)))
  feature_value_at s is = by_upper (is_single (feature_at p.model f).upper) refl
    where
      single_in : (k : ScalarKind) (vs : List Scalar) → list_all (λ v. is_scalar_in p v k) vs ≡ true → is_in p (single_value vs) (kind.Scalar k) ≡ true
      single_in k [] h = refl
      single_in k (v ∷ vs) h = (and_parts (is_scalar_in p v k) (list_all (λ v. is_scalar_in p v k) vs) h).0

      apart_if : is_single (feature_at p.model f).upper ≡ false → is_unique_kind (feature_at p.model f).kind ≡ true → repeats_value (values_of p o f) ≡ false
      apart_if e u = c.apart o f lt (or_right _ _ (and_from _ _ (ap not e) u))

      by_upper : (b : Bool) → is_single (feature_at p.model f).upper ≡ b → At s (if b then single_value (values_of p o f) else value.Collection (feature_at p.model f).kind (map Some (values_of p o f))) (place (if b then kind.Scalar (element_kind (feature_at p.model f).element) else kind.Collection (feature_at p.model f).kind (element_kind (feature_at p.model f).element)) (feature_length (sizes_of p) f (feature_at p.model f)))
      by_upper true e = single_at s (single_value (values_of p o f)) (element_kind (feature_at p.model f).element) _ (subst (λ q. is_in q (single_value (values_of p o f)) (kind.Scalar (element_kind (feature_at p.model f).element)) ≡ true) (sym is) (single_in _ (values_of p o f) (values_in p o f c lt)))
      by_upper false e =
          let elements = and_from _ _ (elements_apart (feature_at p.model f).kind (values_of p o f) (apart_if e)) (all_some p (element_kind (feature_at p.model f).element) (values_of p o f) (values_in p o f c lt)) in
          record {
            in_kind = subst (λ q. is_in q (value.Collection (feature_at p.model f).kind (map Some (values_of p o f))) (kind.Collection (feature_at p.model f).kind (element_kind (feature_at p.model f).element)) ≡ true) (sym is) (and_from _ _ (same_collection_itself (feature_at p.model f).kind) elements);
            within = omega (arith, length_within, length-map (values_of p o f) Some);
          }

-- ---- the instances of a class

-- the instances of a class are a Set of objects of that class, as long as the class is large
pub all_instances_at : (s : Setting) (c : ℕ) → c < length s.population.model.classes → At s (all_instances s.population c) (place (kind.Collection collection.Set (element.Class c)) (class_size (sizes_in s) c))
all_instances_at s c lt =
    let p = s.population in
    let object : ℕ → Element = λ o. Some (scalar.Object o) in
    let of_class : Element → Bool = is_element_in p (element.Class c) in
    let apart : repeats same_element (map object (instances p c)) ≡ false = repeats-map same_element object (instances p c) ∙ places_apart (is_instance p c) (length p.objects) in
    let all : AllPass (λ o. of_class (object o)) (instances p c) =
    λ k d within. and_from _ _ (lt-ltb (get_or (instances p c) k d) (length p.objects) (places_below (is_instance p c) (length p.objects) k d within)) (places_pass (is_instance p c) (length p.objects) k d within) in
    record {
      in_kind = and_from _ _ (ap not apart) (list_all-map of_class object (instances p c) ∙ list_all-from_AllPass (λ o. of_class (object o)) (instances p c) all);
      within = omega (arith, class_size_is p c lt, length-map (instances p c) object);
    }
