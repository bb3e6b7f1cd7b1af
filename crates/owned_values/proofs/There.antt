-- Everything is there in what operations and iterations give, where it is in what they are given.
use Rattle.std.proofs.Common.{◌≡◌, ℕ, suc, ◌<◌, Bool, true, false, List, [], ◌∷◌, ◌++◌, length, map, Option, Some, None, refl, sym, ap, subst, inl, inr, arith, All}
use Rattle.std.specs.Prelude.{ℤ, pos, negsuc, if◌then◌else◌}
use Rattle.std.specs.List.{AllByRecursion, list_all, filter_map}
use Rattle.std.specs.Option.{option_map}
use Rattle.std.proofs.lemmas.Bool.{false≢true, and_parts, eqb-true, ltb-true}
use Rattle.std.proofs.lemmas.Bool.Decides.{leb_tells}
use Rattle.std.proofs.lemmas.List.{get_or_past}
use Rattle.ocl_base.specs.Lists.{is_among}
use Rattle.ocl_base.proofs.ForAbove.{places_below, all_joined, all_mapped}
use Rattle.ocl_base.specs.declared.collection_kind.CollectionKind.{CollectionKind}
use Rattle.imkl_model.specs.declared.feature.ElementType.{ElementType}
use Rattle.imkl_model.specs.declared.feature.ElementType.TheVariants as type
use Rattle.imkl_model.specs.declared.feature.FeatureInfo.{FeatureInfo}
use Rattle.imkl_model.specs.ClassModel.{enumeration_at, no_enumeration, feature_at, belongs}
use Rattle.imkl_model.specs.Features.{is_attribute, is_single}
use Rattle.imkl_population.specs.declared.scalar.Scalar.{Scalar}
use Rattle.imkl_population.specs.declared.scalar.Scalar.TheVariants as scalar
use Rattle.imkl_population.specs.Population.{Population, class_of, values_of, instances, is_instance}
use Rattle.imkl_population.specs.Consistency.{IsConsistent}
use Rattle.imkl_population.specs.Values.{is_integer, is_of_type, is_target_of}
use Rattle.rule_values.specs.Value.{Element, Value, Invalid, Null, Single, Collection, truth_value, object_value, element_value, as_element, same_element}
use Rattle.rule_values.specs.Operations.{integer_value, on_integers, on_integer, truth_known, unless_invalid, characters, substring, on_object, single_value, feature_value, value_read, or_invalid, all_instances, as_collection, on_elements, on_element, sum_of, summation, distinct_after, as_set}
use Rattle.rule_values.specs.Endings.{collection_elements, joined, kept_by}
use Rattle.owned_values.specs.Meant.{IsScalarThere, IsElementThere, IsValueThere}

module _ (p : Population) where
  abbrev There : Value → Type 0
  There v = IsValueThere p v

  abbrev AreAll : List Element → Type 0
  AreAll es = AllByRecursion (IsElementThere p) es

  -- ---- operations on single values

  -- one of two values
  pub if_there : (b : Bool) (v w : Value) → There v → There w → There (if b then v else w)
  if_there true v w h g = h
  if_there false v w h g = g

  pub known_there : (a b : Bool) → There (truth_known a b)
  known_there true b = tt
  known_there false true = tt
  known_there false false = tt

  pub integer_there : (n : ℤ) → There (integer_value n)
  integer_there n = if_there (is_integer n) (Single (scalar.Int n)) Invalid tt tt

  pub on_integers_there : (f : ℤ → ℤ → Value) (v w : Value) → ((a b : ℤ) → There (f a b)) → There (on_integers f v w)
  on_integers_there f (Single (scalar.Int a)) (Single (scalar.Int b)) h = h a b
  on_integers_there f v w h = tt

  pub on_integer_there : (f : ℤ → Value) (v : Value) → ((a : ℤ) → There (f a)) → There (on_integer f v)
  on_integer_there f (Single (scalar.Int a)) h = h a
  on_integer_there f v h = tt

  characters_there : (t : List ℕ) (a b : ℤ) → There (characters t a b)
  characters_there t (pos a) (pos b) = if_there _ (Single (scalar.Text _)) Invalid tt tt
  characters_there t (pos a) (negsuc b) = tt
  characters_there t (negsuc a) b = tt

  pub substring_there : (v lower upper : Value) → There (substring v lower upper)
  substring_there (Single (scalar.Text t)) lower upper = on_integers_there (characters t) lower upper (characters_there t)
  substring_there v lower upper = tt

  pub unless_there : (v w : Value) (b : Bool) → There (unless_invalid v w b)
  unless_there v w b = if_there _ Invalid (truth_value b) tt tt

  -- ---- objects

  pub on_object_there : (f : ℕ → Value) (v : Value) → ((o : ℕ) → There (object_value o) → There (f o)) → There v → There (on_object f v)
  on_object_there f (Single (scalar.Object o)) h there = h o there
  on_object_there f v h there = tt

  single_there : (vs : List Scalar) → AllByRecursion (IsScalarThere p) vs → There (single_value vs)
  single_there [] h = tt
  single_there (v ∷ vs) h = h.0

  pub feature_there : (f : FeatureInfo) (vs : List Scalar) → AllByRecursion (IsScalarThere p) vs → There (feature_value f vs)
  feature_there f vs h =
      if_there (is_single f.upper) (single_value vs) (Collection f.kind (map Some vs)) (single_there vs h)
      (all_mapped (IsScalarThere p) (IsElementThere p) Some (λ v here. here) vs h)

  -- ---- collections

  pub as_collection_there : (c : CollectionKind) (v : Value) → There v → There (as_collection c v)
  as_collection_there c Null h = tt
  as_collection_there c (Single v) h = (h, tt)
  as_collection_there c Invalid h = tt
  as_collection_there c (Collection d es) h = tt

  pub on_elements_there : (f : List Element → Value) (v : Value) → ((es : List Element) → AreAll es → There (f es)) → There v → There (on_elements f v)
  on_elements_there f (Collection c es) h there = h es there
  on_elements_there f Invalid h there = tt
  on_elements_there f Null h there = tt
  on_elements_there f (Single v) h there = tt

  pub on_element_there : (f : Element → Value) (v : Value) → ((e : Element) → There (f e)) → There (on_element f v)
  on_element_there f Null h = h None
  on_element_there f (Single v) h = h (Some v)
  on_element_there f v h = tt

  sum_there : (o : Option ℤ) → There (or_invalid (option_map integer_value o))
  sum_there None = tt
  sum_there (Some n) = integer_there n

  pub summation_there : (v : Value) → There v → There (summation v)
  summation_there v h = on_elements_there _ v (λ es there. sum_there (sum_of es)) h

  passed_there : (b : Bool) (e : Element) (es fs : List Element) → IsElementThere p e → AreAll es → AreAll fs → AreAll (if b then es else e ∷ fs)
  passed_there true e es fs here h g = h
  passed_there false e es fs here h g = (here, g)

  distinct_there : (before es : List Element) → AreAll es → AreAll (distinct_after before es)
  distinct_there before [] h = tt
  distinct_there before (e ∷ es) h =
      passed_there (is_among same_element before e) e _ _ h.0 (distinct_there before es h.1) (distinct_there (before ++ e ∷ []) es h.1)

  pub as_set_there : (v : Value) → There v → There (as_set v)
  as_set_there v h = on_elements_there _ v (λ es there. distinct_there [] es there) h

  -- ---- what iterations give

  pub element_there : (e : Element) → IsElementThere p e → There (element_value e)
  element_there None h = tt
  element_there (Some v) h = h

  taken_there : (b : Bool) (e : Element) (es : List Element) → IsElementThere p e → AreAll es → AreAll (if b then e ∷ es else es)
  taken_there true e es here h = (here, h)
  taken_there false e es here h = h

  pub kept_there : (test : Value → Bool) (es : List Element) (bs : List Value) → AreAll es → AreAll (kept_by test es bs)
  kept_there test [] bs h = tt
  kept_there test (e ∷ es) [] h = tt
  kept_there test (e ∷ es) (b ∷ bs) h = taken_there (test b) e (kept_by test es bs) h.0 (kept_there test es bs h.1)

  pub collected_there : (bs : List Value) → AllByRecursion There bs → AreAll (filter_map as_element bs)
  collected_there [] h = tt
  collected_there (Invalid ∷ bs) h = collected_there bs h.1
  collected_there (Null ∷ bs) h = (tt, collected_there bs h.1)
  collected_there (Single v ∷ bs) h = (h.0, collected_there bs h.1)
  collected_there (Collection c es ∷ bs) h = collected_there bs h.1

  elements_there : (v : Value) → There v → AreAll (collection_elements v)
  elements_there Invalid h = tt
  elements_there Null h = tt
  elements_there (Single v) h = tt
  elements_there (Collection c es) h = h

  pub joined_there : (bs : List Value) → AllByRecursion There bs → AreAll (joined bs)
  joined_there [] h = tt
  joined_there (b ∷ bs) h = all_joined (IsElementThere p) (collection_elements b) (joined bs) (elements_there b h.0) (joined_there bs h.1)

  -- ---- what stands in the population

  -- an enumeration that has a literal is there
  pub enumeration_there : (e l : ℕ) → l < length (enumeration_at p.model e).literals → e < length p.model.enumerations
  enumeration_there e l lt = elim (leb_tells (length p.model.enumerations) e) [
    | inl h ↦ absurd (let none = get_or_past p.model.enumerations e no_enumeration h.1 in omega (arith, lt, ap (λ x. length x.literals) none))
    | inr h ↦ h.1
  ]

  of_type_there : (t : ElementType) (v : Scalar) → is_of_type p.model t v ≡ true → IsScalarThere p v
  of_type_there t (scalar.Bool b) h = tt
  of_type_there t (scalar.Int n) h = tt
  of_type_there t (scalar.Text s) h = tt
  of_type_there (type.Enumeration e) (scalar.Literal d l) h =
      let parts = and_parts _ _ h in
      let same : d ≡ e = eqb-true d e parts.0 in
      let lt : l < length (enumeration_at p.model d).literals = subst (λ (k : ℕ). l < length (enumeration_at p.model k).literals) (sym same) (ltb-true _ _ parts.1) in
      (enumeration_there d l lt, lt)
  of_type_there type.Boolean (scalar.Literal d l) h = absurd (false≢true h)
  of_type_there type.Integer (scalar.Literal d l) h = absurd (false≢true h)
  of_type_there type.String (scalar.Literal d l) h = absurd (false≢true h)
  of_type_there (type.Class c) (scalar.Literal d l) h = absurd (false≢true h)
  of_type_there type.Boolean (scalar.Object o) h = absurd (false≢true h)
  of_type_there type.Integer (scalar.Object o) h = absurd (false≢true h)
  of_type_there type.String (scalar.Object o) h = absurd (false≢true h)
  of_type_there (type.Enumeration e) (scalar.Object o) h = absurd (false≢true h)
  of_type_there (type.Class c) (scalar.Object o) h = absurd (false≢true h)

  target_there : (t : ElementType) (v : Scalar) → is_target_of p t v ≡ true → IsScalarThere p v
  target_there t (scalar.Bool b) h = tt
  target_there t (scalar.Int n) h = tt
  target_there t (scalar.Text s) h = tt
  target_there (type.Class c) (scalar.Object o) h = ltb-true _ _ (and_parts _ _ h).0
  target_there type.Boolean (scalar.Object o) h = absurd (false≢true h)
  target_there type.Integer (scalar.Object o) h = absurd (false≢true h)
  target_there type.String (scalar.Object o) h = absurd (false≢true h)
  target_there (type.Enumeration e) (scalar.Object o) h = absurd (false≢true h)
  target_there type.Boolean (scalar.Literal d l) h = absurd (false≢true h)
  target_there type.Integer (scalar.Literal d l) h = absurd (false≢true h)
  target_there type.String (scalar.Literal d l) h = absurd (false≢true h)
  target_there (type.Enumeration e) (scalar.Literal d l) h = absurd (false≢true h)
  target_there (type.Class c) (scalar.Literal d l) h = absurd (false≢true h)

  tested_there : (test : Scalar → Bool) → ((v : Scalar) → test v ≡ true → IsScalarThere p v) → (vs : List Scalar) → list_all test vs ≡ true → AllByRecursion (IsScalarThere p) vs
  tested_there test step [] h = tt
  tested_there test step (v ∷ vs) h =
      let parts = and_parts (test v) (list_all test vs) h in
      (step v parts.0, tested_there test step vs parts.1)

  objects_there : (os : List ℕ) → All (λ k. k < length p.objects) os → AreAll (map (λ o. Some (scalar.Object o)) os)
  objects_there [] h = tt
  objects_there (o ∷ os) h = (h 0 o (omega arith), objects_there os (λ k d lt. h (suc k) d (omega (arith, lt))))

  pub instances_there : (c : ℕ) → There (all_instances p c)
  instances_there c = objects_there (instances p c) (places_below (is_instance p c) (length p.objects))

  module _ (consistent : IsConsistent p) where
    values_by : (o f : ℕ) (b : Bool) → o < length p.objects → is_attribute (feature_at p.model f).role ≡ b → AllByRecursion (IsScalarThere p) (values_of p o f)
    values_by o f true lt e = tested_there _ (of_type_there (feature_at p.model f).element) (values_of p o f) (consistent.typed o f lt e)
    values_by o f false lt e = tested_there _ (target_there (feature_at p.model f).element) (values_of p o f) (consistent.joined o f lt e)

    read_by : (o f : ℕ) (b : Bool) → o < length p.objects → There (or_invalid (if b then Some (feature_value (feature_at p.model f) (values_of p o f)) else None))
    read_by o f true lt = feature_there (feature_at p.model f) (values_of p o f) (values_by o f _ lt refl)
    read_by o f false lt = tt

    -- so is everything in what is read of an object that is there
    pub read_there : (f : ℕ) (v : Value) → There v → There (or_invalid (value_read p f v))
    read_there f (Single (scalar.Object o)) h = read_by o f (belongs p.model (class_of p o) f) h
    read_there f Null h = tt
    read_there f Invalid h = tt
    read_there f v h = tt
