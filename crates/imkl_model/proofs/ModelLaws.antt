-- What holds of every class model.
use Rattle.std.proofs.Common.{◌≡◌, ◌↔◌, ℕ, zero, suc, ◌+◌, ◌<◌, ◌⊎◌, inl, inr, Bool, true, false, List, [], ◌∷◌, length, get_or, map, eqb, nat_eq, bytes_eq, position, Some, refl, sym, ap, subst, ◌∙◌, arith, Option, None, IfSome, ◌≤◌}
use Rattle.std.specs.List.{list_any, position_or_len}
use Rattle.std.proofs.lemmas.Bool.{false≢true, cases_Bool, or_parts, lt-ltb, eq-eqb, eqb-true}
use Rattle.std.proofs.lemmas.Bool.Decides.{Decides-eqb}
use Rattle.std.proofs.lemmas.List.{length-map, get_or-map, length-append, get_or_append_left, get_or-append-add}
use Rattle.std.proofs.lemmas.List.Quantifiers.{position-Some}
use Rattle.std.proofs.lemmas.List.Sums.{position_or_len_is}
use Rattle.std.proofs.lemmas.Slice.Eq.{bytes_eq-Decides}
use Rattle.ocl_base.specs.Lists.{repeats}
use Rattle.ocl_base.proofs.ForAbove.{stands_once}
use Rattle.imkl_model.specs.declared.entry.Class.{Class}
use Rattle.imkl_model.specs.declared.entry.Enumeration.{Enumeration}
use Rattle.imkl_model.specs.Chains.{is_super, Chain, Reaches, IsOrReaches}
use Rattle.imkl_model.specs.declared.feature.ElementType.{ElementType}
use Rattle.imkl_model.specs.declared.feature.ElementType.TheVariants as element
use Rattle.imkl_model.specs.declared.feature.Role.{Role}
use Rattle.imkl_model.specs.declared.feature.Role.TheVariants as role
use Rattle.imkl_model.specs.Features.{is_attribute, is_single}
use Rattle.imkl_model.specs.declared.limits.TheConstants.{MAX_BOUND}
use Rattle.imkl_model.specs.Words.{is_predefined}
use Rattle.imkl_model.specs.ClassModel.{Model, supers, class_at, no_class, enumeration_at, no_enumeration, feature_at, class_names, enumeration_names, has_clash, IsClash}
use Rattle.imkl_model.specs.WellFormed.{IsClassModel, IsModelName, type_names}
use Rattle.imkl_model.specs.Laws as laws
use Rattle.imkl_model.proofs.Warshall.{is_or_reaches-decides}
use Rattle.imkl_model.proofs.Cycles.{cyclic-decides}
use Rattle.imkl_model.proofs.ClashLaws.{found_clash}
use Rattle.imkl_model.proofs.ClashGroups.{any_of}
use Rattle.imkl_model.proofs.Repeated.{one_place, repeats_front, repeats_back}
use Rattle.imkl_model.proofs.Parts.{not_repeated}
use Rattle.imkl_model.proofs.Lookup.{distinct, found_in_range, found_belongs, found_named, the_feature}

-- ---- conformance

-- one chain after another
joins : (supers : List (List ℕ)) (n c d e : ℕ) → Chain supers n c d → IsOrReaches supers d e → IsOrReaches supers c e
joins supers zero c d e h r = subst (λ (x : ℕ). IsOrReaches supers x e) (sym h) r
joins supers (suc n) c d e h r = let rest = joins supers n h.0 d e h.2 r in (suc rest.0, (h.0, h.1, rest.1))

-- a class that reaches one from which it is reached reaches itself
same_or_cyclic : (supers : List (List ℕ)) (c d : ℕ) → IsOrReaches supers c d → IsOrReaches supers d c → (c ≡ d) ⊎ Reaches supers c c
same_or_cyclic supers c d (zero, h) r = inl h
same_or_cyclic supers c d (suc n, h) r = inr (let rest = joins supers n h.0 d c h.2 r in (rest.0, (h.0, h.1, rest.1)))

-- each class conforms to itself
pub conforms_to_itself : (m : Model) → laws.ConformsToItself m
conforms_to_itself m c = (is_or_reaches-decides (supers m) c c).1 (0, refl)

-- a class that conforms to another conforms to each one that the other conforms to
pub conforms_along : (m : Model) → laws.ConformsAlong m
conforms_along m c d e a b =
    let first = (is_or_reaches-decides (supers m) c d).0 a in
    (is_or_reaches-decides (supers m) c e).1 (joins (supers m) first.0 c d e first.1 ((is_or_reaches-decides (supers m) d e).0 b))

-- a feature of a class belongs to each class that conforms to it
pub inherits : (m : Model) → laws.Inherits m
inherits m c d f a b = conforms_along m c d (feature_at m f).owner a b

-- no two classes conform to each other
pub conforms_one_way : (m : Model) → IsClassModel m → laws.ConformsOneWay m
conforms_one_way m well c d a b =
    elim (same_or_cyclic (supers m) c d ((is_or_reaches-decides (supers m) c d).0 a) ((is_or_reaches-decides (supers m) d c).0 b)) [
      | inl same ↦ same
      | inr cyclic ↦ absurd (false≢true (sym well.acyclic ∙ (cyclic-decides (supers m)).1 (c, cyclic)))
    ]

super_within : (m : Model) → IsClassModel m → (c e : ℕ) → c < length m.classes → is_super (supers m) c e ≡ true → e < length m.classes
super_within m well c e lt s =
    let row : get_or (supers m) c [] ≡ (class_at m c).supers = get_or-map (λ (k : Class). k.supers) m.classes c no_class [] lt in
    let here : list_any (λ x. eqb x e) (class_at m c).supers ≡ true = ap (λ (xs : List ℕ). list_any (λ x. eqb x e) xs) (sym row) ∙ s in
    let found = any_of (λ x. eqb x e) (class_at m c).supers here in
    let same : get_or (class_at m c).supers found.0 0 ≡ e = (Decides-eqb (get_or (class_at m c).supers found.0 0) e).0 found.2 in
    subst (λ (x : ℕ). x < length m.classes) same (well.known_supers c no_class lt found.0 0 found.1)

chain_within : (m : Model) → IsClassModel m → (n c d : ℕ) → c < length m.classes → Chain (supers m) n c d → d < length m.classes
chain_within m well zero c d lt h = subst (λ (x : ℕ). x < length m.classes) h lt
chain_within m well (suc n) c d lt h = chain_within m well n h.0 d (super_within m well c h.0 lt h.1) h.2

-- what a class conforms to is a class of the model
pub conforms_within : (m : Model) → IsClassModel m → laws.ConformsWithin m
conforms_within m well c d lt a = let chain = (is_or_reaches-decides (supers m) c d).0 a in chain_within m well chain.0 c d lt chain.1

-- ---- names lead to numbers and back

-- the first that passes, where those before it don't
position_is : (p : List ℕ → Bool) (xs : List (List ℕ)) (i : ℕ) → i < length xs → p (get_or xs i []) ≡ true → ((k : ℕ) → k < i → p (get_or xs k []) ≡ false) → position p xs ≡ Some i
position_is p xs i lt here before =
    let first : position_or_len p xs ≡ i = position_or_len_is p xs i [] (omega arith) before (λ _. here) in
    rw (first, lt-ltb i (length xs) lt) refl

not_before : (names : List (List ℕ)) → repeats bytes_eq names ≡ false → (name : List ℕ) (i k : ℕ) → i < length names → get_or names i [] ≡ name → k < i → bytes_eq name (get_or names k []) ≡ false
not_before names apart name i k lt is less =
    elim (cases_Bool (bytes_eq name (get_or names k []))) [
      | inl same ↦
          let e : get_or names k [] ≡ get_or names i [] = sym ((bytes_eq-Decides name (get_or names k [])).0 same) ∙ sym is in
          let one : k ≡ i = one_place names k i apart (omega (arith, less, lt)) lt e in
          absurd (omega (arith, one, less))
      | inr other ↦ other
    ]

numbers_of : (names : List (List ℕ)) → repeats bytes_eq names ≡ false → (name : List ℕ) (i : ℕ) → (position (bytes_eq name) names ≡ Some i) ↔ ((i < length names) × (get_or names i [] ≡ name))
numbers_of names apart name i = (
  λ e. let p = position-Some (bytes_eq name) names i [] e in (p.0, sym ((bytes_eq-Decides name (get_or names i [])).0 p.1)),
  λ h. position_is (bytes_eq name) names i h.0 ((bytes_eq-Decides name (get_or names i [])).1 (sym h.1)) (λ k less. not_before names apart name i k h.0 h.1 less),
)

-- the same of things that have names
numbers_of_named : {X : Type 0} (f : X → List ℕ) (none : X) (xs : List X) → repeats bytes_eq (map f xs) ≡ false → (name : List ℕ) (i : ℕ) → (position (bytes_eq name) (map f xs) ≡ Some i) ↔ ((i < length xs) × (f (get_or xs i none) ≡ name))
numbers_of_named f none xs apart name i = (
  λ e.
      let p = (numbers_of (map f xs) apart name i).0 e in
      let lt : i < length xs = omega (arith, p.0, length-map xs f) in
      (lt, sym (get_or-map f xs i none [] lt) ∙ p.1),
  λ h. (numbers_of (map f xs) apart name i).1 (omega (arith, h.0, length-map xs f), get_or-map f xs i none [] h.0 ∙ h.1),
)

-- a name leads to the number of the class that has it, and a number of a class to its name
pub classes_have_names : (m : Model) → IsClassModel m → laws.ClassesHaveNames m
classes_have_names m well name c =
    let apart : repeats bytes_eq (class_names m) ≡ false = not_repeated (repeats bytes_eq (class_names m)) (repeats bytes_eq (type_names m)) (repeats_back (enumeration_names m) (class_names m)) well.types_differ in
    numbers_of_named (λ (k : Class). k.name) no_class m.classes apart name c

-- the same of enumerations
pub enumerations_have_names : (m : Model) → IsClassModel m → laws.EnumerationsHaveNames m
enumerations_have_names m well name e =
    let apart : repeats bytes_eq (enumeration_names m) ≡ false = not_repeated (repeats bytes_eq (enumeration_names m)) (repeats bytes_eq (type_names m)) (repeats_front (enumeration_names m) (class_names m)) well.types_differ in
    numbers_of_named (λ (k : Enumeration). k.name) no_enumeration m.enumerations apart name e

-- the same of the literals of an enumeration
pub literals_have_names : (m : Model) → IsClassModel m → laws.LiteralsHaveNames m
literals_have_names m well e lt name l = numbers_of (laws.literals_at m e) (well.literals_differ e no_enumeration lt) name l

-- the same of the features that belong to a class
pub features_have_names : (m : Model) → IsClassModel m → laws.FeaturesHaveNames m
features_have_names m well name c f = (
  λ e. (found_in_range m c name (Some f) (sym e), found_belongs m c name (Some f) (sym e), found_named m c name (Some f) (sym e)),
  λ h. the_feature m c name (distinct m well) f (h.0, h.1, h.2),
)

-- ---- names differ

-- where the names of classes and enumerations stand among those of all types
type_of_class : (m : Model) (c : ℕ) → c < length m.classes → get_or (type_names m) (length (enumeration_names m) + c) [] ≡ (class_at m c).name
type_of_class m c lt = get_or-append-add (enumeration_names m) (class_names m) c [] ∙ get_or-map (λ (k : Class). k.name) m.classes c no_class [] lt

type_of_enumeration : (m : Model) (e : ℕ) → e < length m.enumerations → get_or (type_names m) e [] ≡ (enumeration_at m e).name
type_of_enumeration m e lt =
    get_or_append_left (enumeration_names m) (class_names m) [] e (omega (arith, lt, length-map m.enumerations (λ (k : Enumeration). k.name)))
    ∙ get_or-map (λ (k : Enumeration). k.name) m.enumerations e no_enumeration [] lt

class_in_types : (m : Model) (c : ℕ) → c < length m.classes → length (enumeration_names m) + c < length (type_names m)
class_in_types m c lt = omega (arith, lt, length-append (enumeration_names m) (class_names m), length-map m.classes (λ (k : Class). k.name))

enumeration_in_types : (m : Model) (e : ℕ) → e < length m.enumerations → e < length (type_names m)
enumeration_in_types m e lt = omega (arith, lt, length-append (enumeration_names m) (class_names m), length-map m.enumerations (λ (k : Enumeration). k.name))

-- no name is that of a class and of an enumeration
pub types_differ : (m : Model) → IsClassModel m → laws.TypesDiffer m
types_differ m well c e lc le same =
    let one : e ≡ length (enumeration_names m) + c =
    one_place (type_names m) e (length (enumeration_names m) + c) well.types_differ (enumeration_in_types m e le) (class_in_types m c lc) (type_of_enumeration m e le ∙ sym same ∙ sym (type_of_class m c lc)) in
    omega (arith, one, le, length-map m.enumerations (λ (k : Enumeration). k.name))

none_passes : (p : List ℕ → Bool) (xs : List (List ℕ)) → list_any p xs ≡ false → (i : ℕ) → i < length xs → p (get_or xs i []) ≡ false
none_passes p [] e i lt = absurd (omega (arith, lt))
none_passes p (x ∷ xs) e zero lt = (or_parts (p x) (list_any p xs) e).0
none_passes p (x ∷ xs) e (suc i) lt = none_passes p xs (or_parts (p x) (list_any p xs) e).1 i (omega (arith, lt))

-- no class and no enumeration has the name of a predefined type
pub types_are_defined : (m : Model) → IsClassModel m → laws.TypesAreDefined m
types_are_defined m well = (
  λ c lt. ap is_predefined (sym (type_of_class m c lt)) ∙ none_passes is_predefined (type_names m) well.types_defined (length (enumeration_names m) + c) (class_in_types m c lt),
  λ e lt. ap is_predefined (sym (type_of_enumeration m e lt)) ∙ none_passes is_predefined (type_names m) well.types_defined e (enumeration_in_types m e lt),
)

-- no two associations share a name
pub associations_differ : (m : Model) → IsClassModel m → laws.AssociationsDiffer m
associations_differ m well i j li lj same = one_place m.associations i j well.associations_differ li lj same

-- no class has a direct superclass twice
pub supers_differ : (m : Model) → IsClassModel m → laws.SupersDiffer m
supers_differ m well c lt i j li lj same = stands_once nat_eq 0 (λ x y e. eq-eqb x y e) (class_at m c).supers i j (well.supers_differ c no_class lt) li lj same

-- ---- names are names, and counts are within their limits

-- the model's title is a title, and the names of its parts are names
pub has_names : (m : Model) → IsClassModel m → laws.HasNames m
has_names m well = record {
  title = well.title;
  classes = λ c lt. subst IsModelName (type_of_class m c lt) (well.named_types (length (enumeration_names m) + c) [] (class_in_types m c lt));
  enumerations = λ e lt. subst IsModelName (type_of_enumeration m e lt) (well.named_types e [] (enumeration_in_types m e lt));
  literals = λ e lt i less. well.named_literals e no_enumeration lt i [] less;
  features = well.named_features;
  associations = λ i lt. well.named_associations i [] lt;
  old_classes = λ i lt. well.named_old_classes i [] lt;
  old_features = well.named_old_features;
}

-- there are no more classes, enumerations, literals and features than the limits allow
pub within_limits : (m : Model) → IsClassModel m → laws.IsWithinLimits m
within_limits m well = record {
  classes = well.few_classes;
  enumerations = well.few_enumerations;
  literals = λ e lt. well.few_literals e no_enumeration lt;
  features = well.few_features;
  renames = well.few_renames;
}

-- ---- clashes

no_clash_at : (m : Model) → IsClassModel m → (c f g : ℕ) → IsClash m c f g → ⊥
no_clash_at m well c f g h =
    let one : f ≡ g = well.one_feature c f g h.first h.second ((is_or_reaches-decides (supers m) c (feature_at m f).owner).1 h.first_belongs) ((is_or_reaches-decides (supers m) c (feature_at m g).owner).1 h.second_belongs) h.one_name in
    h.two_owners (ap (λ (k : ℕ). (feature_at m k).owner) one)

-- no class has two features of one name and of different owners
pub no_clash : (m : Model) → IsClassModel m → has_clash m ≡ false
no_clash m well =
    elim (cases_Bool (has_clash m)) [
      | inl clash ↦ let w = found_clash m clash in absurd (no_clash_at m well w.0 w.1 w.2 w.3)
      | inr none ↦ none
    ]

-- ---- features

element_of : (m : Model) (t : ElementType) → ((c : ℕ) → t ≡ element.Class c → c < length m.classes) → ((e : ℕ) → t ≡ element.Enumeration e → e < length m.enumerations) → laws.IsElementOf m t
element_of m (element.Class c) classes enumerations = classes c refl
element_of m (element.Enumeration e) classes enumerations = enumerations e refl
element_of m t classes enumerations = tt

scalar_of : (t : ElementType) → ((c : ℕ) → t ≡ element.Class c → ⊥) → laws.IsScalar t
scalar_of (element.Class c) none = none c refl
scalar_of t none = tt

attribute_role : (r : Role) → is_attribute r ≡ true → r ≡ role.Attribute
attribute_role role.Attribute e = refl
attribute_role r e = cc

upper_of : (upper : Option ℕ) (P : ℕ → Type 0) → ((u : ℕ) → upper ≡ Some u → P u) → IfSome upper P
upper_of None P h = tt
upper_of (Some u) P h = h u refl

single_is : (upper : Option ℕ) → is_single upper ≡ true → upper ≡ Some 1
single_is None e = absurd (false≢true e)
single_is (Some u) e = ap (λ (n : ℕ). Some n) (eqb-true u 1 e)

-- each feature has an owner, an element type and bounds that a class model allows
pub features_are_sound : (m : Model) → IsClassModel m → laws.FeaturesAreSound m
features_are_sound m well f lt =
    let i = feature_at m f in
    record {
      owner = well.known_owners f lt;
      element = element_of m i.element (λ c e. well.known_classes f c lt e) (λ n e. well.known_enumerations f n lt e);
      scalar = λ r. scalar_of i.element (λ c e. well.scalar_attributes f c lt (attribute_role i.role r) e);
      lower = well.lower_bounds f lt;
      upper = upper_of i.upper (λ u. (0 < u) × (i.lower ≤ u) × (u ≤ MAX_BOUND)) (λ u e. well.upper_bounds f u lt e);
      unique = λ e. well.unique_ends f lt e;
      single = λ e. well.single_values f lt (single_is i.upper e);
    }

-- each source end has its opposite end right after it, and each opposite end its source end right before it
pub ends_are_paired : (m : Model) → IsClassModel m → laws.EndsArePaired m
ends_are_paired m well = (λ f g lt e. well.sources f g lt e, λ f g lt e. well.opposites f g lt e)
