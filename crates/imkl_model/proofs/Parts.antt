-- What is known of the parts of a class model that was numbered.
use Rattle.std.proofs.Common.{◌≡◌, ℕ, ◌<◌, ◌||◌, List, [], ◌∷◌, ◌++◌, length, get_or, map, Bool, true, false, Some, Ok, refl, sym, ap, subst, ◌∙◌, All, bytes_eq, position, nat_eq, inl, inr}
use Rattle.std.specs.List.{AllByRecursion, list_any}
use Rattle.std.proofs.lemmas.Bool.{false≢true, or_parts, or_cases, or_left, or_right, eqb-true}
use Rattle.std.proofs.lemmas.List.{map-id}
use Rattle.std.proofs.lemmas.List.Quantifiers.{position-Some}
use Rattle.std.proofs.lemmas.List.Folds.{list_any-append}
use Rattle.std.proofs.lemmas.Slice.Eq.{bytes_eq-Decides}
use Rattle.imkl_model.specs.declared.fault.ModelFault.TheVariants as faults
use Rattle.imkl_model.specs.declared.entry.Class.{Class}
use Rattle.imkl_model.specs.declared.entry.ClassRename.{ClassRename}
use Rattle.imkl_model.specs.declared.entry.FeatureRename.{FeatureRename}
use Rattle.imkl_model.specs.declared.feature.FeatureInfo.{FeatureInfo}
use Rattle.imkl_model.specs.declared.numbering.Scope.{Scope}
use Rattle.imkl_model.specs.declared.written.Written.{Written}
use Rattle.imkl_model.specs.declared.written.WrittenClass.{WrittenClass}
use Rattle.imkl_model.specs.declared.written.WrittenEnumeration.{WrittenEnumeration}
use Rattle.imkl_model.specs.declared.written.WrittenClassRename.{WrittenClassRename}
use Rattle.imkl_model.specs.declared.written.WrittenFeatureRename.{WrittenFeatureRename}
use Rattle.ocl_base.specs.Lists.{is_among, repeats}
use Rattle.imkl_model.specs.Words.{is_predefined}
use Rattle.ocl_base.specs.Steps.{◌>>=◌, each, found}
use Rattle.imkl_model.specs.Checks as checks
use Rattle.imkl_model.specs.WrittenFeatures.{written_features}
use Rattle.imkl_model.specs.Scopes.{scope_of}
use Rattle.imkl_model.specs.Numbering.{number_in, class_in_scope, enumeration_as_written, class_rename_in_scope, feature_rename_in_scope}
use Rattle.imkl_model.specs.Tables.{AreWithin}
use Rattle.imkl_model.specs.ClassModel.{names_of_classes, names_of_enumerations, supers_in, own_feature_number}
use Rattle.imkl_model.specs.Renames.{old_names_of}
use Rattle.imkl_model.proofs.Repeated.{repeats_front, repeats_back}
use Rattle.ocl_base.proofs.ForAbove.{each_first, each_nothing, okay, ok_is, both_steps, found_is, each_map, all_each, all_at, all_mapped}

-- ---- names

-- a test that passes only where another does fails where the other fails
pub not_repeated : (a b : Bool) → (a ≡ true → b ≡ true) → b ≡ false → a ≡ false
not_repeated true b f e = absurd (false≢true (sym e ∙ f refl))
not_repeated false b f e = refl

-- the parts of names that differ
pub record Differs (w : Written) : Type 0 where
  pub types : repeats bytes_eq (checks.written_enumeration_names w ++ checks.written_class_names w) ≡ false
  pub defined : list_any is_predefined (checks.written_enumeration_names w ++ checks.written_class_names w) ≡ false
  pub literals : list_any (λ e. repeats bytes_eq e.literals) w.enumerations ≡ false
  pub supers : list_any (λ c. repeats bytes_eq c.supers) w.classes ≡ false
  pub associations : repeats bytes_eq (checks.written_association_names w) ≡ false
  pub features : repeats bytes_eq (checks.feature_names (written_features w)) ≡ false
  pub old_types : repeats bytes_eq ((checks.written_enumeration_names w ++ checks.written_class_names w) ++ checks.written_old_names w) ≡ false
  pub old_defined : list_any is_predefined (checks.written_old_names w) ≡ false

none_defined : (xs ys : List (List ℕ)) → list_any is_predefined xs ≡ false → list_any is_predefined ys ≡ false → list_any is_predefined (xs ++ ys) ≡ false
none_defined xs ys e f = list_any-append is_predefined xs ys ∙ rw (e, f) refl

type_parts : (w : Written) → checks.repeats_type w ≡ false
    → (list_any is_predefined (checks.written_enumeration_names w ++ checks.written_class_names w) ≡ false) × (repeats bytes_eq ((checks.written_enumeration_names w ++ checks.written_class_names w) ++ checks.written_old_names w) ≡ false)
    × (list_any is_predefined (checks.written_old_names w) ≡ false)
unfolding checks.repeats_type
type_parts w e =
    let es = checks.written_enumeration_names w in
    let cs = checks.written_class_names w in
    let os = checks.written_old_names w in
    let p = or_parts (list_any is_predefined es || list_any is_predefined cs || list_any is_predefined os) (repeats bytes_eq ((es ++ cs) ++ os)) e in
    let r = or_parts (list_any is_predefined es || list_any is_predefined cs) (list_any is_predefined os) p.0 in
    let q = or_parts (list_any is_predefined es) (list_any is_predefined cs) r.0 in
    (none_defined es cs q.0 q.1, p.1, r.1)

-- where the check finds no name twice, the names of each sort differ
pub differs : (w : Written) → checks.repeats_name w ≡ false → Differs w
unfolding checks.repeats_name
differs w e =
    let p = or_parts (checks.repeats_type w || checks.repeats_literal w || checks.repeats_super w || checks.repeats_association w) (checks.repeats_feature w) e in
    let q = or_parts (checks.repeats_type w || checks.repeats_literal w || checks.repeats_super w) (checks.repeats_association w) p.0 in
    let r = or_parts (checks.repeats_type w || checks.repeats_literal w) (checks.repeats_super w) q.0 in
    let s = or_parts (checks.repeats_type w) (checks.repeats_literal w) r.0 in
    let t = type_parts w s.0 in
    let types = checks.written_enumeration_names w ++ checks.written_class_names w in
    record {
      types = not_repeated (repeats bytes_eq types) (repeats bytes_eq (types ++ checks.written_old_names w)) (repeats_front types (checks.written_old_names w)) t.1;
      defined = t.0;
      literals = s.1;
      supers = r.1;
      associations = q.1;
      features = p.1;
      old_types = t.1;
      old_defined = t.2;
    }

-- then the old names of classes differ
pub old_names_differ : (w : Written) → checks.repeats_name w ≡ false → repeats bytes_eq (checks.written_old_names w) ≡ false
old_names_differ w e =
    let types = checks.written_enumeration_names w ++ checks.written_class_names w in
    not_repeated (repeats bytes_eq (checks.written_old_names w)) (repeats bytes_eq (types ++ checks.written_old_names w)) (repeats_back types (checks.written_old_names w)) (differs w e).old_types

-- then the enumerations' names differ
pub enumerations_differ : (w : Written) → checks.repeats_name w ≡ false → repeats bytes_eq (checks.written_enumeration_names w) ≡ false
enumerations_differ w e =
    not_repeated (repeats bytes_eq (checks.written_enumeration_names w)) (repeats bytes_eq (checks.written_enumeration_names w ++ checks.written_class_names w)) (repeats_front (checks.written_enumeration_names w) (checks.written_class_names w)) (differs w e).types

-- then the classes' names differ
pub classes_differ : (w : Written) → checks.repeats_name w ≡ false → repeats bytes_eq (checks.written_class_names w) ≡ false
classes_differ w e =
    not_repeated (repeats bytes_eq (checks.written_class_names w)) (repeats bytes_eq (checks.written_enumeration_names w ++ checks.written_class_names w)) (repeats_back (checks.written_enumeration_names w) (checks.written_class_names w)) (differs w e).types

-- ---- numbers of names

-- the number that a name has is an index at which the name stands
pub number_is : (names : List (List ℕ)) (name : List ℕ) (n : ℕ) → number_in names name ≡ Ok n → (n < length names) × (name ≡ get_or names n [])
number_is names name n e =
    let p = position-Some (bytes_eq name) names n [] (found_is (position (bytes_eq name) names) faults.UnknownName n e) in
    (p.0, (bytes_eq-Decides name (get_or names n [])).0 p.1)

-- ---- classes

-- a class that was numbered has its written name, and the numbers of its written superclasses
pub class_is : (s : Scope) (c : WrittenClass) (k : Class) → class_in_scope s c ≡ Ok k → (k.name ≡ c.name) × (each (number_in s.classes) c.supers ≡ Ok k.supers)
unfolding class_in_scope
class_is s c k e =
    let p = both_steps (each (number_in s.classes) c.supers) (λ supers. Ok (record { name = c.name; is_abstract = c.is_abstract; supers = supers })) k e in
    let made : Class = record { name = c.name; is_abstract = c.is_abstract; supers = p.0 } in
    let same : made ≡ k = ok_is made k p.2 in
    (ap (λ (x : Class). x.name) (sym same), p.1 ∙ ap (λ (x : Class). okay x.supers) same)

-- classes that were numbered have their written names
pub class_names_kept : (s : Scope) (cs : List WrittenClass) (ks : List Class) → each (class_in_scope s) cs ≡ Ok ks → names_of_classes ks ≡ map (λ c. c.name) cs
class_names_kept s cs ks e = each_map (class_in_scope s) (λ k. k.name) (λ c. c.name) (λ c k h. (class_is s c k h).0) cs ks e

-- the names of the scope are those of the classes that were numbered in it
pub class_names_are : (w : Written) (s : Scope) (ks : List Class) → s ≡ scope_of w → each (class_in_scope s) w.classes ≡ Ok ks → s.classes ≡ names_of_classes ks
class_names_are w s ks is e = ap (λ (x : Scope). x.classes) is ∙ sym (class_names_kept s w.classes ks e)

abbrev SupersWithin : ℕ → Class → Type 0
SupersWithin n k = All (λ d. d < n) k.supers

-- the superclasses of classes that were numbered are classes of the scope
pub supers_within : (s : Scope) (cs : List WrittenClass) (ks : List Class) → each (class_in_scope s) cs ≡ Ok ks → AllByRecursion (SupersWithin (length s.classes)) ks
supers_within s cs ks e =
    all_each (class_in_scope s) (SupersWithin (length s.classes)) (λ c k h. all_at (λ d. d < length s.classes) k.supers (all_each (number_in s.classes) (λ d. d < length s.classes) (λ name n g. (number_is s.classes name n g).0) c.supers k.supers (class_is s c k h).1)) cs ks e

-- the old name of a class that was numbered is the written one, and the class has the written number
pub class_rename_is : (s : Scope) (r : WrittenClassRename) (k : ClassRename) → class_rename_in_scope s r ≡ Ok k → (k.old ≡ r.old) × (number_in s.classes r.new ≡ Ok k.class)
unfolding class_rename_in_scope
class_rename_is s r k e =
    let p = both_steps (number_in s.classes r.new) (λ class. Ok (record { old = r.old; class = class })) k e in
    let made : ClassRename = record { old = r.old; class = p.0 } in
    let same : made ≡ k = ok_is made k p.2 in
    (ap (λ (x : ClassRename). x.old) (sym same), p.1 ∙ ap (λ (x : ClassRename). okay x.class) same)

-- the old names of classes are the written ones
pub old_names_kept : (s : Scope) (rs : List WrittenClassRename) (ks : List ClassRename) → each (class_rename_in_scope s) rs ≡ Ok ks → old_names_of ks ≡ map (λ r. r.old) rs
old_names_kept s rs ks e = each_map (class_rename_in_scope s) (λ k. k.old) (λ r. r.old) (λ r k h. (class_rename_is s r k h).0) rs ks e

-- the old name of a feature that was numbered is the written one, the class is that of the written number, and it owns the
-- feature
pub feature_rename_is : (s : Scope) (fs : List FeatureInfo) (r : WrittenFeatureRename) (k : FeatureRename) → feature_rename_in_scope s fs r ≡ Ok k
    → (k.old ≡ r.old) × (number_in s.classes r.class ≡ Ok k.class) × (own_feature_number fs k.class r.new ≡ Some k.feature)
unfolding feature_rename_in_scope
feature_rename_is s fs r k e =
    let p = both_steps (number_in s.classes r.class) (λ class. found (own_feature_number fs class r.new) faults.UnknownName >>= λ feature. Ok (record { class = class; old = r.old; feature = feature })) k e in
    let q = both_steps (found (own_feature_number fs p.0 r.new) faults.UnknownName) (λ feature. Ok (record { class = p.0; old = r.old; feature = feature })) k p.2 in
    let made : FeatureRename = record { class = p.0; old = r.old; feature = q.0 } in
    let same : made ≡ k = ok_is made k q.2 in
    let there : own_feature_number fs p.0 r.new ≡ Some q.0 = found_is (own_feature_number fs p.0 r.new) faults.UnknownName q.0 q.1 in
    (ap (λ (x : FeatureRename). x.old) (sym same), p.1 ∙ ap (λ (x : FeatureRename). okay x.class) same, subst (λ (x : FeatureRename). own_feature_number fs x.class r.new ≡ Some x.feature) same there)

-- where each class has superclasses below n, each row of superclasses is below n
pub rows_within : (n : ℕ) (ks : List Class) → AllByRecursion (SupersWithin n) ks → AreWithin n (supers_in ks)
rows_within n ks h = all_at (λ row. All (λ d. d < n) row) (supers_in ks) (all_mapped (SupersWithin n) (λ row. All (λ d. d < n) row) (λ k. k.supers) (λ k g. g) ks h)

-- direct superclasses with names that differ have numbers that differ
among_numbers : (names : List (List ℕ)) (n : ℕ) (ns : List ℕ) → is_among nat_eq ns n ≡ true → is_among bytes_eq (map (λ k. get_or names k []) ns) (get_or names n []) ≡ true
among_numbers names n [] e = absurd (false≢true e)
among_numbers names n (k ∷ ns) e =
    let name : ℕ → List ℕ = λ k. get_or names k [] in
    elim (or_cases (nat_eq n k) (is_among nat_eq ns n) e) [
      | inl here ↦ or_left (bytes_eq (name n) (name k)) (is_among bytes_eq (map name ns) (name n)) ((bytes_eq-Decides (name n) (name k)).1 (ap name (eqb-true n k here)))
      | inr later ↦ or_right (bytes_eq (name n) (name k)) (is_among bytes_eq (map name ns) (name n)) (among_numbers names n ns later)
    ]

repeated_numbers : (names : List (List ℕ)) (ns : List ℕ) → repeats nat_eq ns ≡ true → repeats bytes_eq (map (λ k. get_or names k []) ns) ≡ true
repeated_numbers names [] e = absurd (false≢true e)
repeated_numbers names (n ∷ ns) e =
    let name : ℕ → List ℕ = λ k. get_or names k [] in
    elim (or_cases (is_among nat_eq ns n) (repeats nat_eq ns) e) [
      | inl here ↦ or_left (is_among bytes_eq (map name ns) (name n)) (repeats bytes_eq (map name ns)) (among_numbers names n ns here)
      | inr later ↦ or_right (is_among bytes_eq (map name ns) (name n)) (repeats bytes_eq (map name ns)) (repeated_numbers names ns later)
    ]

numbers_differ : (names texts : List (List ℕ)) (ns : List ℕ) → each (number_in names) texts ≡ Ok ns → repeats bytes_eq texts ≡ false → repeats nat_eq ns ≡ false
numbers_differ names texts ns e apart =
    let back : map (λ k. get_or names k []) ns ≡ map (λ x. x) texts = each_map (number_in names) (λ k. get_or names k []) (λ x. x) (λ x k h. sym (number_is names x k h).1) texts ns e in
    not_repeated (repeats nat_eq ns) (repeats bytes_eq texts) (λ r. sym (ap (repeats bytes_eq) (back ∙ map-id texts)) ∙ repeated_numbers names ns r) apart

abbrev pub SupersDiffer : Class → Type 0
SupersDiffer k = repeats nat_eq k.supers ≡ false

-- where no class writes a superclass twice, none has a superclass twice once numbered
pub supers_differ : (s : Scope) (cs : List WrittenClass) (ks : List Class) → each (class_in_scope s) cs ≡ Ok ks → list_any (λ c. repeats bytes_eq c.supers) cs ≡ false → AllByRecursion SupersDiffer ks
supers_differ s [] ks e apart = rw (each_nothing (class_in_scope s) ks e) tt
supers_differ s (c ∷ cs) ks e apart =
    let p = each_first (class_in_scope s) c cs ks e in
    let q = or_parts (repeats bytes_eq c.supers) (list_any (λ (d : WrittenClass). repeats bytes_eq d.supers) cs) apart in
    rw p.4 (numbers_differ s.classes c.supers p.0.supers (class_is s c p.0 p.2).1 q.0, supers_differ s cs p.1 p.3 q.1)

-- ---- enumerations

-- enumerations have their written names
pub enumeration_names_kept : (es : List WrittenEnumeration) → names_of_enumerations (map enumeration_as_written es) ≡ map (λ e. e.name) es
enumeration_names_kept [] = refl
enumeration_names_kept (e ∷ es) = ap (λ (l : List (List ℕ)). e.name ∷ l) (enumeration_names_kept es)
