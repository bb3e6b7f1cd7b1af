-- A class model that was numbered and checked keeps what a class model keeps.
use Rattle.std.proofs.Common.{◌≡◌, ℕ, zero, suc, ◌+◌, ◌<◌, ◌≤◌, ◌&&◌, ◌||◌, not, Bool, true, false, List, [], ◌∷◌, ◌++◌, length, get_or, map, eqb, leb, Option, Some, Ok, All, IfSome, refl, sym, ap, ◌∙◌, subst, arith, inl, inr, nat_le, nat_lt, if◌then◌else◌, bytes_eq}
use Rattle.std.specs.List.{AllByRecursion, list_all, list_any}
use Rattle.std.proofs.lemmas.Bool.{false≢true, and_parts, or_parts}
use Rattle.std.proofs.lemmas.Bool.Decides.{eqb_tells, leb_tells, Decides-eqb}
use Rattle.std.proofs.lemmas.List.{length-map, get_or-map}
use Rattle.std.proofs.lemmas.List.Sums.{AllPass-from_list_all}
use Rattle.imkl_model.specs.declared.entry.Class.{Class}
use Rattle.imkl_model.specs.declared.entry.Enumeration.{Enumeration}
use Rattle.imkl_model.specs.declared.feature.FeatureInfo.{FeatureInfo}
use Rattle.imkl_model.specs.declared.feature.ElementType.TheVariants as element
use Rattle.ocl_base.specs.declared.collection_kind.CollectionKind.TheVariants as kind
use Rattle.imkl_model.specs.declared.feature.Role.{Role}
use Rattle.imkl_model.specs.declared.feature.Role.TheVariants as role
use Rattle.imkl_model.specs.declared.numbering.Scope.{Scope}
use Rattle.imkl_model.specs.declared.written.Written.{Written}
use Rattle.imkl_model.specs.declared.written.WrittenEnumeration.{WrittenEnumeration}
use Rattle.imkl_model.specs.declared.written.WrittenFeature.{WrittenFeature}
use Rattle.imkl_model.specs.declared.written.WrittenClassRename.{WrittenClassRename}
use Rattle.imkl_model.specs.declared.written.WrittenFeatureRename.{WrittenFeatureRename}
use Rattle.ocl_base.specs.Lists.{repeats}
use Rattle.imkl_model.specs.declared.limits.TheConstants.{MAX_BOUND, MAX_FEATURES, MAX_RENAMES, MAX_TYPES}
use Rattle.imkl_model.specs.Words.{is_title, is_predefined, qualified}
use Rattle.ocl_base.specs.Steps.{◌>>=◌, each}
use Rattle.imkl_model.specs.Checks as checks
use Rattle.imkl_model.specs.WrittenFeatures.{written_features}
use Rattle.imkl_model.specs.Scopes.{scope_of}
use Rattle.imkl_model.specs.Numbering.{number_in, element_type, collection_kind, kind_of, feature_in_scope, class_in_scope, enumeration_as_written, class_rename_in_scope, feature_rename_in_scope, renames_in_scope, numbered_model}
use Rattle.imkl_model.specs.Chains as chains
use Rattle.imkl_model.specs.ClassModel.{Model, Renames, supers, class_names, enumeration_names, names_of_enumerations, feature_at, no_feature, has_clash, belongs, is_named, conforms, is_own_in}
use Rattle.imkl_model.specs.Renames.{class_rename_at, no_class_rename, feature_rename_at, no_feature_rename, old_class_names, is_for, renames_clash}
use Rattle.imkl_model.specs.Held.{alias_of}
use Rattle.imkl_model.specs.Groups.{AreOwned}
use Rattle.imkl_model.specs.Features.{is_end, is_single}
use Rattle.ocl_base.specs.CollectionKinds.{is_unique_kind}
use Rattle.imkl_model.specs.WellFormed.{IsClassModel, ArePaired, IsFeature, IsFeatureRename, IsModelName, type_names}
use Rattle.imkl_model.specs.Spelled.{IsSpelledClass, IsSpelledEnumeration, IsSpelledAssociation, IsSpelledClassRename}
use Rattle.imkl_model.specs.Drafts.{IsNumbered}
use Rattle.ocl_base.proofs.ForAbove.{okay, ok_is, both_steps, each_length, each_at, all_at, all_mapped, all_joined, from_all, least_passes}
use Rattle.imkl_model.proofs.Parts.{differs, number_is, class_names_kept, supers_within, SupersDiffer, supers_differ, enumeration_names_kept, class_rename_is, old_names_kept, feature_rename_is}
use Rattle.imkl_model.proofs.FeatureParts.{IsFrom, feature_is, attribute_is, source_is, opposite_is, class_within, enumeration_within}
use Rattle.imkl_model.proofs.Ends.{no_written, at, PairAt, paired, IsUniqueEnd, all_unique, IsSpelledWritten, all_spelled}
use Rattle.imkl_model.proofs.Repeated.{one_place}
use Rattle.imkl_model.proofs.Warshall.{in_range, is_or_reaches-decides}
use Rattle.imkl_model.proofs.ClashLaws.{clash_found, joined, unequal}
use Rattle.imkl_model.proofs.Doubles.{taken_by_feature, taken_by_entry}
use Rattle.std.proofs.lemmas.Slice.Eq.{bytes_eq-Decides}

le_of : (a b : ℕ) → leb a b ≡ true → a ≤ b
le_of a b e = elim (leb_tells a b) [ inl h ↦ h.1 | inr h ↦ absurd (false≢true (sym h.0 ∙ e)) ]

-- ---- the parts of a class model that was numbered

pub record Made (w : Written) (m : Model) : Type 0 where
  pub classes : each (class_in_scope (scope_of w)) w.classes ≡ Ok m.classes
  pub features : each (feature_in_scope (scope_of w)) (written_features w) ≡ Ok m.features
  pub enumerations : m.enumerations ≡ map enumeration_as_written w.enumerations
  pub associations : m.associations ≡ checks.written_association_names w
  pub name : m.name ≡ w.name
  pub old_classes : each (class_rename_in_scope (scope_of w)) w.class_renames ≡ Ok m.renames.classes
  pub old_features : each (feature_rename_in_scope (scope_of w) m.features) w.feature_renames ≡ Ok m.renames.features

renames_are : (s : Scope) (fs : List FeatureInfo) (w : Written) (r : Renames) → renames_in_scope s fs w ≡ Ok r
    → (each (class_rename_in_scope s) w.class_renames ≡ Ok r.classes) × (each (feature_rename_in_scope s fs) w.feature_renames ≡ Ok r.features)
unfolding renames_in_scope
renames_are s fs w r e =
    let p = both_steps (each (class_rename_in_scope s) w.class_renames) (λ classes. each (feature_rename_in_scope s fs) w.feature_renames >>= λ features. Ok (record { classes = classes; features = features })) r e in
    let q = both_steps (each (feature_rename_in_scope s fs) w.feature_renames) (λ features. Ok (record { classes = p.0; features = features })) r p.2 in
    let made : Renames = record { classes = p.0; features = q.0 } in
    let same : made ≡ r = ok_is made r q.2 in
    (p.1 ∙ ap (λ (x : Renames). okay x.classes) same, q.1 ∙ ap (λ (x : Renames). okay x.features) same)

-- a class model that was numbered has these parts
pub made_of : (w : Written) (m : Model) → numbered_model w ≡ Ok m → Made w m
unfolding numbered_model
made_of w m e =
    let model : List Class → List FeatureInfo → Renames → Model = λ classes features renames. record {
      name = w.name;
      enumerations = map enumeration_as_written w.enumerations;
      classes = classes;
      features = features;
      associations = checks.written_association_names w;
      renames = renames;
    } in
    let s = scope_of w in
    let p = both_steps (each (class_in_scope s) w.classes) (λ classes. each (feature_in_scope s) (written_features w) >>= λ features. renames_in_scope s features w >>= λ renames. Ok (model classes features renames)) m e in
    let q = both_steps (each (feature_in_scope s) (written_features w)) (λ features. renames_in_scope s features w >>= λ renames. Ok (model p.0 features renames)) m p.2 in
    let r = both_steps (renames_in_scope s q.0 w) (λ renames. Ok (model p.0 q.0 renames)) m q.2 in
    let built : Model = model p.0 q.0 r.0 in
    let same : built ≡ m = ok_is built m r.2 in
    let old = renames_are s q.0 w r.0 r.1 in
    record {
      classes = p.1 ∙ ap (λ (x : Model). okay x.classes) same;
      features = q.1 ∙ ap (λ (x : Model). okay x.features) same;
      enumerations = ap (λ (x : Model). x.enumerations) (sym same);
      associations = ap (λ (x : Model). x.associations) (sym same);
      name = ap (λ (x : Model). x.name) (sym same);
      old_classes = subst (λ (x : Model). each (class_rename_in_scope (scope_of w)) w.class_renames ≡ okay x.renames.classes) same old.0;
      old_features = subst (λ (x : Model). each (feature_rename_in_scope (scope_of w) x.features) w.feature_renames ≡ okay x.renames.features) same old.1;
    }

-- ---- counts

pub record IsFew (w : Written) : Type 0 where
  pub classes : length w.classes ≤ MAX_TYPES
  pub enumerations : length w.enumerations ≤ MAX_TYPES
  pub literals : list_all (λ e. nat_le (length e.literals) MAX_TYPES) w.enumerations ≡ true
  pub features : length (written_features w) ≤ MAX_FEATURES
  pub renames : length w.class_renames + length w.feature_renames ≤ MAX_RENAMES

few : (w : Written) → checks.is_within_limits w ≡ true → IsFew w
unfolding checks.is_within_limits
few w e =
    let a = nat_le (length w.classes) MAX_TYPES in
    let b = nat_le (length w.enumerations) MAX_TYPES in
    let l = list_all (λ (e : WrittenEnumeration). nat_le (length e.literals) MAX_TYPES) w.enumerations in
    let z = and_parts (a && b && l && nat_le (length (written_features w)) MAX_FEATURES) (nat_le (length w.class_renames + length w.feature_renames) MAX_RENAMES) e in
    let p = and_parts (a && b && l) (nat_le (length (written_features w)) MAX_FEATURES) z.0 in
    let q = and_parts (a && b) l p.0 in
    let r = and_parts a b q.0 in
    record {
      classes = le_of (length w.classes) MAX_TYPES r.0;
      enumerations = le_of (length w.enumerations) MAX_TYPES r.1;
      literals = q.1;
      features = le_of (length (written_features w)) MAX_FEATURES p.1;
      renames = le_of (length w.class_renames + length w.feature_renames) MAX_RENAMES z.1;
    }

-- each enumeration's literals
of_each : (p : WrittenEnumeration → Bool) (es : List WrittenEnumeration) → list_all p es ≡ true → AllByRecursion (λ e. p e ≡ true) es
of_each p [] h = tt
of_each p (e ∷ es) h = let g = and_parts (p e) (list_all p es) h in (g.0, of_each p es g.1)

of_none : (p : WrittenEnumeration → Bool) (es : List WrittenEnumeration) → list_any p es ≡ false → AllByRecursion (λ e. p e ≡ false) es
of_none p [] h = tt
of_none p (e ∷ es) h = let g = or_parts (p e) (list_any p es) h in (g.0, of_none p es g.1)

along : {X : Type 0} (P : X → Type 0) (xs ys : List X) → ys ≡ xs → AllByRecursion P xs → All P ys
along {X} P xs ys e h = subst (λ (zs : List X). All P zs) (sym e) (all_at P xs h)

module _ (w : Written) (m : Model) (limits : checks.is_within_limits w ≡ true) (distinct : checks.repeats_name w ≡ false) (parts : Made w m) where
  class_count : length m.classes ≡ length w.classes
  class_count = each_length (class_in_scope (scope_of w)) w.classes m.classes parts.classes

  feature_count : length m.features ≡ length (written_features w)
  feature_count = each_length (feature_in_scope (scope_of w)) (written_features w) m.features parts.features

  enumeration_count : length m.enumerations ≡ length w.enumerations
  enumeration_count = ap (λ (l : List Enumeration). length l) parts.enumerations ∙ length-map w.enumerations enumeration_as_written

  scope_classes : length (scope_of w).classes ≡ length m.classes
  scope_classes = length-map w.classes (λ c. c.name) ∙ sym class_count

  scope_enumerations : length (scope_of w).enumerations ≡ length m.enumerations
  scope_enumerations = length-map w.enumerations (λ e. e.name) ∙ sym enumeration_count

  from : (f : ℕ) → IsFeature m f → IsFrom (scope_of w) (at (written_features w) f) (feature_at m f)
  from f lt = feature_is (scope_of w) (at (written_features w) f) (feature_at m f) (each_at (feature_in_scope (scope_of w)) (written_features w) m.features f no_written no_feature parts.features (subst (λ (n : ℕ). f < n) feature_count lt))

  within : (f : ℕ) → IsFeature m f → f < length (written_features w)
  within f lt = subst (λ (n : ℕ). f < n) feature_count lt

  pub owned : (f : ℕ) → IsFeature m f → (feature_at m f).owner < length m.classes
  owned f lt = subst (λ (n : ℕ). (feature_at m f).owner < n) scope_classes (number_is (scope_of w).classes (at (written_features w) f).owner (feature_at m f).owner (from f lt).owner).0

  names_kept : class_names m ≡ checks.written_class_names w
  names_kept = class_names_kept (scope_of w) w.classes m.classes parts.classes

  enumerations_kept : enumeration_names m ≡ checks.written_enumeration_names w
  enumerations_kept = ap names_of_enumerations parts.enumerations ∙ enumeration_names_kept w.enumerations

  types_kept : type_names m ≡ checks.written_enumeration_names w ++ checks.written_class_names w
  types_kept = ap (λ (l : List (List ℕ)). l ++ class_names m) enumerations_kept ∙ ap (λ (l : List (List ℕ)). checks.written_enumeration_names w ++ l) names_kept

  -- ---- ends

  unique_end : (d : WrittenFeature) → d.unique ≡ true → is_unique_kind (collection_kind d) ≡ true
  unique_end d e = kinds (is_single d.upper) d.ordered d.unique e
    where
      kinds : (one ordered unique : Bool) → unique ≡ true → is_unique_kind (if one then kind.Set else kind_of ordered unique) ≡ true
      kinds true o u h = refl
      kinds false true true h = refl
      kinds false false true h = refl
      kinds false o false h = absurd (false≢true h)

  pub unique_ends : (f : ℕ) → IsFeature m f → is_end (feature_at m f).role ≡ true → is_unique_kind (feature_at m f).kind ≡ true
  unique_ends f lt e =
      let d = at (written_features w) f in
      let u = all_at IsUniqueEnd (written_features w) (all_unique w) f no_written (within f lt) in
      ap is_unique_kind (from f lt).kind ∙ unique_end d (u (ap is_end (sym (from f lt).role) ∙ e))

  pub single_values : (f : ℕ) → IsFeature m f → (feature_at m f).upper ≡ Some 1 → (feature_at m f).kind ≡ kind.Set
  single_values f lt e =
      let d = at (written_features w) f in
      let one : is_single d.upper ≡ true = ap is_single (sym (from f lt).upper ∙ e) in
      (from f lt).kind ∙ rw one refl

  named_class : (name : List ℕ) (a b : ℕ) → number_in (scope_of w).classes name ≡ Ok a → number_in (scope_of w).classes name ≡ Ok b → a ≡ b
  named_class name a b e f = ok_is a b (sym e ∙ f)

  pair : (f : ℕ) → PairAt (written_features w) 0 f → ArePaired m f (suc f)
  pair f p =
      let lt_g : IsFeature m (suc f) = subst (λ (n : ℕ). suc f < n) (sym feature_count) p.within in
      let lt_f : IsFeature m f = omega (arith, lt_g) in
      let a = from f lt_f in
      let b = from (suc f) lt_g in
      let d = at (written_features w) f in
      let e = at (written_features w) (suc f) in
      let here = source_is (scope_of w) (suc (0 + f)) d.element (feature_at m f).element (subst (λ (r : Role). element_type (scope_of w) r d.element ≡ okay (feature_at m f).element) p.source a.element) in
      let there = opposite_is (scope_of w) (0 + f) e.element (feature_at m (suc f)).element (subst (λ (r : Role). element_type (scope_of w) r e.element ≡ okay (feature_at m (suc f)).element) p.opposite b.element) in
      record {
        next = refl;
        within = lt_g;
        source_role = a.role ∙ p.source ∙ ap (λ (k : ℕ). role.SourceEnd (suc k)) (omega arith);
        opposite_role = b.role ∙ p.opposite ∙ ap (λ (k : ℕ). role.OppositeEnd k) (omega arith);
        source_element = here.2 ∙ ap (λ (k : ℕ). element.Class k) (named_class e.owner here.0 (feature_at m (suc f)).owner (subst (λ (n : List ℕ). number_in (scope_of w).classes n ≡ okay here.0) p.there here.1) b.owner);
        opposite_element = there.2 ∙ ap (λ (k : ℕ). element.Class k) (named_class d.owner there.0 (feature_at m f).owner (subst (λ (n : List ℕ). number_in (scope_of w).classes n ≡ okay there.0) p.back there.1) a.owner);
      }

  pub sources : (f g : ℕ) → IsFeature m f → (feature_at m f).role ≡ role.SourceEnd g → ArePaired m f g
  sources f g lt e =
      let p = (paired w).sources f g (within f lt) (sym (from f lt).role ∙ e) in
      let a = pair f p in
      let same : suc f ≡ g = source_number (suc f) g (sym a.source_role ∙ e) in
      subst (ArePaired m f) same a
    where
      source_number : (x y : ℕ) → role.SourceEnd x ≡ role.SourceEnd y → x ≡ y
      source_number x y h = cc

  pub opposites : (f g : ℕ) → IsFeature m f → (feature_at m f).role ≡ role.OppositeEnd g → ArePaired m g f
  opposites f g lt e =
      let p = (paired w).opposites f g (within f lt) (sym (from f lt).role ∙ e) in
      let a = pair p.0 p.2 in
      let here : ArePaired m p.0 f = subst (ArePaired m p.0) (sym p.1) a in
      let same : p.0 ≡ g = opposite_number p.0 g (sym here.opposite_role ∙ e) in
      subst (λ (k : ℕ). ArePaired m k f) same here
    where
      opposite_number : (x y : ℕ) → role.OppositeEnd x ≡ role.OppositeEnd y → x ≡ y
      opposite_number x y h = cc

  -- ---- old names

  old_kept : old_class_names m ≡ checks.written_old_names w
  old_kept = old_names_kept (scope_of w) w.class_renames m.renames.classes parts.old_classes

  pub renamed_classes : (i : ℕ) → i < length m.renames.classes → (class_rename_at m i).class < length m.classes
  renamed_classes i lt =
      let inside = subst (λ (n : ℕ). i < n) (each_length (class_rename_in_scope (scope_of w)) w.class_renames m.renames.classes parts.old_classes) lt in
      let is = class_rename_is (scope_of w) (get_or w.class_renames i no_class) (class_rename_at m i) (each_at (class_rename_in_scope (scope_of w)) w.class_renames m.renames.classes i no_class no_class_rename parts.old_classes inside) in
      subst (λ (n : ℕ). (class_rename_at m i).class < n) scope_classes (number_is (scope_of w).classes (get_or w.class_renames i no_class).new (class_rename_at m i).class is.1).0
    where
      no_class : WrittenClassRename
      no_class = record { old = []; new = [] }

  abbrev WrittenAt : ℕ → WrittenFeatureRename
  WrittenAt i = get_or w.feature_renames i (record { class = []; old = []; new = [] })

  written_inside : (i : ℕ) → IsFeatureRename m i → i < length w.feature_renames
  written_inside i lt = subst (λ (n : ℕ). i < n) (each_length (feature_rename_in_scope (scope_of w) m.features) w.feature_renames m.renames.features parts.old_features) lt

  entry_is : (i : ℕ) → IsFeatureRename m i
      → ((feature_rename_at m i).old ≡ (WrittenAt i).old) × (number_in (scope_of w).classes (WrittenAt i).class ≡ Ok (feature_rename_at m i).class)
      × (IsFeature m (feature_rename_at m i).feature) × ((feature_at m (feature_rename_at m i).feature).owner ≡ (feature_rename_at m i).class)
  entry_is i lt =
      let r = feature_rename_at m i in
      let is = feature_rename_is (scope_of w) m.features (WrittenAt i) r (each_at (feature_rename_in_scope (scope_of w) m.features) w.feature_renames m.renames.features i (record { class = []; old = []; new = [] }) no_feature_rename parts.old_features (written_inside i lt)) in
      let p : ℕ → Bool = is_own_in m.features (WrittenAt i).new r.class in
      let own : IfSome (Some r.feature) (λ (f : ℕ). (f < length m.features) × (p f ≡ true)) = subst (λ (o : Option ℕ). IfSome o (λ (f : ℕ). (f < length m.features) × (p f ≡ true))) is.2 (least_passes p (length m.features)) in
      let parts_of = and_parts (bytes_eq (WrittenAt i).new (feature_at m r.feature).name) (eqb (feature_at m r.feature).owner r.class) own.1 in
      (is.0, is.1, own.0, (Decides-eqb (feature_at m r.feature).owner r.class).0 parts_of.1)

  pub renamed_owned : AreOwned m.classes (map alias_of m.renames.features)
  renamed_owned i lt =
      let inside : IsFeatureRename m i = omega (arith, lt, length-map m.renames.features alias_of) in
      let here = entry_is i inside in
      let class = subst (λ (n : ℕ). (feature_rename_at m i).class < n) scope_classes (number_is (scope_of w).classes (WrittenAt i).class (feature_rename_at m i).class here.1).0 in
      subst (λ (f : FeatureInfo). f.owner < length m.classes) (sym (get_or-map alias_of m.renames.features i no_feature_rename no_feature inside)) class

  -- ---- features of a class

  conforming_known : (c d : ℕ) → d < length m.classes → conforms m c d ≡ true → c < length m.classes
  conforming_known c d lt e = chained c d lt ((is_or_reaches-decides (supers m) c d).0 e)
    where
      chained : (x y : ℕ) → y < length m.classes → chains.IsOrReaches (supers m) x y → x < length m.classes
      chained x y l (zero, h) = subst (λ (n : ℕ). n < length m.classes) (sym h) l
      chained x y l (suc n, h) = subst (λ (k : ℕ). x < k) (length-map m.classes (λ (k : Class). k.supers)) (in_range (supers m) x h.0 h.1)

  class_known : (c f : ℕ) → IsFeature m f → belongs m c f ≡ true → c < length m.classes
  class_known c f lt e = conforming_known c (feature_at m f).owner (owned f lt) e

  label : (f : ℕ) → IsFeature m f → get_or (checks.feature_names (written_features w)) f [] ≡ qualified (at (written_features w) f).owner (at (written_features w) f).name
  label f lt = get_or-map (λ (d : WrittenFeature). qualified d.owner d.name) (written_features w) f no_written [] (within f lt)

  owner_name : (f : ℕ) → (lt : IsFeature m f) → (at (written_features w) f).owner ≡ get_or (scope_of w).classes (feature_at m f).owner []
  owner_name f lt = (number_is (scope_of w).classes (at (written_features w) f).owner (feature_at m f).owner (from f lt).owner).1

  one_of_owner : (f g : ℕ) → IsFeature m f → IsFeature m g → (feature_at m f).owner ≡ (feature_at m g).owner → (feature_at m f).name ≡ (feature_at m g).name → f ≡ g
  one_of_owner f g lf lg same_owner same_name =
      let names = checks.feature_names (written_features w) in
      let d = at (written_features w) f in
      let e = at (written_features w) g in
      let owners : d.owner ≡ e.owner = owner_name f lf ∙ ap (λ (k : ℕ). get_or (scope_of w).classes k []) same_owner ∙ sym (owner_name g lg) in
      let texts : d.name ≡ e.name = sym (from f lf).name ∙ same_name ∙ (from g lg).name in
      let labels : get_or names f [] ≡ get_or names g [] = label f lf ∙ rw (owners, texts) refl ∙ sym (label g lg) in
      let long : length names ≡ length (written_features w) = length-map (written_features w) (λ (x : WrittenFeature). qualified x.owner x.name) in
      one_place names f g (differs w distinct).features (subst (λ (n : ℕ). f < n) (sym long) (within f lf)) (subst (λ (n : ℕ). g < n) (sym long) (within g lg)) labels

  pub one_feature : has_clash m ≡ false → (c f g : ℕ) → IsFeature m f → IsFeature m g → belongs m c f ≡ true → belongs m c g ≡ true → (feature_at m f).name ≡ (feature_at m g).name → f ≡ g
  one_feature free c f g lf lg in_f in_g same =
      elim (eqb_tells (feature_at m f).owner (feature_at m g).owner) [
        | inl h ↦ one_of_owner f g lf lg h.1 same
        | inr h ↦
            let apart = unequal (feature_at m f).owner (feature_at m g).owner h.1 in
            let clash = clash_found m c f g (class_known c f lf in_f) lf lg (joined (is_named m (feature_at m f).name g) (not (eqb (feature_at m f).owner (feature_at m g).owner)) (belongs m c f) (belongs m c g) ((bytes_eq-Decides (feature_at m f).name (feature_at m g).name).1 same) apart in_f in_g) in
            absurd (false≢true (sym free ∙ clash))
      ]

  module _ (free : renames_clash m ≡ false) where
    pub old_or_present : (c i f : ℕ) → IsFeatureRename m i → IsFeature m f → is_for m c i ≡ true → belongs m c f ≡ true → (feature_at m f).name ≡ (feature_rename_at m i).old → ⊥
    old_or_present c i f li lf for in_f same = false≢true (sym free ∙ taken_by_feature m c i f (class_known c f lf in_f) li lf for in_f same)

    for_class : (c i : ℕ) → IsFeatureRename m i → is_for m c i ≡ true → c < length m.classes
    for_class c i lt for =
        let here = entry_is i lt in
        conforming_known c (feature_rename_at m i).class (subst (λ (k : ℕ). k < length m.classes) here.3 (owned (feature_rename_at m i).feature here.2)) for

    pub one_old_feature : (c i j : ℕ) → IsFeatureRename m i → IsFeatureRename m j → is_for m c i ≡ true → is_for m c j ≡ true → (feature_rename_at m i).old ≡ (feature_rename_at m j).old → i ≡ j
    one_old_feature c i j li lj for_i for_j same =
        elim (eqb_tells i j) [
          | inl one ↦ one.1
          | inr two ↦ elim (leb_tells i j) [
            | inl le ↦ absurd (false≢true (sym free ∙ taken_by_entry m c j i (for_class c j lj for_j) lj (omega (arith, le.1, two.1)) for_j for_i (sym same)))
            | inr less ↦ absurd (false≢true (sym free ∙ taken_by_entry m c i j (for_class c i li for_i) li less.1 for_i for_j same))
          ]
        ]

  -- ---- bounds

  multiplicity : (lower : ℕ) (upper : Option ℕ) (u : ℕ) → checks.is_multiplicity lower upper ≡ true → upper ≡ Some u → (0 < u) × (lower ≤ u)
  multiplicity lower upper u e h =
      let p = and_parts (nat_le lower u) (nat_lt 0 u) (rw h at e) in
      (le_of 1 u p.1, le_of lower u p.0)

  small_upper : (upper : Option ℕ) (u : ℕ) → IfSome upper (λ x. x ≤ MAX_BOUND) → upper ≡ Some u → u ≤ MAX_BOUND
  small_upper upper u e h = rw h at e

  module _ (spelled : AllByRecursion IsSpelledWritten (written_features w)) (bounds : list_all checks.has_multiplicity m.features ≡ true) where
    pub lower_bounds : (f : ℕ) → IsFeature m f → (feature_at m f).lower ≤ MAX_BOUND
    lower_bounds f lt = subst (λ (n : ℕ). n ≤ MAX_BOUND) (sym (from f lt).lower) (all_at IsSpelledWritten (written_features w) spelled f no_written (within f lt)).1

    pub upper_bounds : (f u : ℕ) → IsFeature m f → (feature_at m f).upper ≡ Some u → (0 < u) × ((feature_at m f).lower ≤ u) × (u ≤ MAX_BOUND)
    upper_bounds f u lt e =
        let p = multiplicity (feature_at m f).lower (feature_at m f).upper u (AllPass-from_list_all checks.has_multiplicity m.features bounds f no_feature lt) e in
        let s = (all_at IsSpelledWritten (written_features w) spelled f no_written (within f lt)).2 in
        (p.0, p.1, small_upper (at (written_features w) f).upper u s (sym (from f lt).upper ∙ e))

    pub named_features : (f : ℕ) → IsFeature m f → IsModelName (feature_at m f).name
    named_features f lt = subst IsModelName (sym (from f lt).name) (all_at IsSpelledWritten (written_features w) spelled f no_written (within f lt)).0

-- the names of what is written are names
names_of : {X : Type 0} (P : X → Type 0) (f : X → List ℕ) (xs : List X) → ((x : X) → P x → IsModelName (f x)) → All P xs → AllByRecursion IsModelName (map f xs)
names_of P f xs step h = all_mapped P IsModelName f step xs (from_all P xs h)

-- a model that was numbered, without a cycle or a clash and with its multiplicities in order, is a class model
pub well_formed : (m : Model) → IsNumbered m → chains.is_cyclic (supers m) ≡ false → (has_clash m || renames_clash m) ≡ false → list_all checks.has_multiplicity m.features ≡ true → IsClassModel m
well_formed m n acyclic no_clash bounds =
    let w = n.written in
    let free = (or_parts (has_clash m) (renames_clash m) no_clash).0 in
    let free_old = (or_parts (has_clash m) (renames_clash m) no_clash).1 in
    let parts = made_of w m n.numbered in
    let counts = few w n.limits in
    let names = differs w n.distinct in
    let spelled = all_spelled w n.spelled in
    let scope = scope_of w in
    record {
      few_classes = omega (arith, class_count w m n.limits n.distinct parts, counts.classes);
      few_enumerations = omega (arith, enumeration_count w m n.limits n.distinct parts, counts.enumerations);
      few_literals = along (λ (e : Enumeration). length e.literals ≤ MAX_TYPES) (map enumeration_as_written w.enumerations) m.enumerations parts.enumerations
          (all_mapped (λ (e : WrittenEnumeration). nat_le (length e.literals) MAX_TYPES ≡ true) (λ (e : Enumeration). length e.literals ≤ MAX_TYPES) enumeration_as_written (λ e h. le_of (length e.literals) MAX_TYPES h) w.enumerations (of_each (λ e. nat_le (length e.literals) MAX_TYPES) w.enumerations counts.literals));
      few_features = omega (arith, feature_count w m n.limits n.distinct parts, counts.features);
      title = ap is_title parts.name ∙ n.spelled.0;
      named_types = along IsModelName (checks.written_enumeration_names w ++ checks.written_class_names w) (type_names m) (types_kept w m n.limits n.distinct parts)
          (all_joined IsModelName (checks.written_enumeration_names w) (checks.written_class_names w) (names_of IsSpelledEnumeration (λ e. e.name) w.enumerations (λ e h. h.0) n.spelled.1) (names_of IsSpelledClass (λ c. c.name) w.classes (λ c h. h.0) n.spelled.2));
      named_literals = along (λ (e : Enumeration). All IsModelName e.literals) (map enumeration_as_written w.enumerations) m.enumerations parts.enumerations
          (all_mapped IsSpelledEnumeration (λ (e : Enumeration). All IsModelName e.literals) enumeration_as_written (λ e h. h.1) w.enumerations (from_all IsSpelledEnumeration w.enumerations n.spelled.1));
      named_features = named_features w m n.limits n.distinct parts spelled bounds;
      named_associations = along IsModelName (checks.written_association_names w) m.associations parts.associations (names_of IsSpelledAssociation (λ a. a.name) w.associations (λ a h. h.0) n.spelled.3);
      types_differ = ap (repeats bytes_eq) (types_kept w m n.limits n.distinct parts) ∙ names.types;
      types_defined = ap (list_any is_predefined) (types_kept w m n.limits n.distinct parts) ∙ names.defined;
      associations_differ = ap (repeats bytes_eq) parts.associations ∙ names.associations;
      supers_differ = all_at SupersDiffer m.classes (supers_differ scope w.classes m.classes parts.classes names.supers);
      literals_differ = along (λ (e : Enumeration). repeats bytes_eq e.literals ≡ false) (map enumeration_as_written w.enumerations) m.enumerations parts.enumerations
          (all_mapped (λ (e : WrittenEnumeration). repeats bytes_eq e.literals ≡ false) (λ (e : Enumeration). repeats bytes_eq e.literals ≡ false) enumeration_as_written (λ e h. h) w.enumerations (of_none (λ e. repeats bytes_eq e.literals) w.enumerations names.literals));
      known_supers = subst (λ (k : ℕ). All (λ (c : Class). All (λ d. d < k) c.supers) m.classes) (scope_classes w m n.limits n.distinct parts) (all_at (λ (c : Class). All (λ d. d < length scope.classes) c.supers) m.classes (supers_within scope w.classes m.classes parts.classes));
      acyclic = acyclic;
      known_owners = owned w m n.limits n.distinct parts;
      known_classes = λ f c lt e. let a = from w m n.limits n.distinct parts f lt in subst (λ (k : ℕ). c < k) (scope_classes w m n.limits n.distinct parts) (class_within scope (at (written_features w) f).role (at (written_features w) f).element (feature_at m f).element c a.element e);
      known_enumerations = λ f k lt e. let a = from w m n.limits n.distinct parts f lt in subst (λ (x : ℕ). k < x) (scope_enumerations w m n.limits n.distinct parts) (enumeration_within scope (at (written_features w) f).role (at (written_features w) f).element (feature_at m f).element k a.element e);
      scalar_attributes = λ f c lt r e.
          let a = from w m n.limits n.distinct parts f lt in
          let d = at (written_features w) f in
          (attribute_is scope d.element (feature_at m f).element (subst (λ (x : Role). element_type scope x d.element ≡ okay (feature_at m f).element) (sym a.role ∙ r) a.element)).no_class c e;
      lower_bounds = lower_bounds w m n.limits n.distinct parts spelled bounds;
      upper_bounds = upper_bounds w m n.limits n.distinct parts spelled bounds;
      unique_ends = unique_ends w m n.limits n.distinct parts;
      single_values = single_values w m n.limits n.distinct parts;
      sources = sources w m n.limits n.distinct parts;
      opposites = opposites w m n.limits n.distinct parts;
      one_feature = one_feature w m n.limits n.distinct parts free;
      few_renames = omega (arith, each_length (class_rename_in_scope scope) w.class_renames m.renames.classes parts.old_classes, each_length (feature_rename_in_scope scope m.features) w.feature_renames m.renames.features parts.old_features, counts.renames);
      named_old_classes = along IsModelName (checks.written_old_names w) (old_class_names m) (old_kept w m n.limits n.distinct parts) (names_of IsSpelledClassRename (λ r. r.old) w.class_renames (λ r h. h) n.spelled.4);
      named_old_features = λ i lt. subst IsModelName (sym (entry_is w m n.limits n.distinct parts i lt).0) (n.spelled.5 i (record { class = []; old = []; new = [] }) (written_inside w m n.limits n.distinct parts i lt));
      old_classes_differ = ap (λ (l : List (List ℕ)). repeats bytes_eq (l ++ old_class_names m)) (types_kept w m n.limits n.distinct parts) ∙ ap (λ (l : List (List ℕ)). repeats bytes_eq ((checks.written_enumeration_names w ++ checks.written_class_names w) ++ l)) (old_kept w m n.limits n.distinct parts) ∙ names.old_types;
      old_classes_defined = ap (list_any is_predefined) (old_kept w m n.limits n.distinct parts) ∙ names.old_defined;
      renamed_classes = renamed_classes w m n.limits n.distinct parts;
      renamed_features = λ i lt. (entry_is w m n.limits n.distinct parts i lt).2;
      renamed_owners = λ i lt. (entry_is w m n.limits n.distinct parts i lt).3;
      old_or_present = old_or_present w m n.limits n.distinct parts free_old;
      one_old_feature = one_old_feature w m n.limits n.distinct parts free_old;
    }
