-- In each model that a file describes, a symbol of present names names what its names name.
use Rattle.std.proofs.Common.{◌≡◌, ◌∙◌, ⊎_elim, ℕ, zero, suc, ◌+◌, ◌<◌, ◌&&◌, ◌||◌, ◌++◌, not, Bool, true, false, List, [], length, get_or, map, bytes_eq, Option, Some, None, is_some, Ok, IfSome, refl, sym, ap, subst, arith}
use Rattle.std.specs.Option.{option_map_or}
use Rattle.std.specs.List.{list_all, list_any}
use Rattle.std.proofs.lemmas.Bool.{false≢true, and_parts, or_parts, cases_eq}
use Rattle.std.proofs.lemmas.List.{length-map, length-append, get_or_append_left, get_or-append-add}
use Rattle.std.proofs.lemmas.List.Quantifiers.{position-Some}
use Rattle.std.proofs.lemmas.Slice.Eq.{bytes_eq-Decides}
use Rattle.rule_verify.proofs.ForAbove.{symbols_stay}
use Rattle.serde_json.specs.Data.{Data}
use Rattle.ocl_base.specs.Lists.{repeats}
use Rattle.ocl_base.specs.Steps.{check, each}
use Rattle.ocl_base.proofs.ForAbove.{both_steps, ok_is, each_map, least_passes, stands_once}
use Rattle.imkl_model.specs.declared.fault.ModelFault.TheVariants.{Limit, DuplicateName, Cycle, FeatureClash, BadMultiplicity}
use Rattle.imkl_model.specs.declared.feature.FeatureInfo.{FeatureInfo}
use Rattle.imkl_model.specs.declared.entry.Class.{Class}
use Rattle.imkl_model.specs.declared.entry.ClassRename.{ClassRename}
use Rattle.imkl_model.specs.declared.written.Written.{Written}
use Rattle.imkl_model.specs.declared.written.WrittenClass.{WrittenClass}
use Rattle.imkl_model.specs.declared.written.WrittenClassRename.{WrittenClassRename}
use Rattle.imkl_model.specs.declared.numbering.Scope.{Scope}
use Rattle.imkl_model.specs.Scopes.{scope_of}
use Rattle.imkl_model.specs.Words.{is_predefined}
use Rattle.imkl_model.specs.Chains.{any_below, is_cyclic}
use Rattle.imkl_model.specs.ClassModel.{Model, Renames, supers, has_clash, class_at, class_names, class_number, feature_at, feature_number}
use Rattle.imkl_model.specs.Renames.{class_rename_at, feature_rename_at, old_class_names, class_rename_number, renamed_class, is_for, feature_rename_number, renamed_in, renamed_feature, is_taken, renames_clash}
use Rattle.imkl_model.specs.WrittenFeatures.{written_features}
use Rattle.imkl_model.specs.Checks.{written_enumeration_names, written_class_names, written_old_names, is_within_limits, repeats_type, repeats_literal, repeats_super, repeats_association, repeats_feature, repeats_name, has_multiplicity}
use Rattle.imkl_model.specs.Numbering.{number_in, class_in_scope, feature_in_scope, class_rename_in_scope, feature_rename_in_scope, renames_in_scope, numbered_model}
use Rattle.imkl_model.specs.Shape.{written_from}
use Rattle.imkl_model.specs.Description.{checked_model, describes_model}
use Rattle.rule_verify.specs.Laws.{PresentSymbolsStay}

-- no old name is a present one: that of no class, nor that of a feature of a class for which its entry holds
pub record NamesApart (m : Model) : Type 0 where
  pub classes : (name : List ℕ) (c : ℕ) → class_number m name ≡ Some c → class_rename_number m name ≡ None
  pub features : (c f : ℕ) (name : List ℕ) → c < length m.classes → feature_number m c name ≡ Some f → feature_rename_number m c name ≡ None

-- ---- symbols

module _ (m : Model) (apart : NamesApart m) where
  class_name_stays : (name : List ℕ) (c : ℕ) → class_number m name ≡ Some c → renamed_class m name ≡ name
  class_name_stays name c is =
      ap (λ (o : Option ℕ). option_map_or (λ i. (class_at m (class_rename_at m i).class).name) o name) (apart.classes name c is)

  feature_name_stays : (class name : List ℕ) (c f : ℕ) → class_number m class ≡ Some c → feature_number m c name ≡ Some f → renamed_feature m class name ≡ name
  feature_name_stays class name c f class_is is =
      let place = position-Some (bytes_eq class) (class_names m) c [] class_is in
      let within : c < length m.classes = omega (arith, place.0, length-map m.classes (λ k. k.name)) in
      ap (λ (o : Option ℕ). option_map_or (λ k. renamed_in m k name) o name) class_is
      ∙ ap (λ (o : Option ℕ). option_map_or (λ i. (feature_at m (feature_rename_at m i).feature).name) o name) (apart.features c f name within is)

  present_names_stay : PresentSymbolsStay m
  present_names_stay = symbols_stay m class_name_stays feature_name_stays

-- ---- classes: no name is repeated

-- what stands in one of two lists that repeat nothing stands not in the other
in_one_alone : (xs ys : List (List ℕ)) (name : List ℕ) (i j : ℕ) → repeats bytes_eq (xs ++ ys) ≡ false → i < length xs → bytes_eq name (get_or xs i []) ≡ true
    → j < length ys → bytes_eq name (get_or ys j []) ≡ true → ⊥
in_one_alone xs ys name i j differ li first lj second =
    let here : get_or (xs ++ ys) i [] ≡ name = get_or_append_left xs ys [] i li ∙ sym ((bytes_eq-Decides name (get_or xs i [])).0 first) in
    let there : get_or (xs ++ ys) (length xs + j) [] ≡ name = get_or-append-add xs ys j [] ∙ sym ((bytes_eq-Decides name (get_or ys j [])).0 second) in
    let same : i ≡ length xs + j =
    stands_once bytes_eq [] (λ x y e. (bytes_eq-Decides x y).1 e) (xs ++ ys) i (length xs + j) differ (omega (arith, li, length-append xs ys)) (omega (arith, lj, length-append xs ys)) (here ∙ sym there) in
    omega (arith, same, li)

classes_apart : (types : List (List ℕ)) (m : Model) → repeats bytes_eq ((types ++ class_names m) ++ old_class_names m) ≡ false
    → (name : List ℕ) (c : ℕ) → class_number m name ≡ Some c → (o : Option ℕ) → class_rename_number m name ≡ o → o ≡ None
classes_apart types m differ name c is None old = refl
classes_apart types m differ name c is (Some i) old =
    let first = position-Some (bytes_eq name) (class_names m) c [] is in
    let second = position-Some (bytes_eq name) (old_class_names m) i [] old in
    let at : get_or (types ++ class_names m) (length types + c) [] ≡ get_or (class_names m) c [] = get_or-append-add types (class_names m) c [] in
    absurd (in_one_alone (types ++ class_names m) (old_class_names m) name (length types + c) i differ (omega (arith, first.0, length-append types (class_names m)))
    (subst (λ (n : List ℕ). bytes_eq name n ≡ true) (sym at) first.1) second.0 second.1)

-- ---- features: no old name is taken

none_below : (p : ℕ → Bool) (n k : ℕ) → any_below p n ≡ false → k < n → p k ≡ false
none_below p zero k none lt = absurd (omega (arith, lt))
none_below p (suc n) k none lt =
    let parts = or_parts (any_below p n) (p n) none in
    ⊎_elim (λ e. ap p e ∙ parts.1) (λ e. none_below p n k parts.0 (omega (arith, lt, e))) (cases_eq k n)

features_apart : (m : Model) → renames_clash m ≡ false → (c f : ℕ) (name : List ℕ) → c < length m.classes → feature_number m c name ≡ Some f
    → (o : Option ℕ) → feature_rename_number m c name ≡ o → o ≡ None
features_apart m free c f name lt is None old = refl
features_apart m free c f name lt is (Some i) old =
    let found : (i < length m.renames.features) × ((bytes_eq name (feature_rename_at m i).old && is_for m c i) ≡ true) =
    subst (λ (o : Option ℕ). IfSome o (λ k. (k < length m.renames.features) × ((bytes_eq name (feature_rename_at m k).old && is_for m c k) ≡ true))) old
    (least_passes (λ k. bytes_eq name (feature_rename_at m k).old && is_for m c k) (length m.renames.features)) in
    let both = and_parts (bytes_eq name (feature_rename_at m i).old) (is_for m c i) found.1 in
    let same : name ≡ (feature_rename_at m i).old = (bytes_eq-Decides name (feature_rename_at m i).old).0 both.0 in
    let there : is_some (feature_number m c (feature_rename_at m i).old) ≡ true =
    ap (λ (n : List ℕ). is_some (feature_number m c n)) (sym same) ∙ ap (λ (o : Option ℕ). is_some o) is in
    let taken : is_taken m c i ≡ true =
    λ j. both.1 j && (there j || any_below (λ k. is_for m c k && bytes_eq (feature_rename_at m i).old (feature_rename_at m k).old) i) in
    let not_taken : is_taken m c i ≡ false =
    none_below (is_taken m c) (length m.renames.features) i
    (none_below (λ k. any_below (is_taken m k) (length m.renames.features)) (length m.classes) c free lt) found.0 in
    absurd (false≢true (sym not_taken ∙ taken))

-- ---- what a file describes

-- a check that passed is true
pub check_is : {E : Type 0} (b : Bool) (e : E) (y : Unit {0}) → check b e ≡ Ok y → b ≡ true
check_is true e y h = refl
check_is false e y h = cc

is_not : (b : Bool) → not b ≡ true → b ≡ false
is_not true h = sym h
is_not false h = refl

class_is : (s : Scope) (c : WrittenClass) (k : Class) → class_in_scope s c ≡ Ok k → k.name ≡ c.name
unfolding class_in_scope
class_is s c k e =
    let p = both_steps (each (number_in s.classes) c.supers) (λ supers. Ok (record { name = c.name; is_abstract = c.is_abstract; supers = supers })) k e in
    ap (λ (x : Class). x.name) (sym (ok_is (record { name = c.name; is_abstract = c.is_abstract; supers = p.0 }) k p.2))

class_rename_is : (s : Scope) (r : WrittenClassRename) (k : ClassRename) → class_rename_in_scope s r ≡ Ok k → k.old ≡ r.old
unfolding class_rename_in_scope
class_rename_is s r k e =
    let p = both_steps (number_in s.classes r.new) (λ class. Ok (record { old = r.old; class = class })) k e in
    ap (λ (x : ClassRename). x.old) (sym (ok_is (record { old = r.old; class = p.0 }) k p.2))

old_classes_are : (s : Scope) (fs : List FeatureInfo) (w : Written) (r : Renames) → renames_in_scope s fs w ≡ Ok r → map (λ k. k.old) r.classes ≡ written_old_names w
unfolding renames_in_scope
old_classes_are s fs w r e =
    let p = both_steps (each (class_rename_in_scope s) w.class_renames) _ r e in
    let q = both_steps (each (feature_rename_in_scope s fs) w.feature_renames) _ r p.2 in
    let same : record { classes = p.0; features = q.0 } ≡ r = ok_is (record { classes = p.0; features = q.0 }) r q.2 in
    ap (λ (x : Renames). map (λ k. k.old) x.classes) (sym same)
    ∙ each_map (class_rename_in_scope s) (λ k. k.old) (λ k. k.old) (class_rename_is s) w.class_renames p.0 p.1

-- the names of classes, present and old, are those that are written
names_are : (w : Written) (m : Model) → numbered_model w ≡ Ok m → (class_names m ≡ written_class_names w) × (old_class_names m ≡ written_old_names w)
unfolding numbered_model
names_are w m e =
    let p = both_steps (each (class_in_scope (scope_of w)) w.classes) _ m e in
    let q = both_steps (each (feature_in_scope (scope_of w)) (written_features w)) _ m p.2 in
    let r = both_steps (renames_in_scope (scope_of w) q.0 w) _ m q.2 in
    let same = ok_is _ m r.2 in (
      ap class_names (sym same) ∙ each_map (class_in_scope (scope_of w)) (λ k. k.name) (λ k. k.name) (class_is (scope_of w)) w.classes p.0 p.1,
      ap old_class_names (sym same) ∙ old_classes_are (scope_of w) q.0 w r.0 r.1,
    )

types_apart : (w : Written) → repeats_type w ≡ false → repeats bytes_eq ((written_enumeration_names w ++ written_class_names w) ++ written_old_names w) ≡ false
unfolding repeats_type
types_apart w e =
    (or_parts (list_any is_predefined (written_enumeration_names w) || list_any is_predefined (written_class_names w) || list_any is_predefined (written_old_names w))
    (repeats bytes_eq ((written_enumeration_names w ++ written_class_names w) ++ written_old_names w)) e).1

names_apart : (w : Written) → repeats_name w ≡ false → repeats bytes_eq ((written_enumeration_names w ++ written_class_names w) ++ written_old_names w) ≡ false
unfolding repeats_name
names_apart w e =
    let p = or_parts (repeats_type w || repeats_literal w || repeats_super w || repeats_association w) (repeats_feature w) e in
    let q = or_parts (repeats_type w || repeats_literal w || repeats_super w) (repeats_association w) p.0 in
    let r = or_parts (repeats_type w || repeats_literal w) (repeats_super w) q.0 in
    types_apart w (or_parts (repeats_type w) (repeats_literal w) r.0).0

-- a model that passes the last checks is the one that was numbered, without a clash
checked_is : (k m : Model) → checked_model k ≡ Ok m → (k ≡ m) × (renames_clash k ≡ false)
unfolding checked_model
checked_is k m e =
    let p = both_steps (check (not (is_cyclic (supers k))) Cycle) _ m e in
    let q = both_steps (check (not (has_clash k || renames_clash k)) FeatureClash) _ m p.2 in
    let r = both_steps (check (list_all has_multiplicity k.features) BadMultiplicity) _ m q.2 in
    let free = is_not (has_clash k || renames_clash k) (check_is (not (has_clash k || renames_clash k)) FeatureClash q.0 q.1) in
    (ok_is k m r.2, (or_parts (has_clash k) (renames_clash k) free).1)

described_apart : (d : Data) (m : Model) → describes_model d ≡ Ok m → NamesApart m
unfolding describes_model
described_apart d m e =
    let p = both_steps (written_from d) _ m e in
    let q = both_steps (check (is_within_limits p.0) Limit) _ m p.2 in
    let r = both_steps (check (not (repeats_name p.0)) DuplicateName) _ m q.2 in
    let k = both_steps (numbered_model p.0) _ m r.2 in
    let checked = checked_is k.0 m k.2 in
    let names = names_are p.0 k.0 k.1 in
    let differ : repeats bytes_eq ((written_enumeration_names p.0 ++ class_names k.0) ++ old_class_names k.0) ≡ false =
    (λ j. repeats bytes_eq ((written_enumeration_names p.0 ++ names.0 j) ++ names.1 j)) ∙ names_apart p.0 (is_not (repeats_name p.0) (check_is (not (repeats_name p.0)) DuplicateName r.0 r.1)) in
    subst NamesApart checked.0 (record {
      classes = λ name c is. classes_apart (written_enumeration_names p.0) k.0 differ name c is (class_rename_number k.0 name) refl;
      features = λ c f name lt is. features_apart k.0 checked.1 c f name lt is (feature_rename_number k.0 c name) refl;
    })

-- in each model that a tree describes, present symbols stay
pub described_symbols_stay : (d : Data) (m : Model) → describes_model d ≡ Ok m → PresentSymbolsStay m
described_symbols_stay d m e = present_names_stay m (described_apart d m e)
