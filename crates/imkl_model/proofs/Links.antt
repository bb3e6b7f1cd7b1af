-- What names name, old and present.
use Rattle.std.proofs.Common.{◌≡◌, ◌∙◌, inl, inr, ℕ, zero, suc, ◌+◌, ◌<◌, ◌&&◌, ◌++◌, Bool, true, false, List, [], length, get_or, map, position, slice_index_or, bytes_eq, Option, Some, None, IfSome, option_map, option_and_then, refl, sym, ap, subst, arith}
use Rattle.std.specs.Option.{option_map_or}
use Rattle.std.proofs.lemmas.Bool.{cases_Bool, and_parts}
use Rattle.std.proofs.lemmas.List.{length-map, length-append, get_or-map, get_or_append_left, get_or-append-add}
use Rattle.std.proofs.lemmas.List.Quantifiers.{position-Some}
use Rattle.std.proofs.lemmas.Option.{same_Some}
use Rattle.std.proofs.lemmas.Slice.Eq.{bytes_eq-Decides}
use Rattle.ocl_base.proofs.ForAbove.{least_passes}
use Rattle.ocl_base.specs.Numbers.{least}
use Rattle.imkl_model.specs.declared.entry.Class.{Class}
use Rattle.imkl_model.specs.declared.feature.FeatureInfo.{FeatureInfo}
use Rattle.imkl_model.specs.Held.{alias_of}
use Rattle.imkl_model.specs.Groups.{model_with, model_renaming, AreDistinct}
use Rattle.imkl_model.specs.ClassModel.{Model, no_renames, no_feature, feature_in, Renames, class_at, feature_at, conforms, belongs, class_names, enumeration_names, class_number, feature_number}
use Rattle.imkl_model.specs.Renames.{no_feature_rename, class_rename_at, feature_rename_at, old_class_names, class_rename_number, renamed_class, is_for, feature_rename_number, renamed_in, renames_clash, renamed_feature, linked_class, linked_feature}
use Rattle.imkl_model.specs.WellFormed.{IsClassModel, IsFeature, IsFeatureRename, type_names}
use Rattle.imkl_model.specs.Laws as laws
use Rattle.imkl_model.proofs.Repeated.{one_place}
use Rattle.imkl_model.proofs.Doubles.{IsTaken, found_taken}
use Rattle.imkl_model.proofs.Lookup.{distinct, the_feature}
use Rattle.imkl_model.proofs.ModelLaws.{classes_have_names, features_have_names}

nothing : {X : Type 0} (x : X) → None ≡ Some x → ⊥
nothing x e = cc

pub no_number : (f : ℕ → ℕ) (o : Option ℕ) → None ≡ option_map f o → o ≡ None
no_number f None e = refl
no_number f (Some i) e = absurd (nothing (f i) e)

-- ---- classes

module _ (m : Model) where
  -- an entry's number is in range, and the entry has the name
  class_entry : (name : List ℕ) (i : ℕ) → class_rename_number m name ≡ Some i → (i < length m.renames.classes) × (get_or (old_class_names m) i [] ≡ name)
  class_entry name i is =
      let p = position-Some (bytes_eq name) (old_class_names m) i [] is in
      (omega (arith, p.0, length-map m.renames.classes (λ r. r.old)), sym ((bytes_eq-Decides name (get_or (old_class_names m) i [])).0 p.1))

  -- without an entry a name stays
  pub class_stays : (name : List ℕ) → class_rename_number m name ≡ None → renamed_class m name ≡ name
  class_stays name none = ap (λ (o : Option ℕ). option_map_or (λ i. (class_at m (class_rename_at m i).class).name) o name) none

  -- an old name names the class of its entry
  pub class_by_entry : IsClassModel m → (name : List ℕ) (o : Option ℕ) (c : ℕ) → class_rename_number m name ≡ o → Some c ≡ option_map (λ i. (class_rename_at m i).class) o → linked_class m name ≡ Some c
  class_by_entry well name None c is e = absurd (nothing c (sym e))
  class_by_entry well name (Some i) c is e =
      let k = (class_rename_at m i).class in
      let same : c ≡ k = same_Some c k e in
      let there : k < length m.classes = well.renamed_classes i (class_entry name i is).0 in
      ap (λ (o : Option ℕ). class_number m (option_map_or (λ j. (class_at m (class_rename_at m j).class).name) o name)) is
      ∙ (classes_have_names m well (class_at m k).name k).1 (there, refl) ∙ ap (λ (x : ℕ). Some x) (sym same)

  -- the class of a present name has no entry
  no_entry : IsClassModel m → (name : List ℕ) (c : ℕ) → class_number m name ≡ Some c → (o : Option ℕ) → class_rename_number m name ≡ o → o ≡ None
  no_entry well name c here None is = refl
  no_entry well name c here (Some i) is =
      let olds = old_class_names m in
      let types = type_names m in
      let entry = class_entry name i is in
      let li : i < length olds = omega (arith, entry.0, length-map m.renames.classes (λ r. r.old)) in
      let p = position-Some (bytes_eq name) (class_names m) c [] here in
      let at : ℕ = length (enumeration_names m) + c in
      let lt : at < length types = omega (arith, p.0, length-append (enumeration_names m) (class_names m)) in
      let present : get_or (types ++ olds) at [] ≡ name = get_or_append_left types olds [] at lt ∙ get_or-append-add (enumeration_names m) (class_names m) c [] ∙ sym ((bytes_eq-Decides name (get_or (class_names m) c [])).0 p.1) in
      let old : get_or (types ++ olds) (length types + i) [] ≡ name = get_or-append-add types olds i [] ∙ entry.1 in
      let same : at ≡ length types + i = one_place (types ++ olds) at (length types + i) well.old_classes_differ (omega (arith, lt, length-append types olds)) (omega (arith, li, length-append types olds)) (present ∙ sym old) in
      absurd (omega (arith, same, lt))

  pub present_classes_stay : IsClassModel m → laws.PresentClassesStay m
  present_classes_stay well name c here =
      let none = no_entry well name c here (class_rename_number m name) refl in
      let stays = class_stays name none in
      (stays, ap (λ (n : List ℕ). class_number m n) stays ∙ here)

  pub linked_classes_are_there : IsClassModel m → laws.LinkedClassesAreThere m
  linked_classes_are_there well name c e = ((classes_have_names m well (renamed_class m name) c).0 e).0

  -- ---- features

  -- an entry's number is in range, and the entry has the name and is for the class
  pub feature_entry : (c : ℕ) (name : List ℕ) (i : ℕ) → feature_rename_number m c name ≡ Some i → IsFeatureRename m i × (name ≡ (feature_rename_at m i).old) × (is_for m c i ≡ true)
  feature_entry c name i is =
      let p : ℕ → Bool = λ k. bytes_eq name (feature_rename_at m k).old && is_for m c k in
      let found : IfSome (Some i) (λ k. (k < length m.renames.features) × (p k ≡ true)) = subst (λ (o : Option ℕ). IfSome o (λ k. (k < length m.renames.features) × (p k ≡ true))) is (least_passes p (length m.renames.features)) in
      let q = and_parts (bytes_eq name (feature_rename_at m i).old) (is_for m c i) found.1 in
      (found.0, (bytes_eq-Decides name (feature_rename_at m i).old).0 q.0, q.1)

  -- the name of a feature by that of its class, which is there
  pub feature_linked : (class name : List ℕ) (c : ℕ) → linked_class m class ≡ Some c → linked_feature m class name ≡ feature_number m c (renamed_in m c name)
  feature_linked class name c e =
      ap (λ (o : Option ℕ). option_and_then (λ k. feature_number m k (option_map_or (λ j. renamed_in m j name) o name)) o) e

  pub feature_stays : (c : ℕ) (name : List ℕ) → feature_rename_number m c name ≡ None → renamed_in m c name ≡ name
  feature_stays c name none = ap (λ (o : Option ℕ). option_map_or (λ i. (feature_at m (feature_rename_at m i).feature).name) o name) none

  -- an old name names the feature of its entry
  pub feature_by_entry : IsClassModel m → (c : ℕ) (name : List ℕ) (o : Option ℕ) (f : ℕ) → feature_rename_number m c name ≡ o → Some f ≡ option_map (λ i. (feature_rename_at m i).feature) o → feature_number m c (renamed_in m c name) ≡ Some f
  feature_by_entry well c name None f is e = absurd (nothing f (sym e))
  feature_by_entry well c name (Some i) f is e =
      let k = (feature_rename_at m i).feature in
      let same : f ≡ k = same_Some f k e in
      let entry = feature_entry c name i is in
      let inside : IsFeature m k = well.renamed_features i entry.0 in
      let here : belongs m c k ≡ true = ap (conforms m c) (well.renamed_owners i entry.0) ∙ entry.2 in
      ap (λ (o : Option ℕ). feature_number m c (option_map_or (λ j. (feature_at m (feature_rename_at m j).feature).name) o name)) is
      ∙ the_feature m c (feature_at m k).name (distinct m well) k (inside, here, refl) ∙ ap (λ (x : ℕ). Some x) (sym same)

  -- a feature of a present name has no entry
  no_feature_entry : IsClassModel m → (c : ℕ) (name : List ℕ) (f : ℕ) → feature_number m c name ≡ Some f → (o : Option ℕ) → feature_rename_number m c name ≡ o → o ≡ None
  no_feature_entry well c name f here None is = refl
  no_feature_entry well c name f here (Some i) is =
      let entry = feature_entry c name i is in
      let feature = (features_have_names m well name c f).0 here in
      absurd (well.old_or_present c i f entry.0 feature.0 entry.2 feature.1 (feature.2 ∙ entry.1))

  pub stays_in : IsClassModel m → (c : ℕ) (name : List ℕ) (f : ℕ) → feature_number m c name ≡ Some f → renamed_in m c name ≡ name
  stays_in well c name f here = feature_stays c name (no_feature_entry well c name f here (feature_rename_number m c name) refl)

  -- two names that name a feature: the class, and the feature in it
  both_names : (class name : List ℕ) (f : ℕ) (o : Option ℕ) → class_number m class ≡ o → option_and_then (λ c. feature_number m c name) o ≡ Some f → (c : ℕ) × (class_number m class ≡ Some c) × (feature_number m c name ≡ Some f)
  both_names class name f None is e = absurd (nothing f e)
  both_names class name f (Some c) is e = (c, is, e)

  pub present_features_stay : IsClassModel m → laws.PresentFeaturesStay m
  present_features_stay well class name f here =
      let w = both_names class name f (class_number m class) refl here in
      let class_is = present_classes_stay well class w.0 w.1 in
      let stays = stays_in well w.0 name f w.2 in (
        ap (λ (o : Option ℕ). option_map_or (λ c. renamed_in m c name) o name) w.1 ∙ stays,
        feature_linked class name w.0 class_is.1 ∙ ap (λ (n : List ℕ). feature_number m w.0 n) stays ∙ w.2,
      )

  pub linked_features_belong : IsClassModel m → laws.LinkedFeaturesBelong m
  linked_features_belong well class name f e =
      let w = both_names (renamed_class m class) (renamed_feature m (renamed_class m class) name) f (linked_class m class) refl e in
      let h = (features_have_names m well (renamed_feature m (renamed_class m class) name) w.0 f).0 w.2 in
      (w.0, w.1, h.0, h.1)

  -- what is linked is in range
  pub classes_in_range : IsClassModel m → (name : List ℕ) (o : Option ℕ) → o ≡ linked_class m name → IfSome o (λ c. c < length m.classes)
  classes_in_range well name None e = tt
  classes_in_range well name (Some c) e = linked_classes_are_there well name c (sym e)

  pub features_in_range : IsClassModel m → (class name : List ℕ) (o : Option ℕ) → o ≡ linked_feature m class name → IfSome o (λ f. f < length m.features)
  features_in_range well class name None e = tt
  features_in_range well class name (Some f) e = (linked_features_belong well class name f (sym e)).2

-- without entries no feature has one
none_in : (m : Model) → m.renames ≡ no_renames → (c : ℕ) (name : List ℕ) → feature_rename_number m c name ≡ None
none_in m none c name = ap (λ (r : Renames). least (λ i. bytes_eq name (slice_index_or r.features i no_feature_rename).old && conforms m c (slice_index_or r.features i no_feature_rename).class) (length r.features)) none

stays_at : (m : Model) → m.renames ≡ no_renames → (name : List ℕ) (o : Option ℕ) → option_map_or (λ c. renamed_in m c name) o name ≡ name
stays_at m none name None = refl
stays_at m none name (Some c) = feature_stays m c name (none_in m none c name)

-- without old names each name stays
pub names_stay : (m : Model) → m.renames ≡ no_renames → laws.NamesStay m
names_stay m none = (
  λ name. class_stays m name (ap (λ (r : Renames). position (bytes_eq name) (map (λ e. e.old) r.classes)) none),
  λ class name. stays_at m none name (class_number m class),
)

-- ---- entries as features

-- the owners of entries are classes, and no class has two entries of one old name
pub renames_distinct : (m : Model) → IsClassModel m → AreDistinct m.classes (map alias_of m.renames.features)
renames_distinct m well =
    let count = length-map m.renames.features alias_of in
    let at : (i : ℕ) → i < length (map alias_of m.renames.features) → feature_in (map alias_of m.renames.features) i ≡ alias_of (feature_rename_at m i) = λ i lt. get_or-map alias_of m.renames.features i no_feature_rename no_feature (omega (arith, lt, count)) in
    record {
      owners = λ i lt.
          let inside : IsFeatureRename m i = omega (arith, lt, count) in
          let class : (feature_rename_at m i).class < length m.classes = subst (λ (k : ℕ). k < length m.classes) (well.renamed_owners i inside) (well.known_owners (feature_rename_at m i).feature (well.renamed_features i inside)) in
          subst (λ (x : FeatureInfo). x.owner < length m.classes) (sym (at i lt)) class;
      one_feature = λ c i j li lj for_i for_j same.
          well.one_old_feature c i j (omega (arith, li, count)) (omega (arith, lj, count)) (ap (λ (x : FeatureInfo). conforms m c x.owner) (sym (at i li)) ∙ for_i) (ap (λ (x : FeatureInfo). conforms m c x.owner) (sym (at j lj)) ∙ for_j)
          (ap (λ (x : FeatureInfo). x.name) (sym (at i li)) ∙ same ∙ ap (λ (x : FeatureInfo). x.name) (at j lj));
    }

least_same : (p q : ℕ → Bool) (n : ℕ) → ((k : ℕ) → k < n → p k ≡ q k) → least p n ≡ least q n
least_same p q zero same = refl
least_same p q (suc n) same = rw (least_same p q n (λ k lt. same k (omega (arith, lt))), same n (omega arith)) refl

-- the feature that is found among them is the entry that is found
pub alias_number : (cs : List Class) (rs : Renames) (c : ℕ) (name : List ℕ) → feature_number (model_with cs (map alias_of rs.features)) c name ≡ feature_rename_number (model_renaming cs [] rs) c name
alias_number cs rs c name =
    let m = model_renaming cs [] rs in
    let fs = map alias_of rs.features in
    let p : ℕ → Bool = λ i. bytes_eq name (feature_in fs i).name && conforms m c (feature_in fs i).owner in
    let q : ℕ → Bool = λ i. bytes_eq name (feature_rename_at m i).old && is_for m c i in
    let count = length-map rs.features alias_of in
    ap (λ (n : ℕ). least p n) count ∙ least_same p q (length rs.features) (λ k lt. ap (λ (x : FeatureInfo). bytes_eq name x.name && conforms m c x.owner) (get_or-map alias_of rs.features k no_feature_rename no_feature lt))

-- ---- clashes

not_taken : (m : Model) → IsClassModel m → (c i : ℕ) → IsFeatureRename m i → is_for m c i ≡ true → IsTaken m c i → ⊥
not_taken m well c i lt for (inl h) = well.old_or_present c i h.0 lt h.1 for h.2 (sym h.3)
not_taken m well c i lt for (inr h) =
    let same : i ≡ h.0 = well.one_old_feature c i h.0 lt (omega (arith, h.1, lt)) for h.2 h.3 in
    absurd (omega (arith, same, h.1))

-- no class has two features of one name where old names count too
pub no_old_clash : (m : Model) → IsClassModel m → renames_clash m ≡ false
no_old_clash m well =
    elim (cases_Bool (renames_clash m)) [
      | inl clash ↦ let w = found_taken m clash in absurd (not_taken m well w.0 w.1 w.3 w.4 w.5)
      | inr none ↦ none
    ]
