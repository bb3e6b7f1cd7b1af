-- Features that have one name in a class, where old names count too.
use Rattle.std.proofs.Common.{◌≡◌, ◌≢◌, ◌∙◌, ◌⊎◌, inl, inr, ℕ, zero, suc, ◌<◌, ◌≤◌, ◌&&◌, ◌||◌, Bool, true, false, List, length, map, get_or, eqb, Option, Some, None, is_some, IfSome, bytes_eq, if◌then◌else◌, refl, sym, ap, subst, arith}
use Rattle.std.specs.Option.{option_or}
use Rattle.std.specs.List.{list_any}
use Rattle.std.proofs.lemmas.Bool.{false≢true, and_from, and_parts, or_cases, or_right}
use Rattle.std.proofs.lemmas.Bool.Decides.{eqb_tells, leb_tells, Decides-eqb}
use Rattle.std.proofs.lemmas.List.{length-map, get_or-map}
use Rattle.std.proofs.lemmas.Slice.Eq.{bytes_eq-Decides}
use Rattle.ocl_base.specs.Numbers.{least}
use Rattle.ocl_base.proofs.ForAbove.{same_test, least_passes, least_found, place_of, places_below, places_pass}
use Rattle.imkl_model.specs.declared.entry.Class.{Class}
use Rattle.imkl_model.specs.declared.feature.FeatureInfo.{FeatureInfo}
use Rattle.imkl_model.specs.Chains.{any_below, is_or_reaches}
use Rattle.imkl_model.specs.ClassModel.{Model, supers, supers_in, feature_in, feature_at, no_feature, belongs, is_named, is_own_in, own_feature_number, feature_number, has_clash, IsClash}
use Rattle.imkl_model.specs.Renames.{feature_rename_at, no_feature_rename, is_for, is_taken, renames_clash}
use Rattle.imkl_model.specs.Held.{alias_of}
use Rattle.imkl_model.specs.Groups.{model_with, group, features_named, is_shared, shares, begins_with, AreOwned, AreOfOneOwner}
use Rattle.imkl_model.proofs.Below.{any_found, found_any}
use Rattle.imkl_model.proofs.ClashGroups.{any_of, of_any, in_group, begins, same_group}
use Rattle.imkl_model.proofs.ClashLaws.{clash_found, joined, unequal}
use Rattle.imkl_model.proofs.Warshall.{is_or_reaches-decides}

-- ---- the least number that passes

first_or : (p : ℕ → Bool) (n k j : ℕ) (o : Option ℕ) (b : Bool) → least p n ≡ o → p n ≡ b
    → ((i : ℕ) → least p n ≡ Some i → j < n → i ≤ j) → option_or o (if b then Some n else None) ≡ Some k → j < suc n → p j ≡ true → k ≤ j
first_or p n k j (Some i) b is at before e lt passes =
    let same : i ≡ k = cc in
    let found : IfSome (Some i) (λ (x : ℕ). (x < n) × (p x ≡ true)) = subst (λ (o : Option ℕ). IfSome o (λ (x : ℕ). (x < n) × (p x ≡ true))) is (least_passes p n) in
    elim (leb_tells n j) [
      | inl le ↦ omega (arith, same, found.0, le.1)
      | inr less ↦ let first = before i is less.1 in omega (arith, same, first)
    ]
first_or p n k j None true is at before e lt passes =
    let same : n ≡ k = cc in
    elim (leb_tells n j) [
      | inl le ↦ omega (arith, same, le.1)
      | inr less ↦ absurd (let w = least_found p n j less.1 passes in nothing w.0 (sym is ∙ w.1))
    ]
  where
    nothing : (x : ℕ) → None ≡ Some x → ⊥
    nothing x h = cc
first_or p n k j None false is at before e lt passes = absurd (nothing k e)
  where
    nothing : (x : ℕ) → None ≡ Some x → ⊥
    nothing x h = cc

-- no number before it passes
pub least_first : (p : ℕ → Bool) (n k j : ℕ) → least p n ≡ Some k → j < n → p j ≡ true → k ≤ j
least_first p zero k j e lt passes = absurd (omega (arith, lt))
least_first p (suc n) k j e lt passes = first_or p n k j (least p n) (p n) refl refl (λ i is less. least_first p n i j is less passes) e lt passes

-- ---- features of one owner

module _ (fs : List FeatureInfo) (f : ℕ) (lt : f < length fs) where
  own_itself : is_own_in fs (feature_in fs f).name (feature_in fs f).owner f ≡ true
  own_itself =
      and_from (bytes_eq (feature_in fs f).name (feature_in fs f).name) (eqb (feature_in fs f).owner (feature_in fs f).owner)
      ((bytes_eq-Decides (feature_in fs f).name (feature_in fs f).name).1 refl) ((Decides-eqb (feature_in fs f).owner (feature_in fs f).owner).1 refl)

  own_of : (g : ℕ) → is_own_in fs (feature_in fs f).name (feature_in fs f).owner g ≡ true → ((feature_in fs f).name ≡ (feature_in fs g).name) × ((feature_in fs f).owner ≡ (feature_in fs g).owner)
  own_of g e =
      let p = and_parts (bytes_eq (feature_in fs f).name (feature_in fs g).name) (eqb (feature_in fs g).owner (feature_in fs f).owner) e in
      ((bytes_eq-Decides (feature_in fs f).name (feature_in fs g).name).0 p.0, sym ((Decides-eqb (feature_in fs g).owner (feature_in fs f).owner).0 p.1))

  -- the first of its name and owner comes before it: that one is another
  pub earlier_is : (k : ℕ) → own_feature_number fs (feature_in fs f).owner (feature_in fs f).name ≡ Some k → k < f → (g : ℕ) × AreOfOneOwner fs f g
  earlier_is k e less =
      let p : ℕ → Bool = is_own_in fs (feature_in fs f).name (feature_in fs f).owner in
      let found : IfSome (Some k) (λ (x : ℕ). (x < length fs) × (p x ≡ true)) = subst (λ (o : Option ℕ). IfSome o (λ (x : ℕ). (x < length fs) × (p x ≡ true))) e (least_passes p (length fs)) in
      let same = own_of k found.1 in
      (k, (less, lt, same.0, same.1))

  -- where another comes before it, so does the first
  pub first_before : (k : ℕ) → own_feature_number fs (feature_in fs f).owner (feature_in fs f).name ≡ Some k → (g : ℕ) × AreOfOneOwner fs f g → k < f
  first_before k e h =
      let p : ℕ → Bool = is_own_in fs (feature_in fs f).name (feature_in fs f).owner in
      let here : p h.0 ≡ true = and_from (bytes_eq (feature_in fs f).name (feature_in fs h.0).name) (eqb (feature_in fs h.0).owner (feature_in fs f).owner)
      ((bytes_eq-Decides (feature_in fs f).name (feature_in fs h.0).name).1 h.1.2) ((Decides-eqb (feature_in fs h.0).owner (feature_in fs f).owner).1 (sym h.1.3)) in
      let first = least_first p (length fs) k h.0 e (omega (arith, h.1.0, lt)) here in
      omega (arith, first, h.1.0)

  -- there is a first
  pub some_own : own_feature_number fs (feature_in fs f).owner (feature_in fs f).name ≡ None → ⊥
  some_own e =
      let w = least_found (is_own_in fs (feature_in fs f).name (feature_in fs f).owner) (length fs) f lt own_itself in
      nothing w.0 (sym e ∙ w.1)
    where
      nothing : (x : ℕ) → None ≡ Some x → ⊥
      nothing x h = cc

-- ---- what a clash of old names is

-- an entry's old name is the name of a feature of a class that it is for
pub taken_by_feature : (m : Model) (c i f : ℕ) → c < length m.classes → i < length m.renames.features → f < length m.features → is_for m c i ≡ true → belongs m c f ≡ true → (feature_at m f).name ≡ (feature_rename_at m i).old → renames_clash m ≡ true
taken_by_feature m c i f lc li lf for in_f same =
    let old = (feature_rename_at m i).old in
    let passes = and_from (is_named m old f) (belongs m c f) ((bytes_eq-Decides old (feature_at m f).name).1 (sym same)) in_f in
    let w = least_found (λ g. is_named m old g && belongs m c g) (length m.features) f lf passes in
    let there : is_some (feature_number m c old) ≡ true = ap (λ (o : Option ℕ). is_some o) w.1 in
    let taken : is_taken m c i ≡ true = rw (for, there) refl in
    any_found (λ d. any_below (is_taken m d) (length m.renames.features)) (length m.classes) c lc (any_found (is_taken m c) (length m.renames.features) i li taken)

-- two entries for a class have one old name
pub taken_by_entry : (m : Model) (c i j : ℕ) → c < length m.classes → i < length m.renames.features → j < i → is_for m c i ≡ true → is_for m c j ≡ true → (feature_rename_at m i).old ≡ (feature_rename_at m j).old → renames_clash m ≡ true
taken_by_entry m c i j lc li less for_i for_j same =
    let old = (feature_rename_at m i).old in
    let here = and_from (is_for m c j) (bytes_eq old (feature_rename_at m j).old) for_j ((bytes_eq-Decides old (feature_rename_at m j).old).1 same) in
    let there : any_below (λ k. is_for m c k && bytes_eq old (feature_rename_at m k).old) i ≡ true = any_found (λ k. is_for m c k && bytes_eq old (feature_rename_at m k).old) i j less here in
    let either : (is_some (feature_number m c old) || any_below (λ k. is_for m c k && bytes_eq old (feature_rename_at m k).old) i) ≡ true = or_right (is_some (feature_number m c old)) (any_below (λ k. is_for m c k && bytes_eq old (feature_rename_at m k).old) i) there in
    let taken : is_taken m c i ≡ true = and_from (is_for m c i) (is_some (feature_number m c old) || any_below (λ k. is_for m c k && bytes_eq old (feature_rename_at m k).old) i) for_i either in
    any_found (λ d. any_below (is_taken m d) (length m.renames.features)) (length m.classes) c lc (any_found (is_taken m c) (length m.renames.features) i li taken)

-- the entry and the feature, or the earlier entry, of a clash in a class
abbrev pub IsTaken : Model → ℕ → ℕ → Type 0
IsTaken m c i =
    ((f : ℕ) × (f < length m.features) × (belongs m c f ≡ true) × ((feature_rename_at m i).old ≡ (feature_at m f).name))
    ⊎ ((j : ℕ) × (j < i) × (is_for m c j ≡ true) × ((feature_rename_at m i).old ≡ (feature_rename_at m j).old))

some_is : (o : Option ℕ) (P : ℕ → Type 0) → is_some o ≡ true → IfSome o P → (k : ℕ) × P k
some_is None P e h = absurd (false≢true e)
some_is (Some k) P e h = (k, h)

pub found_taken : (m : Model) → renames_clash m ≡ true → (c i : ℕ) × (c < length m.classes) × (i < length m.renames.features) × (is_for m c i ≡ true) × IsTaken m c i
found_taken m e =
    let w = found_any (λ c. any_below (is_taken m c) (length m.renames.features)) (length m.classes) e in
    let v = found_any (is_taken m w.0) (length m.renames.features) w.2 in
    let c = w.0 in
    let i = v.0 in
    let old = (feature_rename_at m i).old in
    let p = and_parts (is_for m c i) (is_some (feature_number m c old) || any_below (λ j. is_for m c j && bytes_eq old (feature_rename_at m j).old) i) v.2 in (
      c,
      i,
      w.1,
      v.1,
      p.0,
      elim (or_cases (is_some (feature_number m c old)) (any_below (λ j. is_for m c j && bytes_eq old (feature_rename_at m j).old) i) p.1) [
        | inl feature ↦
            let s = some_is (feature_number m c old) (λ f. (f < length m.features) × ((is_named m old f && belongs m c f) ≡ true)) feature (least_passes (λ f. is_named m old f && belongs m c f) (length m.features)) in
            let q = and_parts (is_named m old s.0) (belongs m c s.0) s.1.1 in
            inl (s.0, s.1.0, q.1, (bytes_eq-Decides old (feature_at m s.0).name).0 q.0)
        | inr entry ↦
            let s = found_any (λ j. is_for m c j && bytes_eq old (feature_rename_at m j).old) i entry in
            let q = and_parts (is_for m c s.0) (bytes_eq old (feature_rename_at m s.0).old) s.2 in
            inr (s.0, s.1, q.0, (bytes_eq-Decides old (feature_rename_at m s.0).old).0 q.1)
      ],
    )

-- ---- two features of one name in a class

pub record IsDouble (cs : List Class) (fs : List FeatureInfo) (c f g : ℕ) : Type 0 where
  pub class : c < length cs
  pub first : f < length fs
  pub second : g < length fs
  pub apart : f ≢ g
  pub one_name : (feature_in fs f).name ≡ (feature_in fs g).name
  pub first_belongs : is_or_reaches (supers_in cs) c (feature_in fs f).owner ≡ true
  pub second_belongs : is_or_reaches (supers_in cs) c (feature_in fs g).owner ≡ true

pub double_of_clash : (m : Model) (c f g : ℕ) → IsClash m c f g → IsDouble m.classes m.features c f g
double_of_clash m c f g h = record {
  class = h.class;
  first = h.first;
  second = h.second;
  apart = λ e. h.two_owners (ap (λ (k : ℕ). (feature_at m k).owner) e);
  one_name = h.one_name;
  first_belongs = (is_or_reaches-decides (supers m) c (feature_at m f).owner).1 h.first_belongs;
  second_belongs = (is_or_reaches-decides (supers m) c (feature_at m g).owner).1 h.second_belongs;
}

itself : (cs : List Class) (c : ℕ) → is_or_reaches (supers_in cs) c c ≡ true
itself cs c = (is_or_reaches-decides (supers_in cs) c c).1 (0, refl)

pub double_of_owner : (cs : List Class) (fs : List FeatureInfo) → AreOwned cs fs → (f g : ℕ) → AreOfOneOwner fs f g → (c : ℕ) × IsDouble cs fs c f g
double_of_owner cs fs owned f g h = (
  (feature_in fs f).owner,
  record {
    class = owned f h.1;
    first = h.1;
    second = omega (arith, h.0, h.1);
    apart = λ e. absurd (omega (arith, h.0, e));
    one_name = h.2;
    first_belongs = itself cs (feature_in fs f).owner;
    second_belongs = ap (is_or_reaches (supers_in cs) (feature_in fs f).owner) (sym h.3) ∙ itself cs (feature_in fs f).owner;
  },
)

-- two such features have one owner, or they clash
pub double_cases : (m : Model) (c f g : ℕ) → IsDouble m.classes m.features c f g → ((x y : ℕ) → AreOfOneOwner m.features x y → ⊥) → has_clash m ≡ true
double_cases m c f g h apart =
    elim (eqb_tells (feature_at m f).owner (feature_at m g).owner) [
      | inl same ↦ elim (leb_tells f g) [
        | inl le ↦ absurd (elim (eqb_tells f g) [
          | inl one ↦ h.apart one.1
          | inr two ↦ apart g f (omega (arith, le.1, two.1), h.second, sym h.one_name, sym same.1)
        ])
        | inr less ↦ absurd (apart f g (less.1, h.first, h.one_name, same.1))
      ]
      | inr differ ↦
          clash_found m c f g h.class h.first h.second
          (joined (is_named m (feature_at m f).name g) _ (belongs m c f) (belongs m c g) ((bytes_eq-Decides (feature_at m f).name (feature_at m g).name).1 h.one_name) (unequal (feature_at m f).owner (feature_at m g).owner differ.1) h.first_belongs h.second_belongs)
    ]

-- ---- entries as features of their classes

module _ (m : Model) where
  abbrev pub aliases : List FeatureInfo
  aliases = map alias_of m.renames.features

  abbrev pub renamed : Model
  renamed = model_with m.classes aliases

  abbrev pub present : Model
  present = model_with m.classes m.features

  count : length aliases ≡ length m.renames.features
  count = length-map m.renames.features alias_of

  at_entry : (i : ℕ) → i < length m.renames.features → feature_in aliases i ≡ alias_of (feature_rename_at m i)
  at_entry i lt = get_or-map alias_of m.renames.features i no_feature_rename no_feature lt

  old_name : (i : ℕ) → i < length m.renames.features → (feature_in aliases i).name ≡ (feature_rename_at m i).old
  old_name i lt = ap (λ (x : FeatureInfo). x.name) (at_entry i lt)

  for_class : (c i : ℕ) → i < length m.renames.features → is_or_reaches (supers m) c (feature_in aliases i).owner ≡ is_for m c i
  for_class c i lt = ap (λ (x : FeatureInfo). is_or_reaches (supers m) c x.owner) (at_entry i lt)

  entries_clash : (c i j : ℕ) → c < length m.classes → i < length m.renames.features → j < length m.renames.features → i ≢ j → is_for m c i ≡ true → is_for m c j ≡ true → (feature_rename_at m i).old ≡ (feature_rename_at m j).old → renames_clash m ≡ true
  entries_clash c i j lc li lj apart for_i for_j same =
      elim (leb_tells i j) [
        | inl le ↦ elim (eqb_tells i j) [
          | inl one ↦ absurd (apart one.1)
          | inr two ↦ taken_by_entry m c j i lc lj (omega (arith, le.1, two.1)) for_j for_i (sym same)
        ]
        | inr less ↦ taken_by_entry m c i j lc li less.1 for_i for_j same
      ]

  -- two entries of one old name for a class are a clash of old names
  pub doubled_entries : (c i j : ℕ) → IsDouble m.classes aliases c i j → renames_clash m ≡ true
  doubled_entries c i j h =
      let li : i < length m.renames.features = omega (arith, h.first, count) in
      let lj : j < length m.renames.features = omega (arith, h.second, count) in
      entries_clash c i j h.class li lj h.apart (sym (for_class c i li) ∙ h.first_belongs) (sym (for_class c j lj) ∙ h.second_belongs) (sym (old_name i li) ∙ h.one_name ∙ old_name j lj)

  -- a class with a feature and an entry of one name is a clash of old names
  pub shared_entries : any_below (shares renamed present) (length aliases) ≡ true → renames_clash m ≡ true
  shared_entries e =
      let w = found_any (shares renamed present) (length aliases) e in
      let name = (feature_at renamed w.0).name in
      let p = and_parts (begins_with (group renamed w.0) w.0) (is_shared renamed present name) w.2 in
      let v = found_any (λ c. list_any (belongs renamed c) (features_named renamed name) && list_any (belongs present c) (features_named present name)) (length m.classes) p.1 in
      let c = v.0 in
      let q = and_parts (list_any (belongs renamed c) (features_named renamed name)) (list_any (belongs present c) (features_named present name)) v.2 in
      let a = any_of (belongs renamed c) (features_named renamed name) q.0 in
      let b = any_of (belongs present c) (features_named present name) q.1 in
      let i = get_or (features_named renamed name) a.0 0 in
      let f = get_or (features_named present name) b.0 0 in
      let li : i < length m.renames.features = omega (arith, places_below (is_named renamed name) (length aliases) a.0 0 a.1, count) in
      let lf = places_below (is_named present name) (length m.features) b.0 0 b.1 in
      let entry_named = (bytes_eq-Decides name (feature_in aliases i).name).0 (places_pass (is_named renamed name) (length aliases) a.0 0 a.1) in
      let feature_named = (bytes_eq-Decides name (feature_at m f).name).0 (places_pass (is_named present name) (length m.features) b.0 0 b.1) in
      taken_by_feature m c i f v.1 li lf (sym (for_class c i li) ∙ a.2) b.2 (sym feature_named ∙ entry_named ∙ old_name i li)

  -- where an entry's old name is the name of a feature, both for one class, the walk over first entries finds it
  pub found_shared : (c i f : ℕ) → c < length m.classes → i < length m.renames.features → f < length m.features → is_for m c i ≡ true → belongs m c f ≡ true → (feature_rename_at m i).old ≡ (feature_at m f).name → any_below (shares renamed present) (length aliases) ≡ true
  found_shared c i f lc li lf for_i in_f same =
      let inside : i < length aliases = omega (arith, li, count) in
      let name = (feature_at renamed i).name in
      let at_i = place_of (is_named renamed name) (length aliases) i inside ((bytes_eq-Decides name name).1 refl) in
      let at_f = place_of (is_named present name) (length m.features) f lf ((bytes_eq-Decides name (feature_at m f).name).1 (old_name i li ∙ same)) in
      let some : 0 < length (group renamed i) = omega (arith, at_i.1) in
      let head = get_or (group renamed i) 0 0 in
      let a = in_group renamed i 0 some in
      let entry = of_any (belongs renamed c) (features_named renamed name) at_i.0 at_i.1 (ap (belongs renamed c) at_i.2 ∙ for_class c i li ∙ for_i) in
      let feature = of_any (belongs present c) (features_named present name) at_f.0 at_f.1 (ap (belongs present c) at_f.2 ∙ in_f) in
      let shared : is_shared renamed present name ≡ true = any_found (λ k. list_any (belongs renamed k) (features_named renamed name) && list_any (belongs present k) (features_named present name)) (length m.classes) c lc (rw (entry, feature) refl) in
      let first_here : begins_with (group renamed head) head ≡ true = subst (λ (xs : List ℕ). begins_with xs head ≡ true) (same_group renamed i head a.1) (begins (group renamed i) some) in
      let shared_here : is_shared renamed present (feature_at renamed head).name ≡ true = subst (λ (n : List ℕ). is_shared renamed present n ≡ true) a.1 shared in
      any_found (shares renamed present) (length aliases) head a.0 (rw (first_here, shared_here) refl)

  -- old names clash with names of today just where the walk finds one, if they don't clash with each other
  pub old_names_clash : ((i j : ℕ) → AreOfOneOwner aliases i j → ⊥) → has_clash renamed ≡ false → any_below (shares renamed present) (length aliases) ≡ renames_clash m
  old_names_clash apart none =
      same_test (any_below (shares renamed present) (length aliases)) (renames_clash m) shared_entries
      (λ e.
      let w = found_taken m e in
      let c = w.0 in
      let i = w.1 in
      elim w.5 [
        | inl h ↦ found_shared c i h.0 w.2 w.3 h.1 w.4 h.2 h.3
        | inr h ↦
            let lj : h.0 < length m.renames.features = omega (arith, h.1, w.3) in
            absurd (false≢true (sym none ∙ double_cases renamed c i h.0 (record {
              class = w.2;
              first = omega (arith, w.3, count);
              second = omega (arith, lj, count);
              apart = λ same. absurd (omega (arith, same, h.1));
              one_name = old_name i w.3 ∙ h.3 ∙ sym (old_name h.0 lj);
              first_belongs = for_class c i w.3 ∙ w.4;
              second_belongs = for_class c h.0 lj ∙ h.2;
            }) apart))
      ])
