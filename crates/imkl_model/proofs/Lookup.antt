-- The feature of a name that belongs to a class.
use Rattle.std.proofs.Common.{find, ◌≡◌, ◌∙◌, ◌&&◌, ◌<◌, ℕ, Bool, true, List, length, Option, Some, None, eqb, refl, sym, ap, subst, IfSome, inl, inr}
use Rattle.std.proofs.lemmas.Bool.{and_from, and_parts, or_cases, or_right}
use Rattle.std.proofs.lemmas.Bool.Decides.{Decides-eqb}
use Rattle.std.proofs.lemmas.Slice.Eq.{bytes_eq-Decides}
use Rattle.imkl_model.specs.Chains.{is_or_reaches, reaches}
use Rattle.imkl_model.specs.ClassModel.{Model, supers, is_named, is_own_in, belongs, feature_at, feature_number}
use Rattle.imkl_model.specs.WellFormed.{IsClassModel}
use Rattle.imkl_model.specs.Held.{Group, IsGroup, own_in}
use Rattle.imkl_model.specs.Groups.{AreDistinct, IsInherited}
use Rattle.imkl_model.proofs.Warshall.{is_or_reaches-decides}
use Rattle.ocl_base.proofs.ForAbove.{find_places, least_passes, least_found, least_is}

passes_at : (o q : Option ℕ) (P Q : ℕ → Type 0) → o ≡ q → ((k : ℕ) → P k → Q k) → IfSome q P → IfSome o Q
passes_at o None P Q e f h = rw e tt
passes_at o (Some k) P Q e f h = rw e (f k h)

-- a feature of this name that belongs to the class
abbrev pub IsFeatureOf : Model → ℕ → List ℕ → ℕ → Type 0
IsFeatureOf m c q f = (f < length m.features) × (belongs m c f ≡ true) × ((feature_at m f).name ≡ q)

abbrev passes : Model → ℕ → List ℕ → ℕ → Bool
passes m c q f = is_named m q f && belongs m c f

feature_of : (m : Model) (c : ℕ) (q : List ℕ) (f : ℕ) → f < length m.features → passes m c q f ≡ true → IsFeatureOf m c q f
feature_of m c q f lt h =
    let p = and_parts (is_named m q f) (belongs m c f) h in
    (lt, p.1, sym ((bytes_eq-Decides q (feature_at m f).name).0 p.0))

-- what a class model keeps of its features, for look-ups
pub distinct : (m : Model) → IsClassModel m → AreDistinct m.classes m.features
distinct m well = record { owners = well.known_owners; one_feature = well.one_feature }

-- a feature of the name that belongs to the class is the one found, since no other is
pub the_feature : (m : Model) (c : ℕ) (q : List ℕ) → AreDistinct m.classes m.features → (f : ℕ) → IsFeatureOf m c q f → feature_number m c q ≡ Some f
the_feature m c q well f h =
    let here = and_from (is_named m q f) (belongs m c f) ((bytes_eq-Decides q (feature_at m f).name).1 (sym h.2)) h.1 in
    least_is (passes m c q) (length m.features) f h.0 here (λ k lt g.
    let other = feature_of m c q k lt g in
    well.one_feature c k f lt h.0 other.1 h.1 (other.2 ∙ sym h.2))

-- what is so of the feature that is found
module _ (m : Model) (c : ℕ) (q : List ℕ) (o : Option ℕ) (is : o ≡ feature_number m c q) where
  each_found : (P : ℕ → Type 0) → ((f : ℕ) → IsFeatureOf m c q f → P f) → IfSome o P
  each_found P h = passes_at o (feature_number m c q) _ P is (λ f w. h f (feature_of m c q f w.0 w.1)) (least_passes (passes m c q) (length m.features))

  pub found_in_range : IfSome o (λ f. f < length m.features)
  found_in_range = each_found (λ f. f < length m.features) (λ f h. h.0)

  pub found_belongs : IfSome o (λ f. belongs m c f ≡ true)
  found_belongs = each_found (λ f. belongs m c f ≡ true) (λ f h. h.1)

  pub found_named : IfSome o (λ f. (feature_at m f).name ≡ q)
  found_named = each_found (λ f. (feature_at m f).name ≡ q) (λ f h. h.2)

module _ (m : Model) (c : ℕ) (q : List ℕ) (g : Group) (group : IsGroup m.features (length m.features) q g) where
  -- it is the first of the name's features that belongs
  pub first_is : find (belongs m c) g.numbers ≡ feature_number m c q
  first_is = rw group.numbers (find_places (is_named m q) (belongs m c) (length m.features))

  own_passes : (f : ℕ) → is_own_in m.features q c f ≡ true → passes m c q f ≡ true
  own_passes f h =
      let p = and_parts (is_named m q f) (eqb (feature_at m f).owner c) h in
      let owned : (feature_at m f).owner ≡ c = (Decides-eqb (feature_at m f).owner c).0 p.1 in
      and_from (is_named m q f) (belongs m c f) p.0 (let here : is_or_reaches (supers m) c c ≡ true = (is_or_reaches-decides (supers m) c c).1 (0, refl) in ap (is_or_reaches (supers m) c) owned ∙ here)

  -- no other feature of the name belongs to a class that has its own
  pub own_is : AreDistinct m.classes m.features → (f : ℕ) → own_in g c ≡ Some f → feature_number m c q ≡ Some f
  own_is well f own =
      let n = length m.features in
      let found : IfSome (Some f) (λ k. (k < n) × (is_own_in m.features q c k ≡ true)) = subst (λ (o : Option ℕ). IfSome o (λ k. (k < n) × (is_own_in m.features q c k ≡ true))) (sym (group.own c) ∙ own) (least_passes (is_own_in m.features q c) n) in
      the_feature m c q well f (feature_of m c q f found.0 (own_passes f found.1))

  -- a feature that some class itself has
  owned : (d f : ℕ) → own_in g d ≡ Some f → (f < length m.features) × (is_named m q f ≡ true) × ((feature_at m f).owner ≡ d)
  owned d f own =
      let n = length m.features in
      let found : IfSome (Some f) (λ k. (k < n) × (is_own_in m.features q d k ≡ true)) = subst (λ (o : Option ℕ). IfSome o (λ k. (k < n) × (is_own_in m.features q d k ≡ true))) (sym (group.own d) ∙ own) (least_passes (is_own_in m.features q d) n) in
      let p = and_parts (is_named m q f) (eqb (feature_at m f).owner d) found.1 in
      (found.0, p.0, (Decides-eqb (feature_at m f).owner d).0 p.1)

  -- a class above has a feature of this name
  above_is : AreDistinct m.classes m.features → (d f : ℕ) → reaches (supers m) c d ≡ true → own_in g d ≡ Some f → feature_number m c q ≡ Some f
  above_is well d f above own =
      let h = owned d f own in
      let here : belongs m c f ≡ true = ap (is_or_reaches (supers m) c) h.2 ∙ or_right (eqb c d) (reaches (supers m) c d) above in
      the_feature m c q well f (feature_of m c q f h.0 (and_from (is_named m q f) (belongs m c f) h.1 here))

  none_and_some : (f : ℕ) → None ≡ Some f → ⊥
  none_and_some f e = cc

  -- neither the class nor one above has a feature of this name
  none_above : AreDistinct m.classes m.features → own_in g c ≡ None → ((d : ℕ) → d < length m.classes → reaches (supers m) c d ≡ true → own_in g d ≡ None) → (o : Option ℕ) → feature_number m c q ≡ o → None ≡ o
  none_above well own none None e = refl
  none_above well own none (Some f) e =
      let n = length m.features in
      let found : IfSome (Some f) (λ k. (k < n) × (passes m c q k ≡ true)) = subst (λ (o : Option ℕ). IfSome o (λ k. (k < n) × (passes m c q k ≡ true))) e (least_passes (passes m c q) n) in
      let p = and_parts (is_named m q f) (belongs m c f) found.1 in
      let d = (feature_at m f).owner in
      let w = least_found (is_own_in m.features q d) n f found.0 (and_from (is_named m q f) (eqb d d) p.0 ((Decides-eqb d d).1 refl)) in
      let own_d : own_in g d ≡ Some w.0 = group.own d ∙ w.1 in
      elim (or_cases (eqb c d) (reaches (supers m) c d) p.1) [
        | inl same ↦ absurd (none_and_some w.0 (sym own ∙ ap (own_in g) ((Decides-eqb c d).0 same) ∙ own_d))
        | inr above ↦ absurd (none_and_some w.0 (sym (none d (well.owners f found.0) above) ∙ own_d))
      ]

  -- what is inherited is the feature of the name, where the class has none of its own
  pub inherited_is : AreDistinct m.classes m.features → own_in g c ≡ None → (o : Option ℕ) → IsInherited m c g o → o ≡ feature_number m c q
  inherited_is well own o (inl e) = e ∙ first_is
  inherited_is well own None (inr h) = none_above well own (h.1 refl) (feature_number m c q) refl
  inherited_is well own (Some f) (inr h) = sym (above_is well h.0.0 f h.0.1 h.0.2)
