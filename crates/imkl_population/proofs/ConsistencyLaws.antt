-- A draft in which nothing is missing and no opposite end is out of its bounds is consistent.
use Rattle.std.proofs.Common.{◌≡◌, ◌⊎◌, ℕ, zero, suc, ◌<◌, Bool, true, false, ◌&&◌, List, [], length, Option, Some, None, refl, sym, subst, if◌then◌else◌, nat_lt, inl, inr, arith}
use Rattle.std.specs.List.{list_all}
use Rattle.std.specs.Option.{option_or}
use Rattle.std.proofs.lemmas.Bool.{false≢true, and_from, lt-ltb, cases_Bool}
use Rattle.std.proofs.lemmas.Bool.Decides.{leb_tells}
use Rattle.std.proofs.lemmas.List.Folds.{list_all-map}
use Rattle.imkl_model.specs.declared.feature.ElementType.TheVariants as element
use Rattle.imkl_model.specs.declared.feature.FeatureInfo.{FeatureInfo}
use Rattle.imkl_model.specs.declared.feature.Role.{Role}
use Rattle.imkl_model.specs.declared.feature.Role.TheVariants.{Attribute, SourceEnd, OppositeEnd}
use Rattle.imkl_model.specs.ClassModel.{feature_at, belongs, conforms}
use Rattle.imkl_model.specs.WellFormed.{IsClassModel}
use Rattle.imkl_population.specs.declared.fault.PopulationFault.{PopulationFault}
use Rattle.imkl_population.specs.declared.fault.PopulationFault.TheVariants.{TooFew}
use Rattle.imkl_population.specs.declared.scalar.Scalar.{Scalar}
use Rattle.imkl_population.specs.declared.scalar.Scalar.TheVariants as scalar
use Rattle.imkl_population.specs.Numbers.{first_below}
use Rattle.imkl_population.specs.Population.{Population, object_at, class_of, written_at, values_of, values_by, opposite_end}
use Rattle.imkl_model.specs.Features.{is_attribute, is_opposite, is_unique}
use Rattle.imkl_population.specs.Values.{is_of_type, is_target_of, repeats_value}
use Rattle.imkl_population.specs.Written.{is_set}
use Rattle.imkl_population.specs.Building.{bounds_fault}
use Rattle.imkl_population.specs.Draft.{IsDraft, is_sound}
use Rattle.imkl_population.specs.Finishing.{gap, end_fault, first_object_fault}
use Rattle.imkl_population.specs.Consistency.{IsConsistent}
use Rattle.imkl_population.proofs.EndLaws.{values_written}
use Rattle.imkl_population.proofs.Holders.{holders_all, holders_apart}
use Rattle.imkl_population.proofs.Stored.{nothing_over}
use Rattle.imkl_population.proofs.Soundness.{AreTargets, known_in, sound_in, unset_in, values_sound, targets_sound, end_within}

neither : {A : Type 0} (a b : Option A) → option_or a b ≡ None → (a ≡ None) × (b ≡ None)
neither None b h = (refl, h)
neither (Some a) b h = absurd (let bad : Some a ≡ None = h in cc)

nothing_below : {A : Type 0} (g : ℕ → Option A) (n : ℕ) → first_below g n ≡ None → (k : ℕ) → k < n → g k ≡ None
nothing_below g zero h k lt = absurd (omega arith)
nothing_below g (suc n) h k lt =
    let both = neither (first_below g n) (g n) h in
    elim (leb_tells n k) [
      | inl le ↦ let same : n ≡ k = omega arith in subst (λ (m : ℕ). g m ≡ None) same both.1
      | inr less ↦ nothing_below g n both.0 k less.1
    ]

-- no object has the fault at a feature
no_fault : (fault : Population → ℕ → ℕ → Option PopulationFault) (p : Population) → first_object_fault fault p ≡ None → (o f : ℕ) → o < length p.objects → f < length p.model.features → fault p o f ≡ None
no_fault fault p h o f lt ltf = nothing_below (fault p o) (length p.model.features) (nothing_below (λ k. first_below (fault p k) (length p.model.features)) (length p.objects) h o lt) f ltf

attribute_written : (r : Role) → is_attribute r ≡ true → is_opposite r ≡ false
attribute_written Attribute h = refl
attribute_written (SourceEnd g) h = refl
attribute_written (OppositeEnd g) h = absurd (false≢true h)

not_few : (b : Bool) (p : Population) (o f : ℕ) (few : Bool) → b ≡ true → (if b && few then Some (TooFew o f) else None) ≡ None → few ≡ false
not_few true p o f true e h = absurd (let bad : Some (TooFew o f) ≡ None = h in cc)
not_few true p o f false e h = refl
not_few false p o f few e h = absurd (false≢true e)

bounds_zero : (i : FeatureInfo) (o f : ℕ) → nat_lt 0 i.lower ≡ false → bounds_fault i o f 0 ≡ None
bounds_zero i o f h = rw (h, nothing_over i.upper) refl

module _ (p : Population) (ids : List ℕ → Option ℕ) (draft : IsDraft p ids) (known : IsClassModel p.model) (gaps : first_object_fault gap p ≡ None) (ends : first_object_fault end_fault p ≡ None) where
  written_sound : (o f : ℕ) → o < length p.objects → (written_at p o f ≡ []) ⊎ (is_sound p o (f, written_at p o f) ≡ true)
  written_sound o f lt =
      elim (cases_Bool (is_set (object_at p o).written f)) [
        | inl set ↦ inr (sound_in p o f (object_at p o).written (draft.sound o lt) set)
        | inr unset ↦ inl (unset_in (object_at p o).written f unset)
      ]

  set_where : (o f : ℕ) → o < length p.objects → is_set (object_at p o).written f ≡ true → (belongs p.model (class_of p o) f ≡ true) × (is_opposite (feature_at p.model f).role ≡ false)
  set_where o f lt set =
      let sound : is_sound p o (f, written_at p o f) ≡ true = sound_in p o f (object_at p o).written (draft.sound o lt) set in
      elim (cases_Bool (is_attribute (feature_at p.model f).role)) [
        | inl a ↦ ((values_sound p o f (written_at p o f) a sound).belongs_so, attribute_written (feature_at p.model f).role a)
        | inr a ↦ let s = targets_sound p o f (written_at p o f) a sound in (s.belongs_so, s.underived)
      ]

  -- ---- attributes

  typed : (o f : ℕ) → o < length p.objects → is_attribute (feature_at p.model f).role ≡ true → list_all (is_of_type p.model (feature_at p.model f).element) (values_of p o f) ≡ true
  typed o f lt a =
      rw (values_written p o f (attribute_written (feature_at p.model f).role a)) (elim (written_sound o f lt) [
        | inl e ↦ rw e refl
        | inr s ↦ (values_sound p o f (written_at p o f) a s).typed
      ])

  unique_values : (o f : ℕ) → o < length p.objects → is_attribute (feature_at p.model f).role ≡ true → is_unique (feature_at p.model f) ≡ true → repeats_value (values_of p o f) ≡ false
  unique_values o f lt a u =
      rw (values_written p o f (attribute_written (feature_at p.model f).role a)) (elim (written_sound o f lt) [
        | inl e ↦ rw e refl
        | inr s ↦ rw u at (values_sound p o f (written_at p o f) a s).apart
      ])

  -- ---- source ends

  targets_of : (o f : ℕ) → o < length p.objects → is_attribute (feature_at p.model f).role ≡ false → (written_at p o f ≡ []) ⊎ AreTargets p o f (written_at p o f)
  targets_of o f lt a =
      elim (written_sound o f lt) [
        | inl e ↦ inl e
        | inr s ↦ inr (targets_sound p o f (written_at p o f) a s)
      ]

  written_joined : (o f : ℕ) → o < length p.objects → is_attribute (feature_at p.model f).role ≡ false → list_all (is_target_of p (feature_at p.model f).element) (written_at p o f) ≡ true
  written_joined o f lt a = elim (targets_of o f lt a) [ inl e ↦ rw e refl | inr s ↦ s.joined ]

  written_apart : (o f : ℕ) → o < length p.objects → is_attribute (feature_at p.model f).role ≡ false → repeats_value (written_at p o f) ≡ false
  written_apart o f lt a = elim (targets_of o f lt a) [ inl e ↦ rw e refl | inr s ↦ s.apart ]

  -- ---- opposite ends

  source_is_end : (source f : ℕ) → (feature_at p.model source).role ≡ SourceEnd f → is_attribute (feature_at p.model source).role ≡ false
  source_is_end source f e = rw e refl

  holder_conforms : (o f source : ℕ) → o < length p.objects → (feature_at p.model source).role ≡ SourceEnd f
      → (written_at p o source ≡ []) ⊎ (is_target_of p (element.Class (feature_at p.model source).owner) (scalar.Object o) ≡ true)
  holder_conforms o f source lt e =
      elim (targets_of o source lt (source_is_end source f e)) [
        | inl none ↦ inl none
        | inr s ↦ inr (and_from (nat_lt o (length p.objects)) (conforms p.model (class_of p o) (feature_at p.model source).owner) (lt-ltb o (length p.objects) lt) s.belongs_so)
      ]

  joined_by : (o f : ℕ) → o < length p.objects → (r : Role) → (feature_at p.model f).role ≡ r → is_attribute r ≡ false → list_all (is_target_of p (feature_at p.model f).element) (values_by r p o f) ≡ true
  joined_by o f lt Attribute e h = absurd (false≢true (sym h))
  joined_by o f lt (SourceEnd g) e h = written_joined o f lt (rw e refl)
  joined_by o f lt (OppositeEnd source) e h =
      let paired = known.opposites f source (end_within p.model f (rw e refl)) e in
      let test : Scalar → Bool = is_target_of p (element.Class (feature_at p.model source).owner) in
      rw (paired.opposite_element, list_all-map test scalar.Object (opposite_end p source o))
      (holders_all (λ k. test (scalar.Object k)) p source o (length p.objects) (λ k inside. holder_conforms k f source inside paired.source_role))

  apart_by : (o f : ℕ) → o < length p.objects → (r : Role) → (feature_at p.model f).role ≡ r → is_attribute r ≡ false → repeats_value (values_by r p o f) ≡ false
  apart_by o f lt Attribute e h = absurd (false≢true (sym h))
  apart_by o f lt (SourceEnd g) e h = written_apart o f lt (rw e refl)
  apart_by o f lt (OppositeEnd source) e h =
      let paired = known.opposites f source (end_within p.model f (rw e refl)) e in
      holders_apart p source o (length p.objects) (λ k inside. written_apart k source inside (source_is_end source f paired.source_role))

  -- ---- bounds

  written_bounded : (o f : ℕ) → o < length p.objects → f < length p.model.features → belongs p.model (class_of p o) f ≡ true → is_opposite (feature_at p.model f).role ≡ false
      → bounds_fault (feature_at p.model f) o f (length (written_at p o f)) ≡ None
  written_bounded o f lt ltf b n =
      let no_gap : gap p o f ≡ None = no_fault gap p gaps o f lt ltf in
      let i : FeatureInfo = feature_at p.model f in
      elim (written_sound o f lt) [
        | inl e ↦ rw e (bounds_zero i o f (not_few true p o f (nat_lt 0 i.lower) refl (rw (b, n, e) at no_gap)))
        | inr s ↦ elim (cases_Bool (is_attribute i.role)) [
          | inl a ↦ (values_sound p o f (written_at p o f) a s).bounded
          | inr a ↦ (targets_sound p o f (written_at p o f) a s).bounded
        ]
      ]

  bounded : (o f : ℕ) → o < length p.objects → f < length p.model.features → belongs p.model (class_of p o) f ≡ true → bounds_fault (feature_at p.model f) o f (length (values_of p o f)) ≡ None
  bounded o f lt ltf b =
      let i : FeatureInfo = feature_at p.model f in
      elim (cases_Bool (is_opposite i.role)) [
        | inl h ↦ rw (b, h) at (no_fault end_fault p ends o f lt ltf)
        | inr h ↦ rw (values_written p o f h) (written_bounded o f lt ltf b h)
      ]

  pub consistent : IsConsistent p
  consistent = record {
    limited = draft.limited;
    classed = draft.classed;
    concrete = draft.concrete;
    formed = draft.formed;
    distinct = draft.distinct;
    mapped = draft.mapped;
    known = λ o f lt set. known_in (length p.model.features) f (object_at p o).written (draft.known o lt) set;
    owned = λ o f lt set. (set_where o f lt set).0;
    underived = λ o f lt set. (set_where o f lt set).1;
    typed = typed;
    joined = λ o f lt a. joined_by o f lt (feature_at p.model f).role refl a;
    apart = λ o f lt u. elim (cases_Bool (is_attribute (feature_at p.model f).role)) [
      | inl a ↦ unique_values o f lt a u
      | inr a ↦ apart_by o f lt (feature_at p.model f).role refl a
    ];
    bounded = bounded;
  }
