-- What a builder keeps, after an object is added and after values are set.
use Rattle.std.proofs.Common.{◌≡◌, ℕ, ◌==◌, ◌<◌, ◌≤◌, Bool, true, false, ◌&&◌, not, cond, List, [], ◌∷◌, ◌++◌, length, Option, Some, None, refl, sym, ap, subst, ◌∙◌, bytes_eq, arith, if◌then◌else◌, is_none, get_or, set, inl, inr, nat_lt, length-append, Ordering, Less, Equal, Greater}
use Rattle.std.proofs.lemmas.Bool.{false≢true, and_parts, and_from, cases_eq}
use Rattle.std.proofs.lemmas.Bool.Decides.{leb_tells}
use Rattle.std.proofs.lemmas.List.{get_or-set_same, get_or-set_other, length-set}
use Rattle.std.proofs.Math.ListN.{get_or-append}
use Rattle.std.proofs.Math.Seq.{get_or-append_seam}
use Rattle.std.specs.List.{list_all}
use Rattle.std.specs.Prelude.{All}
use Rattle.std.specs.Option.{option_or}
use Rattle.std.specs.Map.{keys_of}
use Rattle.std.specs.List.Sorted.{IsStrictlySortedBy}
use Rattle.std.proofs.lemmas.List.Elements.{All-nil}
use Rattle.std.proofs.lemmas.Map.Views.{All-keys-insert_entry}
use Rattle.std.specs.BTreeMap.{insert_entry}
use Rattle.std.specs.FinMap.{nat_cmp-IsAntisymmetric}
use Rattle.std.specs.Ordering.{nat_cmp, match_ordering}
use borrow.Author.Tests.{lt-ltb, ltb-true}
use Rattle.imkl_model.specs.declared.feature.ElementType.{ElementType}
use Rattle.imkl_model.specs.declared.feature.ElementType.TheVariants as element
use Rattle.imkl_model.specs.declared.feature.FeatureInfo.{FeatureInfo}
use Rattle.imkl_model.specs.ClassModel.{Model, class_at, feature_at, conforms, belongs}
use Rattle.imkl_population.specs.declared.fault.PopulationFault.{PopulationFault}
use Rattle.imkl_population.specs.declared.fault.PopulationFault.TheVariants.{WrongFeature, WrongClass, DuplicateTarget, Derived}
use Rattle.imkl_population.specs.declared.object.Object.{Object}
use Rattle.imkl_population.specs.declared.scalar.Scalar.{Scalar}
use Rattle.imkl_population.specs.declared.scalar.Scalar.TheVariants as scalar
use Rattle.imkl_population.specs.Population.{Population, object_at, class_of, no_object, object_number}
use Rattle.imkl_model.specs.Features.{is_attribute, is_opposite}
use Rattle.imkl_population.specs.Values.{is_target_of, repeats_value}
use Rattle.imkl_population.specs.declared.limits.TheConstants.{MAX_OBJECTS}
use Rattle.imkl_population.specs.Building.{is_id, bounds_fault, with_written}
use Rattle.imkl_population.specs.Written.{IsMap}
use Rattle.imkl_population.specs.Draft.{IsDraft, is_sound, entry_fault_by}
use Rattle.imkl_population.proofs.Bools.{list_all-weaker, list_all-none}
use Rattle.imkl_population.proofs.Ids.{object_number-push, absent_differs, object_number_in-set}

-- nothing written is a map
pub nothing_mapped : IsMap []
unfolding IsStrictlySortedBy
nothing_mapped = tt

abbrev of : Model → List Object → Population
of m os = record { model = m; objects = os }

-- the objects of p stand in q with their classes
pub record Keeps (m : Model) (os qs : List Object) : Type 0 where
  pub longer : length os ≤ length qs
  pub classes : (o : ℕ) → o < length os → class_of (of m qs) o ≡ class_of (of m os) o

target-kept : (m : Model) (os qs : List Object) → Keeps m os qs → (t : ElementType) (v : Scalar) → is_target_of (of m os) t v ≡ true → is_target_of (of m qs) t v ≡ true
target-kept m os qs k (element.Class c) (scalar.Object o) h =
    let parts = and_parts (nat_lt o (length os)) (conforms m (class_of (of m os) o) c) h in
    let lt : o < length os = ltb-true o (length os) parts.0 in
    and_from (nat_lt o (length qs)) (conforms m (class_of (of m qs) o) c) (lt-ltb o (length qs) (omega (arith, k.longer))) (rw (k.classes o lt) parts.1)
target-kept m os qs k (element.Class c) (scalar.Bool b) h = h
target-kept m os qs k (element.Class c) (scalar.Int n) h = h
target-kept m os qs k (element.Class c) (scalar.Text s) h = h
target-kept m os qs k (element.Class c) (scalar.Literal e l) h = h
target-kept m os qs k element.Boolean v h = h
target-kept m os qs k element.Integer v h = h
target-kept m os qs k element.String v h = h
target-kept m os qs k (element.Enumeration e) v h = h

-- the tests of a link's targets, and all before and after them
link_by : (a b t u : Bool) (r : Option PopulationFault) → (t ≡ true → u ≡ true)
    → is_none (option_or (if not a then Some WrongFeature else (if b then Some Derived else None)) (if not t then Some WrongClass else r)) ≡ true
    → is_none (option_or (if not a then Some WrongFeature else (if b then Some Derived else None)) (if not u then Some WrongClass else r)) ≡ true
link_by false b t u r h k = k
link_by true true t u r h k = k
link_by true false true u r h k = rw (h refl) k
link_by true false false u r h k = absurd (false≢true k)

sound-kept_by : (b : Bool) (m : Model) (os qs : List Object) → Keeps m os qs → (o : ℕ) → o < length os → (f : ℕ) (i : FeatureInfo) (vs : List Scalar)
    → is_none (entry_fault_by b (of m os) o f i vs) ≡ true → is_none (entry_fault_by b (of m qs) o f i vs) ≡ true
sound-kept_by true m os qs k o lt f i vs h = rw (k.classes o lt) h
sound-kept_by false m os qs k o lt f i vs h =
    rw (k.classes o lt) (link_by (belongs m (class_of (of m os) o) f && not (is_attribute i.role)) (is_opposite i.role)
    (list_all (is_target_of (of m os) i.element) vs) (list_all (is_target_of (of m qs) i.element) vs)
    (if repeats_value vs then Some DuplicateTarget else bounds_fault i o f (length vs))
    (list_all-weaker (is_target_of (of m os) i.element) (is_target_of (of m qs) i.element) (target-kept m os qs k i.element) vs) h)

-- what is sound stays so where more objects come, and where the objects keep their classes
pub sound-kept : (m : Model) (os qs : List Object) → Keeps m os qs → (o : ℕ) → o < length os → (e : ℕ × List Scalar) → is_sound (of m os) o e ≡ true → is_sound (of m qs) o e ≡ true
sound-kept m os qs k o lt e h = sound-kept_by (is_attribute (feature_at m e.0).role) m os qs k o lt e.0 (feature_at m e.0) e.1 h

-- ---- one object more

module _ (m : Model) (os : List Object) (y : Object) where
  old_object : (o : ℕ) → o < length os → object_at (of m (os ++ y ∷ [])) o ≡ object_at (of m os) o
  old_object o lt = get_or-append os (y ∷ []) no_object o lt

  new_object : object_at (of m (os ++ y ∷ [])) (length os) ≡ y
  new_object = get_or-append_seam os y [] no_object

  grows : Keeps m os (os ++ y ∷ [])
  grows = record { longer = omega (arith, length-append os (y ∷ [])); classes = λ o lt. ap (λ (x : Object). x.class) (old_object o lt) }

  -- a fact of the old objects and of the new one is one of all
  for_all : (P : ℕ → Object → Type 0) → ((o : ℕ) → o < length os → P o (object_at (of m os) o)) → P (length os) y
      → (o : ℕ) → o < length (os ++ y ∷ []) → P o (object_at (of m (os ++ y ∷ [])) o)
  for_all P old new o lt =
      elim (leb_tells (length os) o) [
        | inl le ↦
            let same : length os ≡ o = omega (arith, length-append os (y ∷ [])) in
            subst (λ (n : ℕ). P n (object_at (of m (os ++ y ∷ [])) n)) same (subst (P (length os)) (sym new_object) new)
        | inr less ↦ subst (P o) (sym (old_object o less.1)) (old o less.1)
      ]

  pub draft-added : (ids new : List ℕ → Option ℕ) → IsDraft (of m os) ids → length os < MAX_OBJECTS → is_id y.id ≡ true → object_number (of m os) y.id ≡ None → y.class < length m.classes
      → (class_at m y.class).is_abstract ≡ false → y.written ≡ []
      → ((q : List ℕ) → new q ≡ cond (bytes_eq y.id q) (Some (length os)) (ids q))
      → IsDraft (of m (os ++ y ∷ [])) new
  draft-added ids new draft room formed absent classed concrete unwritten after = record {
    limited = omega (arith, room, length-append os (y ∷ []));
    found = λ q. after q ∙ ap (cond (bytes_eq y.id q) (Some (length os))) (draft.found q) ∙ object_number-push os y q absent;
    classed = for_all (λ o x. x.class < length m.classes) draft.classed classed;
    concrete = for_all (λ o x. (class_at m x.class).is_abstract ≡ false) draft.concrete concrete;
    formed = for_all (λ o x. is_id x.id ≡ true) draft.formed formed;
    distinct = λ n o lt lto.
        for_all (λ k x. n < k → bytes_eq (object_at (of m (os ++ y ∷ [])) n).id x.id ≡ false)
        (λ k inside less. rw (old_object n (omega arith)) (draft.distinct n k less inside))
        (λ less. rw (old_object n less) (absent_differs 0 os y.id n absent less))
        o lto lt;
    mapped = for_all (λ o x. IsMap x.written) draft.mapped (rw unwritten nothing_mapped);
    known = for_all (λ o x. All (λ f. f < length m.features) (keys_of x.written)) draft.known (rw unwritten (All-nil (λ f. f < length m.features)));
    sound = for_all (λ o x. list_all (is_sound (of m (os ++ y ∷ [])) o) x.written ≡ true)
        (λ o inside. list_all-weaker (is_sound (of m os) o) (is_sound (of m (os ++ y ∷ [])) o) (sound-kept m os (os ++ y ∷ []) grows o inside) (object_at (of m os) o).written (draft.sound o inside))
        (rw unwritten refl);
  }

-- the same, reported by the equations that a call gives
pub draft-pushed : (m : Model) (os new_os : List Object) (y : Object) (id : List ℕ) (n : ℕ) (ids new : List ℕ → Option ℕ) → IsDraft (of m os) ids → n < MAX_OBJECTS
    → new_os ≡ os ++ y ∷ [] → y.id ≡ id → n ≡ length os → ids id ≡ None
    → is_id id ≡ true → y.class < length m.classes → (class_at m y.class).is_abstract ≡ false → y.written ≡ []
    → ((q : List ℕ) → new q ≡ cond (bytes_eq id q) (Some n) (ids q)) → IsDraft (of m new_os) new
draft-pushed m os new_os y id n ids new draft room items named counted absent formed classed concrete unwritten after =
    let none : object_number (of m os) y.id ≡ None = ap (object_number (of m os)) named ∙ sym (draft.found id) ∙ absent in
    let named_so : is_id y.id ≡ true = ap is_id named ∙ formed in
    rw items (draft-added m os y ids new draft (omega (arith, room, counted)) named_so none classed concrete unwritten (λ q. after q ∙ rw (sym named, counted) refl))

-- ---- other values on an object

module _ (p : ℕ × List Scalar → Bool) (f : ℕ) (vs : List Scalar) (here : p (f, vs) ≡ true) where
  inserted : (o : Ordering) (e : ℕ × List Scalar) (es more : List (ℕ × List Scalar)) → nat_cmp f e.0 ≡ o → p e ≡ true → list_all p es ≡ true → list_all p more ≡ true
      → list_all p (match_ordering o ((f, vs) ∷ e ∷ es) ((e.0, vs) ∷ es) (e ∷ more)) ≡ true
  inserted Less e es more c one all after = and_from (p (f, vs)) (list_all p (e ∷ es)) here (and_from (p e) (list_all p es) one all)
  inserted Equal e es more c one all after =
      let same : f ≡ e.0 = nat_cmp-IsAntisymmetric f e.0 c in
      and_from (p (e.0, vs)) (list_all p es) (subst (λ (k : ℕ). p (k, vs) ≡ true) same here) all
  inserted Greater e es more c one all after = and_from (p e) (list_all p more) one after

  -- an entry more, or another one in the place of one
  list_all-insert_entry : (es : List (ℕ × List Scalar)) → list_all p es ≡ true → list_all p (insert_entry nat_cmp es f vs) ≡ true
  list_all-insert_entry [] h = and_from (p (f, vs)) true here refl
  list_all-insert_entry (e ∷ es) h =
      let parts = and_parts (p e) (list_all p es) h in
      inserted (nat_cmp f e.0) e es (insert_entry nat_cmp es f vs) refl parts.0 parts.1 (list_all-insert_entry es parts.1)

module _ (m : Model) (os : List Object) (o : ℕ) (y : Object) (inside : o < length os) (named : y.id ≡ (get_or os o no_object).id) (classed : y.class ≡ (get_or os o no_object).class) where
  -- a fact of the other objects and of the changed one is one of all
  for_each : (P : ℕ → Object → Type 0) → ((k : ℕ) → k < length os → P k (object_at (of m os) k)) → P o y
      → (k : ℕ) → k < length (set os o y) → P k (object_at (of m (set os o y)) k)
  for_each P old new k lt =
      let within : k < length os = omega (arith, length-set os o y) in
      elim (cases_eq k o) [
        | inl same ↦ subst (λ (n : ℕ). P n (object_at (of m (set os o y)) n)) (sym same) (subst (P o) (sym (get_or-set_same os o y no_object inside)) new)
        | inr apart ↦ subst (P k) (sym (get_or-set_other os o k y no_object apart)) (old k within)
      ]

  same_class : (k : ℕ) → class_of (of m (set os o y)) k ≡ class_of (of m os) k
  same_class k =
      elim (cases_eq k o) [
        | inl same ↦ subst (λ (n : ℕ). class_of (of m (set os o y)) n ≡ class_of (of m os) n) (sym same) (ap (λ (x : Object). x.class) (get_or-set_same os o y no_object inside) ∙ classed)
        | inr apart ↦ ap (λ (x : Object). x.class) (get_or-set_other os o k y no_object apart)
      ]

  same_id : (k : ℕ) → (object_at (of m (set os o y)) k).id ≡ (object_at (of m os) k).id
  same_id k =
      elim (cases_eq k o) [
        | inl same ↦ subst (λ (n : ℕ). (object_at (of m (set os o y)) n).id ≡ (object_at (of m os) n).id) (sym same) (ap (λ (x : Object). x.id) (get_or-set_same os o y no_object inside) ∙ named)
        | inr apart ↦ ap (λ (x : Object). x.id) (get_or-set_other os o k y no_object apart)
      ]

  keeps : Keeps m os (set os o y)
  keeps = record { longer = omega (arith, length-set os o y); classes = λ k lt. same_class k }

  pub draft-changed : (ids : List ℕ → Option ℕ) → IsDraft (of m os) ids → IsMap y.written → All (λ f. f < length m.features) (keys_of y.written) → list_all (is_sound (of m os) o) y.written ≡ true → IsDraft (of m (set os o y)) ids
  draft-changed ids draft mapped known sound =
      let within : (k : ℕ) → k < length (set os o y) → k < length os = λ k lt. omega (arith, length-set os o y) in
      record {
        found = λ q. draft.found q ∙ sym (object_number_in-set 0 os o y q named);
        limited = omega (arith, draft.limited, length-set os o y);
        classed = λ k lt. rw (same_class k) (draft.classed k (within k lt));
        concrete = λ k lt. rw (same_class k) (draft.concrete k (within k lt));
        formed = λ k lt. rw (same_id k) (draft.formed k (within k lt));
        distinct = λ n k less lt. rw (same_id n, same_id k) (draft.distinct n k less (within k lt));
        mapped = for_each (λ k x. IsMap x.written) draft.mapped mapped;
        known = for_each (λ k x. All (λ f. f < length m.features) (keys_of x.written)) draft.known known;
        sound = for_each (λ k x. list_all (is_sound (of m (set os o y)) k) x.written ≡ true)
            (λ k lt. list_all-weaker (is_sound (of m os) k) (is_sound (of m (set os o y)) k) (sound-kept m os (set os o y) keeps k lt) (object_at (of m os) k).written (draft.sound k lt))
            (list_all-weaker (is_sound (of m os) o) (is_sound (of m (set os o y)) o) (sound-kept m os (set os o y) keeps o inside) y.written sound);
      }

-- values are put at a feature
pub draft-put : (m : Model) (os : List Object) (o f : ℕ) (vs : List Scalar) (ids : List ℕ → Option ℕ) → o < length os → f < length m.features → IsDraft (of m os) ids → IsMap (insert_entry nat_cmp (get_or os o no_object).written f vs) → is_sound (of m os) o (f, vs) ≡ true
    → IsDraft (of m (set os o (with_written (get_or os o no_object) f vs))) ids
draft-put m os o f vs ids inside below draft mapped sound =
    draft-changed m os o (with_written (get_or os o no_object) f vs) inside refl refl ids draft mapped
    (All-keys-insert_entry nat_cmp f vs (λ g. g < length m.features) (get_or os o no_object).written (draft.known o inside) below)
    (list_all-insert_entry (is_sound (of m os) o) f vs sound (get_or os o no_object).written (draft.sound o inside))

-- nothing but nothing is at an end without a class
pub no_targets : (p : Population) (t : ElementType) (vs : List Scalar) → ((c : ℕ) → t ≡ element.Class c → ⊥) → (length vs == 0) ≡ list_all (is_target_of p t) vs
no_targets p (element.Class c) vs none = absurd (none c refl)
no_targets p element.Boolean vs none = list_all-none (is_target_of p element.Boolean) (λ v. refl) vs
no_targets p element.Integer vs none = list_all-none (is_target_of p element.Integer) (λ v. refl) vs
no_targets p element.String vs none = list_all-none (is_target_of p element.String) (λ v. refl) vs
no_targets p (element.Enumeration e) vs none = list_all-none (is_target_of p (element.Enumeration e)) (λ v. refl) vs
