-- What a builder keeps of its columns, after an object is added and after values are put.
use Rattle.std.proofs.Common.{◌≡◌, ◌==◌, ℕ, ◌<◌, ◌≤◌, List, [], ◌∷◌, ◌++◌, length, length-append, get_or, Bool, true, false, not, Option, Some, None, nat_le, refl, sym, ap, subst, ◌∙◌, arith, cond, bytes_eq, is_some, if◌then◌else◌}
use Rattle.std.specs.Ordering.{nat_cmp}
use Rattle.std.specs.BTreeMap.{insert_entry}
use Rattle.std.proofs.lemmas.Bool.{eq-eqb, ne_eqb}
use Rattle.std.proofs.lemmas.Bool.Decides.{nat_tests}
use Rattle.imkl_model.specs.ClassModel.{Model, class_at}
use Rattle.imkl_population.specs.declared.scalar.Scalar.{Scalar}
use Rattle.imkl_population.specs.declared.fault.PopulationFault.TheVariants.{DuplicateId, AbstractClass, Limit, BadId}
use Rattle.imkl_population.specs.declared.object.Object.{Object}
use Rattle.imkl_population.specs.declared.object.Head.{Head}
use Rattle.imkl_population.specs.declared.limits.TheConstants.{MAX_OBJECTS}
use Rattle.imkl_population.specs.Building.{is_id, with_object, object_fault}
use Rattle.imkl_population.specs.Draft.{IsDraft, is_sound}
use Rattle.imkl_population.specs.Population.{Population, object_number, no_object}
use Rattle.imkl_population.specs.Store.{object_row, rows}
use Rattle.imkl_population.specs.Written.{IsMap}
use Rattle.imkl_population.specs.Layout.{objects_of, stored_content, IsInMaking}
use Rattle.imkl_population.proofs.Drafts.{draft-pushed, draft-put}
use Rattle.imkl_population.proofs.Layouts.{Maps, length-content, content-at, content-push, content-put, content-same}
use Rattle.imkl_population.proofs.Rows.{row-ascends}

-- the population with one object more
pub content-added : (m : Model) (hs new : List Head) (maps : Maps) (h : Head) → new ≡ hs ++ h ∷ [] → object_row maps (length hs) ≡ [] → stored_content m new maps ≡ with_object (stored_content m hs maps) h.id h.class
content-added m hs new maps h grown idle = ap (λ (os : List Object). record { model = m; objects = os }) (content-push hs new maps h grown idle)

-- an object is added
pub making-added : (m : Model) (hs new : List Head) (maps : Maps) (h : Head) (id : List ℕ) (n : ℕ) (ids after : List ℕ → Option ℕ) → IsInMaking m hs maps ids → n < MAX_OBJECTS
    → new ≡ hs ++ h ∷ [] → h.id ≡ id → n ≡ length hs → ids id ≡ None
    → is_id id ≡ true → h.class < length m.classes → (class_at m h.class).is_abstract ≡ false
    → ((q : List ℕ) → after q ≡ cond (bytes_eq id q) (Some n) (ids q)) → IsInMaking m new maps after
making-added m hs new maps h id n ids after made room grown named counted absent formed classed concrete follows =
    let y : Object = record { id = h.id; class = h.class; written = [] } in
    let os : List Object = objects_of hs (rows maps (length hs)) in
    let count : n ≡ length os = counted ∙ sym (length-content m hs maps) in
    record {
      draft = draft-pushed m os (objects_of new (rows maps (length new))) y id n ids after made.draft room
          (content-push hs new maps h grown (made.idle (length hs) (omega arith))) named count absent formed classed concrete refl follows;
      idle = λ o le. made.idle o (omega (arith, le, ap length grown, length-append hs (h ∷ [])));
    }

module _ (m : Model) (hs : List Head) (old new : Maps) (o f : ℕ) (vs : List Scalar) (ids : List ℕ → Option ℕ) (made : IsInMaking m hs old ids) where
  idle_by : (k : ℕ) → length hs ≤ k → o < length hs → object_row new k ≡ (if k == o then insert_entry nat_cmp (object_row old k) f vs else object_row old k) → object_row new k ≡ []
  idle_by k le inside put =
      let apart : (k == o) ≡ false = ne_eqb k o (λ same. absurd (omega (arith, same, le, inside))) in
      put ∙ rw (apart, made.idle k le) refl

  -- values are put at a feature of an object
  pub making-put : o < length hs → f < length m.features → ((k : ℕ) → object_row new k ≡ (if k == o then insert_entry nat_cmp (object_row old k) f vs else object_row old k)) → is_sound (stored_content m hs old) o (f, vs) ≡ true
      → IsInMaking m hs new ids
  making-put inside below put sound =
      let os : List Object = objects_of hs (rows old (length hs)) in
      let there : o < length os = omega (arith, inside, length-content m hs old) in
      let here : object_row new o ≡ insert_entry nat_cmp (object_row old o) f vs = put o ∙ rw (eq-eqb o o refl) refl in
      let written : (get_or os o no_object).written ≡ object_row old o = ap (λ (x : Object). x.written) (content-at m hs old o (record { id = []; class = 0 }) inside) in
      let map : IsMap (insert_entry nat_cmp (get_or os o no_object).written f vs) =
      subst IsMap (here ∙ ap (λ (w : List (ℕ × List Scalar)). insert_entry nat_cmp w f vs) (sym written)) (row-ascends new 0 o) in
      record {
        draft = subst (λ (p : Population). IsDraft p ids) (sym (content-put m hs old new o f vs inside put)) (draft-put m os o f vs ids there below made.draft map sound);
        idle = λ k le. idle_by k le inside (put k);
      }

  -- columns with the same rows keep what the builder keeps
  pub making-same : ((k : ℕ) → object_row new k ≡ object_row old k) → IsInMaking m hs new ids
  making-same same = record {
    draft = subst (λ (p : Population). IsDraft p ids) (sym (content-same m hs old new same)) made.draft;
    idle = λ k le. same k ∙ made.idle k le;
  }

-- what holds where nothing is wrong with one more object
pub record IsOpen (p : Population) (id : List ℕ) (c : ℕ) : Type 0 where
  pub formed : is_id id ≡ true
  pub absent : object_number p id ≡ None
  pub concrete : (class_at p.model c).is_abstract ≡ false
  pub room : length p.objects < MAX_OBJECTS

open-tests : (formed : Bool) (known : Option ℕ) (abstract full : Bool)
    → (if not formed then Some BadId else (if is_some known then Some DuplicateId else (if abstract then Some AbstractClass else (if full then Some Limit else None)))) ≡ None
    → (formed ≡ true) × (known ≡ None) × (abstract ≡ false) × (full ≡ false)
open-tests false known abstract full none = cc
open-tests true (Some n) abstract full none = cc
open-tests true None true full none = cc
open-tests true None false true none = cc
open-tests true None false false none = (refl, refl, refl, refl)

-- where adding an object has no fault, its id is well formed and new, its class is concrete, and there is room
pub object-open : (p : Population) (id : List ℕ) (c : ℕ) → object_fault p id c ≡ None → IsOpen p id c
object-open p id c none =
    let tests = open-tests (is_id id) (object_number p id) (class_at p.model c).is_abstract (nat_le MAX_OBJECTS (length p.objects)) none in
    record { formed = tests.0; absent = tests.1; concrete = tests.2; room = grind (arith, nat_tests, tests.3) }

-- where no id was added, the builder keeps what it kept
pub making-unchanged : (m : Model) (hs there : List Head) (maps : Maps) (old new : List Head → List ℕ → Option ℕ) → IsInMaking m hs maps (old hs) → there ≡ hs → new ≡ old → IsInMaking m there maps (new there)
making-unchanged m hs there maps old new made same kept =
    let P : List Head → Type 0 = λ l. IsInMaking m l maps (new l) in
    let Q : (List Head → List ℕ → Option ℕ) → Type 0 = λ f. IsInMaking m hs maps (f hs) in
    subst P (sym same) (subst Q (sym kept) made)
