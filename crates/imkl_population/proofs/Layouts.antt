-- Objects from their ids, classes and what the columns have for them.
use Rattle.std.proofs.Common.{◌≡◌, ℕ, zero, suc, ◌<◌, ◌==◌, List, [], ◌∷◌, ◌++◌, length, length-append, drop, set, get_or, refl, sym, ap, ◌∙◌, arith, inl, inr, if◌then◌else◌}
use Rattle.std.specs.Ordering.{nat_cmp}
use Rattle.std.specs.BTreeMap.{insert_entry}
use Rattle.std.proofs.lemmas.Bool.{cases_eq, eq-eqb, ne_eqb}
use Rattle.std.proofs.lemmas.List.{ext_get_or, get_or-set_same, get_or-set_other, length-set}
use Rattle.imkl_population.specs.declared.scalar.Scalar.{Scalar}
use Rattle.imkl_population.specs.declared.object.Object.{Object}
use Rattle.imkl_population.specs.declared.object.Head.{Head}
use Rattle.imkl_population.specs.Building.{with_written, with_values}
use Rattle.imkl_population.specs.Written.{written_in}
use Rattle.imkl_model.specs.ClassModel.{Model}
use Rattle.imkl_population.specs.Population.{Population, object_at, written_at, no_object}
use Rattle.imkl_population.specs.FinishedPopulation.{FinishedPopulation}
use Rattle.imkl_population.specs.Store.{object_row, rows}
use Rattle.imkl_population.specs.Layout.{objects_of, first_map, stored_content}
use Rattle.imkl_population.proofs.Rows.{length-rows, rows-at, row-written}

-- the content of equal populations
pub content-is : {a b : FinishedPopulation} → a ≡ b → a.content ≡ b.content
content-is e = ap (λ (p : FinishedPopulation). p.content) e

-- as many objects as heads
pub length-objects_of : (hs : List Head) (ws : List (List (ℕ × List Scalar))) → length (objects_of hs ws) ≡ length hs
length-objects_of [] ws = refl
length-objects_of (h ∷ hs) ws = ap suc (length-objects_of hs (drop 1 ws))

first_map-get_or : (ws : List (List (ℕ × List Scalar))) → first_map ws ≡ get_or ws 0 []
first_map-get_or [] = refl
first_map-get_or (w ∷ ws) = refl

next_map : (ws : List (List (ℕ × List Scalar))) (k : ℕ) → get_or (drop 1 ws) k [] ≡ get_or ws (suc k) []
next_map [] zero = refl
next_map [] (suc k) = refl
next_map (w ∷ ws) k = refl

-- the object at a place
pub objects_of-at : (hs : List Head) (ws : List (List (ℕ × List Scalar))) (k : ℕ) (h : Head) → k < length hs
    → get_or (objects_of hs ws) k no_object ≡ record { id = (get_or hs k h).id; class = (get_or hs k h).class; written = get_or ws k [] }
objects_of-at [] ws k h lt = absurd (omega arith)
objects_of-at (x ∷ hs) ws zero h lt = rw (first_map-get_or ws) refl
objects_of-at (x ∷ hs) ws (suc k) h lt = objects_of-at hs (drop 1 ws) k h (omega arith) ∙ rw (next_map ws k) refl

-- one object more
objects_of-push : (hs : List Head) (ws : List (List (ℕ × List Scalar))) (o : Object) → length ws ≡ length hs
    → objects_of (hs ++ record { id = o.id; class = o.class } ∷ []) (ws ++ o.written ∷ []) ≡ objects_of hs ws ++ o ∷ []
objects_of-push [] [] o e = refl
objects_of-push [] (w ∷ ws) o e = absurd (omega arith)
objects_of-push (h ∷ hs) [] o e = absurd (omega arith)
objects_of-push (h ∷ hs) (w ∷ ws) o e = ap (λ (l : List Object). record { id = h.id; class = h.class; written = w } ∷ l) (objects_of-push hs ws o (omega arith))

abbrev pub Maps : Type 0
Maps = List (List (ℕ × List Scalar))

-- ---- the objects of columns

-- a population of columns has as many objects as heads
pub length-content : (m : Model) (hs : List Head) (maps : Maps) → length (stored_content m hs maps).objects ≡ length hs
length-content m hs maps = length-objects_of hs (rows maps (length hs))

-- an object has the id and class of the head at its place, and its row
pub content-at : (m : Model) (hs : List Head) (maps : Maps) (o : ℕ) (h : Head) → o < length hs
    → object_at (stored_content m hs maps) o ≡ record { id = (get_or hs o h).id; class = (get_or hs o h).class; written = object_row maps o }
content-at m hs maps o h lt = objects_of-at hs (rows maps (length hs)) o h lt ∙ rw (rows-at maps (length hs) o lt) refl

-- the same, of a head that is found at a place
pub head-at : (m : Model) (hs : List Head) (maps : Maps) (p : Population) (o place : ℕ) (h : Head) → stored_content m hs maps ≡ p → o < length p.objects → place ≡ o
    → h ≡ get_or hs place h → object_at p o ≡ record { id = h.id; class = h.class; written = object_row maps o }
head-at m hs maps p o place h view inside here is =
    let within : o < length hs = omega (arith, length-content m hs maps, ap (λ (q : Population). length q.objects) view) in
    let head : get_or hs o h ≡ h = sym (is ∙ ap (λ (k : ℕ). get_or hs k h) here) in
    ap (λ (q : Population). object_at q o) (sym view) ∙ content-at m hs maps o h within ∙ rw head refl

-- what is written on an object at a feature is what the feature's column has
pub written-column : (m : Model) (hs : List Head) (maps : Maps) (o f : ℕ) → o < length hs → written_at (stored_content m hs maps) o f ≡ written_in (get_or maps f []) o
written-column m hs maps o f lt =
    ap (λ (x : Object). written_in x.written f) (content-at m hs maps o (record { id = []; class = 0 }) lt) ∙ row-written maps f o

-- one object more, for which the columns have nothing
pub content-push : (hs new : List Head) (maps : Maps) (h : Head) → new ≡ hs ++ h ∷ [] → object_row maps (length hs) ≡ []
    → objects_of new (rows maps (length new)) ≡ objects_of hs (rows maps (length hs)) ++ record { id = h.id; class = h.class; written = [] } ∷ []
content-push hs new maps h grown idle =
    let more : length new ≡ suc (length hs) = omega (arith, ap length grown, length-append hs (h ∷ [])) in
    rw (more, idle, grown) (objects_of-push hs (rows maps (length hs)) (record { id = h.id; class = h.class; written = [] }) (length-rows maps (length hs)))

-- ---- values put at a feature of an object

module _ (m : Model) (hs : List Head) (old new : Maps) (o f : ℕ) (vs : List Scalar) (inside : o < length hs)
    (put : (k : ℕ) → object_row new k ≡ (if k == o then insert_entry nat_cmp (object_row old k) f vs else object_row old k)) where
  abbrev pub none : Head
  none = record { id = []; class = 0 }

  abbrev pub before : List Object
  before = objects_of hs (rows old (length hs))

  abbrev pub changed : Object
  changed = with_written (get_or before o no_object) f vs

  put_here : object_row new o ≡ insert_entry nat_cmp (object_row old o) f vs
  put_here = put o ∙ rw (eq-eqb o o refl) refl

  put_at : (k : ℕ) → k < length hs → get_or (objects_of hs (rows new (length hs))) k no_object ≡ get_or (set before o changed) k no_object
  put_at k lt =
      elim (cases_eq k o) [
        | inl same ↦
            let there : o < length before = omega (arith, inside, length-content m hs old) in
            ap (λ (n : ℕ). get_or (objects_of hs (rows new (length hs))) n no_object) same
            ∙ content-at m hs new o none inside
            ∙ rw put_here refl
            ∙ ap (λ (x : Object). with_written x f vs) (sym (content-at m hs old o none inside))
            ∙ sym (get_or-set_same before o changed no_object there)
            ∙ ap (λ (n : ℕ). get_or (set before o changed) n no_object) (sym same)
        | inr apart ↦
            content-at m hs new k none lt
            ∙ rw (put k, ne_eqb k o apart) refl
            ∙ sym (content-at m hs old k none lt)
            ∙ sym (get_or-set_other before o k changed no_object apart)
      ]

  -- the objects with the new columns are the old ones with the values put
  pub objects-put : objects_of hs (rows new (length hs)) ≡ set before o changed
  objects-put =
      let count : length (objects_of hs (rows new (length hs))) ≡ length hs = length-content m hs new in
      ext_get_or no_object (objects_of hs (rows new (length hs))) (set before o changed)
      (omega (arith, count, length-content m hs old, length-set before o changed))
      (λ k lt. put_at k (omega (arith, count)))

  pub content-put : stored_content m hs new ≡ with_values (stored_content m hs old) o f vs
  content-put = ap (λ (os : List Object). record { model = m; objects = os }) objects-put

-- columns with the same rows show the same objects
rows-same : (old new : Maps) (n : ℕ) → ((k : ℕ) → object_row new k ≡ object_row old k) → rows new n ≡ rows old n
rows-same old new zero same = refl
rows-same old new (suc n) same = rw (rows-same old new n same, same n) refl

-- columns with the same rows show the same population
pub content-same : (m : Model) (hs : List Head) (old new : Maps) → ((k : ℕ) → object_row new k ≡ object_row old k) → stored_content m hs new ≡ stored_content m hs old
content-same m hs old new same = rw (rows-same old new (length hs) same) refl
