-- What is found by a key in a list whose keys ascend strictly.
use Rattle.std.proofs.Common.{ap, ◌++◌, ◌-◌, ◌≡◌, ◌≢◌, ℕ, zero, suc, ◌<◌, ◌≤◌, ◌==◌, List, [], ◌∷◌, length, map, get_or, set, Some, None, Result, Ok, Err, MatchResult, refl, sym, arith, All, inl, inr}
use Rattle.std.specs.Prelude.{find}
use Rattle.std.specs.List.{insert}
use Rattle.std.specs.List.Sorted.{IsStrictlySortedBy, IsNonDecreasingBy, IsBinarySearchResult, IsSearchInRange}
use Rattle.std.specs.Ordering.{nat_cmp, ordering_index}
use Rattle.std.proofs.lemmas.Cmp.{ranked}
use Rattle.imkl_population.specs.declared.entries.Entry.{Entry}
use Rattle.imkl_population.specs.Store.{objects_in, put_entry}
use Rattle.imkl_population.proofs.Stored.{none, is_greater, put-between, put-over}
use Rattle.std.proofs.lemmas.Bool.{eq-eqb, ne_eqb}
use Rattle.std.proofs.lemmas.Bool.Decides.{nat_tests, leb_tells}
use Rattle.std.proofs.lemmas.List.{length-map, get_or-map, get_or_default}
use Rattle.std.proofs.lemmas.List.Elements.{All-head, All-tail}
use Rattle.std.proofs.lemmas.Map.Keys.{below_from_sorted, non_decreasing_from_sorted, sorted_tail}

-- a greater number compares no lower
ordering_index-le : (a b k : ℕ) → a ≤ b → ordering_index (nat_cmp a k) ≤ ordering_index (nat_cmp b k)
ordering_index-le a b k le = grind (arith, nat_tests)

module _ {X : Type 0} (key : X → ℕ) where
  -- later elements have no lower keys
  keys_rise : (xs : List X) (i j : ℕ) (d : X) → IsStrictlySortedBy nat_cmp (map key xs) → i ≤ j → j < length xs → key (get_or xs i d) ≤ key (get_or xs j d)
  keys_rise xs i j d ascend le inside =
      let rise : get_or (map key xs) i (key d) ≤ get_or (map key xs) j (key d) = non_decreasing_from_sorted (map key xs) ascend i j (key d) le (omega (arith, length-map xs key, inside)) in
      omega (arith, rise, get_or-map key xs i d (key d) (omega arith), get_or-map key xs j d (key d) inside)

  -- the comparisons with a number rise along the list
  pub comparisons_rise : (k : ℕ) (xs : List X) → IsStrictlySortedBy nat_cmp (map key xs) → IsNonDecreasingBy (λ x. ordering_index (nat_cmp (key x) k)) xs
  comparisons_rise k xs ascend i j d le inside = ordering_index-le (key (get_or xs i d)) (key (get_or xs j d)) k (keys_rise xs i j d ascend le inside)

  -- the element at a place is the first that has its key
  pub find-at : (xs : List X) (place k : ℕ) (d : X) → IsStrictlySortedBy nat_cmp (map key xs) → place < length xs → key (get_or xs place d) ≡ k → find (λ x. key x == k) xs ≡ Some (get_or xs place d)
  find-at [] place k d ascend inside here = absurd (omega arith)
  find-at (x ∷ xs) zero k d ascend inside here = rw (eq-eqb (key x) k here) refl
  find-at (x ∷ xs) (suc place) k d ascend inside here =
      let long : length (map key xs) ≡ length xs = length-map xs key in
      let below : key x < get_or (map key xs) place (key d) = below_from_sorted (map key (x ∷ xs)) zero (suc place) (key d) ascend (omega arith) (omega (arith, long, inside)) in
      let at : get_or (map key xs) place (key d) ≡ key (get_or xs place d) = get_or-map key xs place d (key d) (omega arith) in
      let apart : key x ≢ k = λ e. absurd (omega (arith, below, at, here, e)) in
      rw (ne_eqb (key x) k apart) (find-at xs place k d (sorted_tail nat_cmp (key x) (map key xs) ascend) (omega arith) here)

  -- no element has the key
  pub find-none : (xs : List X) (k : ℕ) → All (λ x. key x ≢ k) xs → find (λ x. key x == k) xs ≡ None
  find-none [] k apart = refl
  find-none (x ∷ xs) k apart = rw (ne_eqb (key x) k (All-head (λ y. key y ≢ k) x xs apart)) (find-none xs k (All-tail (λ y. key y ≢ k) x xs apart))

  -- no element has the key where a place parts lower keys from greater ones
  pub find-gap : (xs : List X) (place k : ℕ) (d : X) → IsStrictlySortedBy nat_cmp (map key xs) → place ≤ length xs
      → (0 < place → key (get_or xs (place - 1) d) < k) → (place < length xs → k < key (get_or xs place d)) → find (λ x. key x == k) xs ≡ None
  find-gap xs place k d ascend inside before behind = find-none xs k (λ i e lt.
      let same : key (get_or xs i e) ≡ key (get_or xs i d) = ap key (get_or_default xs i e d lt) in
      elim (leb_tells place i) [
        | inl le ↦
            let above : k < key (get_or xs place d) = behind (omega (arith, le.1, lt)) in
            let rise = keys_rise xs place i d ascend le.1 lt in
            λ eq. absurd (omega (arith, same, above, rise, eq))
        | inr less ↦
            let below : key (get_or xs (place - 1) d) < k = before (omega (arith, less.1)) in
            let rise = keys_rise xs i (place - 1) d ascend (omega (arith, less.1)) (omega (arith, less.1, inside)) in
            λ eq. absurd (omega (arith, same, below, rise, eq))
      ])

  -- what a binary search by the key answers is what is found
  pub searched-find : (xs : List X) (k : ℕ) (r : Result ℕ ℕ) → IsStrictlySortedBy nat_cmp (map key xs) → IsSearchInRange r (length xs) → IsBinarySearchResult (λ x. nat_cmp (key x) k) xs r
      → MatchResult r (λ place. (d : X) → find (λ x. key x == k) xs ≡ Some (get_or xs place d)) (λ gap. find (λ x. key x == k) xs ≡ None)
  searched-find xs k (Ok place) ascend inside equal = λ d. find-at xs place k d ascend inside (ranked (key (get_or xs place d)) k _ (sym (equal d)))
  searched-find xs k (Err gap) ascend inside parted = find-none xs k (λ i d lt.
      let split = parted (comparisons_rise k xs ascend) in
      elim (leb_tells gap i) [
        | inl le ↦
            let above : k < key (get_or xs i d) = ranked (key (get_or xs i d)) k _ (sym (split.1 i d le.1 lt)) in
            λ e. absurd (omega (arith, above, e))
        | inr less ↦
            let below : key (get_or xs i d) < k = ranked (key (get_or xs i d)) k _ (sym (split.0 i d (omega arith) less.1)) in
            λ e. absurd (omega (arith, below, e))
      ])

-- ---- an entry is put where a search ends

abbrev object_of : Entry → ℕ
object_of e = e.object

module _ (es : List Entry) (x : Entry) (ascend : IsStrictlySortedBy nat_cmp (objects_in es)) where
  counted : length (objects_in es) ≡ length es
  counted = length-map es object_of

  earlier : (place k : ℕ) → place < length es → k < place → (get_or es k none).object < (get_or es place none).object
  earlier place k inside lt =
      let below : get_or (objects_in es) k 0 < get_or (objects_in es) place 0 = below_from_sorted (objects_in es) k place 0 ascend lt (omega (arith, counted, inside)) in
      omega (arith, below, get_or-map object_of es k none 0 (omega arith), get_or-map object_of es place none 0 inside)

  -- what a binary search for its object answers is where the entry is put
  pub searched-put : (r : Result ℕ ℕ) → IsSearchInRange r (length es) → IsBinarySearchResult (λ e. nat_cmp e.object x.object) es r
      → MatchResult r (λ place. set es place x ≡ put_entry es x) (λ place. insert es place x ≡ put_entry es x)
  searched-put (Ok place) inside equal =
      let same : (get_or es place none).object ≡ x.object = ranked (get_or es place none).object x.object _ (sym (equal none)) in
      put-over es place x inside (λ k lt. omega (arith, earlier place k inside lt, same)) same
  searched-put (Err gap) inside parted =
      let split = parted (comparisons_rise object_of x.object es ascend) in
      put-between es gap x inside
      (λ k lt. ranked (get_or es k none).object x.object _ (sym (split.0 k none (omega arith) lt)))
      (λ k le lt. ranked (get_or es k none).object x.object _ (sym (split.1 k none le lt)))

  -- where the last entry is of an earlier object, all are
  pub all-earlier : 0 < length es → (get_or es (length es - 1) none).object < x.object → All (λ e. e.object < x.object) es
  all-earlier some last k d lt =
      let here : (get_or es k d).object ≡ (get_or es k none).object = ap object_of (get_or_default es k d none lt) in
      elim (leb_tells (length es - 1) k) [
        | inl le ↦
            let same : k ≡ length es - 1 = omega (arith, lt, le.1) in
            let there : (get_or es k none).object ≡ (get_or es (length es - 1) none).object = ap (λ (n : ℕ). (get_or es n none).object) same in
            omega (arith, here, there, last)
        | inr less ↦ omega (arith, here, last, earlier (length es - 1) k (omega (arith, some)) less.1)
      ]

-- an entry put behind those of earlier objects
pub put-last : (es : List Entry) (x : Entry) → All (λ e. e.object < x.object) es → es ++ x ∷ [] ≡ put_entry es x
put-last [] x before = refl
put-last (e ∷ es) x before =
    rw (is_greater x.object e.object (All-head (λ e. e.object < x.object) e es before))
    (ap (λ (l : List Entry). e ∷ l) (put-last es x (All-tail (λ e. e.object < x.object) e es before)))
