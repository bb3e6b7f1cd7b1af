-- Columns: entries that show a map, and what is put into one.
use Rattle.std.proofs.Common.{◌≡◌, ℕ, zero, suc, ◌+◌, ◌-◌, ◌<◌, ◌≤◌, List, [], ◌∷◌, ◌++◌, length, map, take, drop, set, get_or, Bool, true, false, cond, Option, Some, None, Result, Ok, Err, Ordering, Less, Equal, Greater, refl, sym, ap, subst, ◌∙◌, arith, length-append, length-drop, slice_range, All, inl, inr}
use Rattle.std.proofs.lemmas.Bool.{cases_Bool, eqb-true, le-ltb}
use Rattle.std.proofs.lemmas.List.{take-append-le, drop-append-le, take_more, length-take-le}
use Rattle.std.proofs.lemmas.List.Elements.{All-map, All-nil, All-cons, All-head, All-tail, All-weaker, All-push}
use Rattle.std.proofs.Math.Seq.{drop-append_seam, take-length}
use Rattle.std.specs.Prelude.{find, unwrap_or, ◌==◌, OnOk, OnErr}
use Rattle.std.specs.List.{AllByRecursion, insert}
use Rattle.std.specs.List.Sorted.{IsStrictlySortedBy}
use Rattle.std.specs.Map.{lookup, keys_of}
use Rattle.std.specs.Ordering.{nat_cmp, match_ordering}
use Rattle.std.specs.BTreeMap.{insert_entry, is_at}
use Rattle.std.specs.Cmp.{nat_cmp_is}
use Rattle.std.proofs.lemmas.Cmp.{ranked}
use Rattle.std.specs.FinMap.{nat_cmp-IsAntisymmetric}
use Rattle.ocl_base.proofs.ForAbove.{all_weaker}
use Rattle.imkl_population.specs.declared.scalar.Scalar.{Scalar}
use Rattle.imkl_population.specs.declared.entries.Entry.{Entry}
use Rattle.imkl_population.specs.Written.{written_in, IsMap}
use Rattle.imkl_population.specs.Values.{is_over}
use Rattle.imkl_population.specs.Store.{Stored, entry_of, objects_in, put_entry, range_of, values_in, map_of, IsEntry, IsSegment, AreRangesWithin, IsLaidOut}
use Rattle.imkl_population.proofs.Encoded.{is_eq-nat_cmp}

-- entries give the same map by way of their ranges
entries-by_range : (scalars : List Scalar) (es : List Entry) → map (values_in scalars) (map range_of es) ≡ map (entry_of scalars) es
entries-by_range scalars [] = refl
entries-by_range scalars (e ∷ es) = ap (λ (l : List (ℕ × List Scalar)). entry_of scalars e ∷ l) (entries-by_range scalars es)

-- what contracts see of a column
abbrev pub seen : List Scalar → List Entry → Stored
seen scalars es = record { scalars = scalars; ranges = map range_of es }

-- so the map is what the entries show
pub map-seen : (scalars : List Scalar) (es : List Entry) → map_of (seen scalars es) ≡ map (entry_of scalars) es
map-seen scalars es = entries-by_range scalars es

-- the same, of what contracts see
pub map-is : (scalars : List Scalar) (es : List Entry) (c : Stored) → seen scalars es ≡ c → map (entry_of scalars) es ≡ map_of c
map-is scalars es c view = sym (map-seen scalars es) ∙ ap map_of view

-- the ranges of entries lie within
pub ranges-within : (scalars : List Scalar) (es : List Entry) → All (IsEntry (length scalars)) es → AreRangesWithin (seen scalars es)
ranges-within scalars es h = All-map (λ r. IsSegment (length scalars) r.1) range_of es h

-- ---- ranges of a longer list

-- a range of a list is the same range of a longer one
pub slice_range-more : {X : Type 0} (xs ys : List X) (start end : ℕ) → start ≤ end → end ≤ length xs → slice_range (xs ++ ys) start end ≡ slice_range xs start end
slice_range-more xs ys start end low high =
    let inside : start ≤ length xs = omega arith in
    let room : end - start ≤ length (drop start xs) = omega (arith, length-drop start xs) in
    rw (drop-append-le start xs ys inside) (take-append-le (end - start) (drop start xs) ys room)

-- what is appended is the range at the end
pub slice_range-new : {X : Type 0} (xs ys : List X) (start end : ℕ) → start ≡ length xs → end ≡ length xs + length ys → slice_range (xs ++ ys) start end ≡ ys
slice_range-new xs ys start end from to =
    let n : end - length xs ≡ length ys = omega arith in
    rw (from, drop-append_seam xs ys, n) (take-length ys)

-- entries show the same values where more values stand behind
pub entries-more : (xs ys : List Scalar) (es : List Entry) → All (IsEntry (length xs)) es → map (entry_of (xs ++ ys)) es ≡ map (entry_of xs) es
entries-more xs ys [] h = refl
entries-more xs ys (e ∷ es) h =
    let here = All-head (IsEntry (length xs)) e es h in
    let rest = entries-more xs ys es (All-tail (IsEntry (length xs)) e es h) in
    rw (slice_range-more xs ys e.start e.end here.0 here.1, rest) refl

-- entries within n values are within more values
pub within-more : (n m : ℕ) (es : List Entry) → n ≤ m → All (IsEntry n) es → All (IsEntry m) es
within-more n m es le h = All-weaker (IsEntry n) (IsEntry m) (λ e k. (k.0, omega (arith, k.1))) es h

-- ---- an entry is put

-- what a comparison of two numbers says, and when it says it: less, equal and greater
pub less_is : (m n : ℕ) → nat_cmp m n ≡ Less → m < n
less_is m n e = ranked m n Less (sym e)

pub is_less : (m n : ℕ) → m < n → nat_cmp m n ≡ Less
is_less m n lt = sym (nat_cmp_is m n Less lt)

pub is_equal : (n : ℕ) → nat_cmp n n ≡ Equal
is_equal n = sym (nat_cmp_is n n Equal refl)

pub is_greater : (m n : ℕ) → n < m → nat_cmp m n ≡ Greater
is_greater m n lt = sym (nat_cmp_is m n Greater lt)

put_by : (o : Ordering) (s : List Scalar) (e x : Entry) (es more : List Entry) (ws : List (ℕ × List Scalar)) → nat_cmp x.object e.object ≡ o → map (entry_of s) more ≡ ws
    → map (entry_of s) (match_ordering o (x ∷ e ∷ es) (x ∷ es) (e ∷ more))
    ≡ match_ordering o (entry_of s x ∷ map (entry_of s) (e ∷ es)) ((e.object, slice_range s x.start x.end) ∷ map (entry_of s) es) (entry_of s e ∷ ws)
put_by Less s e x es more ws c later = refl
put_by Equal s e x es more ws c later = ap (λ (k : ℕ). (k, slice_range s x.start x.end) ∷ map (entry_of s) es) (nat_cmp-IsAntisymmetric x.object e.object c)
put_by Greater s e x es more ws c later = ap (λ (l : List (ℕ × List Scalar)). entry_of s e ∷ l) later

-- the map with an entry put is the map with its values put
pub map-put : (s : List Scalar) (es : List Entry) (x : Entry) → map (entry_of s) (put_entry es x) ≡ insert_entry nat_cmp (map (entry_of s) es) x.object (slice_range s x.start x.end)
map-put s [] x = refl
map-put s (e ∷ es) x = put_by (nat_cmp x.object e.object) s e x es (put_entry es x) (insert_entry nat_cmp (map (entry_of s) es) x.object (slice_range s x.start x.end)) refl (map-put s es x)

all_by : (P : Entry → Type 0) (o : Ordering) (e x : Entry) (es more : List Entry) → All P (e ∷ es) → P x → All P more → All P (match_ordering o (x ∷ e ∷ es) (x ∷ es) (e ∷ more))
all_by P Less e x es more h here later = All-cons P x (e ∷ es) here h
all_by P Equal e x es more h here later = All-cons P x es here (All-tail P e es h)
all_by P Greater e x es more h here later = All-cons P e more (All-head P e es h) later

-- what holds of each entry, and of the one put
pub all-put : (P : Entry → Type 0) (es : List Entry) (x : Entry) → All P es → P x → All P (put_entry es x)
all-put P [] x h here = All-cons P x [] here h
all-put P (e ∷ es) x h here = all_by P (nat_cmp x.object e.object) e x es (put_entry es x) h here (all-put P es x (All-tail P e es h) here)

above_by : (P : ℕ → Type 0) (o : Ordering) (e x : Entry) (es more : List Entry) → AllByRecursion P (objects_in (e ∷ es)) → P x.object → AllByRecursion P (objects_in more)
    → AllByRecursion P (objects_in (match_ordering o (x ∷ e ∷ es) (x ∷ es) (e ∷ more)))
above_by P Less e x es more h here later = (here, h)
above_by P Equal e x es more h here later = (here, h.1)
above_by P Greater e x es more h here later = (h.0, later)

objects-put : (P : ℕ → Type 0) (es : List Entry) (x : Entry) → AllByRecursion P (objects_in es) → P x.object → AllByRecursion P (objects_in (put_entry es x))
objects-put P [] x h here = (here, tt)
objects-put P (e ∷ es) x h here = above_by P (nat_cmp x.object e.object) e x es (put_entry es x) h here (objects-put P es x h.1 here)

further : (x e k : ℕ) → nat_cmp x e ≡ Less → nat_cmp e k ≡ Less → nat_cmp x k ≡ Less
further x e k c h =
    let first : x < e = less_is x e c in
    let second : e < k = less_is e k h in
    is_less x k (omega arith)

ascend_by : (o : Ordering) (e x : Entry) (es more : List Entry) → nat_cmp x.object e.object ≡ o → IsStrictlySortedBy nat_cmp (objects_in (e ∷ es)) → IsStrictlySortedBy nat_cmp (objects_in more)
    → (AllByRecursion (λ k. nat_cmp e.object k ≡ Less) (objects_in es) → nat_cmp e.object x.object ≡ Less → AllByRecursion (λ k. nat_cmp e.object k ≡ Less) (objects_in more))
    → IsStrictlySortedBy nat_cmp (objects_in (match_ordering o (x ∷ e ∷ es) (x ∷ es) (e ∷ more)))
unfolding IsStrictlySortedBy
ascend_by Less e x es more c h later above = ((c, all_weaker (λ k. nat_cmp e.object k ≡ Less) (λ k. nat_cmp x.object k ≡ Less) (λ k. further x.object e.object k c) (objects_in es) h.0), h)
ascend_by Equal e x es more c h later above =
    let same : e.object ≡ x.object = sym (nat_cmp-IsAntisymmetric x.object e.object c) in
    (subst (λ (n : ℕ). AllByRecursion (λ k. nat_cmp n k ≡ Less) (objects_in es)) same h.0, h.1)
ascend_by Greater e x es more c h later above =
    let behind : e.object < x.object = ranked x.object e.object Greater (sym c) in
    (above h.0 (is_less e.object x.object behind), later)

-- the objects still ascend
pub ascend-put : (es : List Entry) (x : Entry) → IsStrictlySortedBy nat_cmp (objects_in es) → IsStrictlySortedBy nat_cmp (objects_in (put_entry es x))
unfolding IsStrictlySortedBy
ascend-put [] x h = (tt, tt)
ascend-put (e ∷ es) x h =
    ascend_by (nat_cmp x.object e.object) e x es (put_entry es x) refl h (ascend-put es x h.1)
    (λ all here. objects-put (λ k. nat_cmp e.object k ≡ Less) es x all here)

abbrev pub none : Entry
none = record { object = 0; start = 0; end = 0 }

-- an entry put behind those of earlier objects and before those of later ones
pub put-between : (es : List Entry) (place : ℕ) (x : Entry) → place ≤ length es → ((k : ℕ) → k < place → (get_or es k none).object < x.object)
    → ((k : ℕ) → place ≤ k → k < length es → x.object < (get_or es k none).object) → insert es place x ≡ put_entry es x
put-between [] zero x room before behind = refl
put-between [] (suc place) x room before behind = absurd (omega arith)
put-between (e ∷ es) zero x room before behind = rw (is_less x.object e.object (behind 0 (omega arith) (omega arith))) refl
put-between (e ∷ es) (suc place) x room before behind =
    rw (is_greater x.object e.object (before 0 (omega arith)))
    (ap (λ (l : List Entry). e ∷ l) (put-between es place x (omega arith) (λ k lt. before (suc k) (omega arith)) (λ k le lt. behind (suc k) (omega arith) (omega arith))))

-- an entry put in the place of the one of the same object
pub put-over : (es : List Entry) (place : ℕ) (x : Entry) → place < length es → ((k : ℕ) → k < place → (get_or es k none).object < x.object)
    → (get_or es place none).object ≡ x.object → set es place x ≡ put_entry es x
put-over [] place x room before same = absurd (omega arith)
put-over (e ∷ es) zero x room before same = rw (sym (nat_cmp_is x.object e.object Equal (sym same))) refl
put-over (e ∷ es) (suc place) x room before same =
    rw (is_greater x.object e.object (before 0 (omega arith)))
    (ap (λ (l : List Entry). e ∷ l) (put-over es place x (omega arith) (λ k lt. before (suc k) (omega arith)) same))

-- ---- looking up

abbrev pub value_of : List Scalar → Option Entry → List Scalar
value_of scalars None = []
value_of scalars (Some e) = slice_range scalars e.start e.end

one_or_later : (b : Bool) (scalars : List Scalar) (e : Entry) (r : Option Entry) (q : Option (List Scalar)) → value_of scalars r ≡ unwrap_or q []
    → value_of scalars (cond b (Some e) r) ≡ unwrap_or (cond b (Some (slice_range scalars e.start e.end)) q) []
one_or_later true scalars e r q later = refl
one_or_later false scalars e r q later = later

-- an entry found by its object has what the map has there
pub find-lookup : (scalars : List Scalar) (es : List Entry) (o : ℕ) → value_of scalars (find (λ e. e.object == o) es) ≡ written_in (map (entry_of scalars) es) o
find-lookup scalars [] o = refl
find-lookup scalars (e ∷ es) o =
    rw (is_eq-nat_cmp o e.object) (one_or_later (e.object == o) scalars e (find (λ x. x.object == o) es) (lookup (is_at (nat_cmp o)) (map (entry_of scalars) es)) (find-lookup scalars es o))

found_by : (P : Entry → Type 0) (b : Bool) (e f : Entry) (r : Option Entry) → P e → (r ≡ Some f → P f) → cond b (Some e) r ≡ Some f → P f
found_by P true e f r h later is = let same : e ≡ f = cc in subst P same h
found_by P false e f r h later is = later is

nothing_found : (f : Entry) → None ≡ Some f → ⊥
nothing_found f is = cc

-- what holds of each entry holds of one that is found
pub find-holds : (P : Entry → Type 0) (test : Entry → Bool) (es : List Entry) (f : Entry) → All P es → find test es ≡ Some f → P f
find-holds P test [] f h is = absurd (nothing_found f is)
find-holds P test (e ∷ es) f h is = found_by P (test e) e f (find test es) (All-head P e es h) (find-holds P test es f (All-tail P e es h)) is

-- a map's keys are the objects of its entries
pub keys_of-entries : (scalars : List Scalar) (es : List Entry) → keys_of (map (entry_of scalars) es) ≡ objects_in es
keys_of-entries scalars [] = refl
keys_of-entries scalars (e ∷ es) = ap (λ (l : List ℕ). e.object ∷ l) (keys_of-entries scalars es)

-- so a column is a map
pub ascending : (scalars : List Scalar) (es : List Entry) → IsStrictlySortedBy nat_cmp (objects_in es) → IsMap (map_of (seen scalars es))
ascending scalars es h = subst (IsStrictlySortedBy nat_cmp) (sym (ap keys_of (map-seen scalars es) ∙ keys_of-entries scalars es)) h

-- ---- values put at an object

module _ (s0 s1 : List Scalar) (es : List Entry) (o start end : ℕ) (vs : List Scalar) (laid : IsLaidOut s0 es) (grown : s1 ≡ s0 ++ vs) (from : start ≡ length s0) (to : end ≡ length s1) where
  abbrev pub entry : Entry
  entry = record { object = o; start = start; end = end }

  so_long : length s1 ≡ length s0 + length vs
  so_long = ap length grown ∙ length-append s0 vs

  within_all : All (IsEntry (length s1)) es
  within_all = within-more (length s0) (length s1) es (omega (arith, so_long)) laid.within

  same_entries : map (entry_of s1) es ≡ map (entry_of s0) es
  same_entries = rw grown (entries-more s0 vs es laid.within)

  -- the entry shows the values behind all that stood there
  entry_shows : slice_range s1 start end ≡ vs
  entry_shows = rw grown (slice_range-new s0 vs start end from (to ∙ so_long))

  -- the column stays laid out
  pub set-laid_out : (new : List Entry) → new ≡ put_entry es entry → IsLaidOut s1 new
  set-laid_out new put = subst (IsLaidOut s1) (sym put) (record {
    within = all-put (IsEntry (length s1)) es entry within_all (omega (arith, from, to, so_long), omega (arith, to));
    ascend = ascend-put es entry laid.ascend;
  })

  -- its map has the values at the object
  pub set-map : (new : List Entry) → new ≡ put_entry es entry → map_of (seen s1 new) ≡ insert_entry nat_cmp (map_of (seen s0 es)) o vs
  set-map new put =
      ap (λ (l : List Entry). map_of (seen s1 l)) put ∙ map-seen s1 (put_entry es entry) ∙ map-put s1 es entry
      ∙ ap (insert_entry nat_cmp (map (entry_of s1) es) o) entry_shows
      ∙ ap (λ (w : List (ℕ × List Scalar)). insert_entry nat_cmp w o vs) (same_entries ∙ sym (map-seen s0 es))

  -- where the entry isn't put, the column stays laid out with its map
  pub unset-laid_out : IsLaidOut s1 es
  unset-laid_out = record { within = within_all; ascend = laid.ascend }

  pub unset-map : map_of (seen s1 es) ≡ map_of (seen s0 es)
  unset-map = map-seen s1 es ∙ same_entries ∙ sym (map-seen s0 es)

-- ---- too many values

-- how long a range is
pub length-range : {X : Type 0} (xs : List X) (start end : ℕ) → start ≤ end → end ≤ length xs → length (slice_range xs start end) ≡ end - start
length-range xs start end low high = length-take-le (end - start) (drop start xs) (omega (arith, low, high, length-drop start xs))

-- entries of too many values are of no object before the first
abbrev pub IsOverFrom : Option ℕ → ℕ → Entry → Type 0
IsOverFrom upper first e = is_over upper (e.end - e.start) ≡ true → first ≤ e.object

not_over : (b : Bool) (upper : Option ℕ) (s : List Scalar) (e : Entry) (first o : ℕ) (r : Option (List Scalar)) → (e.object == o) ≡ b → IsEntry (length s) e → IsOverFrom upper first e → o < first
    → is_over upper (length (unwrap_or r [])) ≡ false → is_over upper (length (unwrap_or (cond b (Some (slice_range s e.start e.end)) r) [])) ≡ false
not_over false upper s e first o r is within over lt later = later
not_over true upper s e first o r is within over lt later =
    let long : length (slice_range s e.start e.end) ≡ e.end - e.start = length-range s e.start e.end within.0 within.1 in
    let same : e.object ≡ o = eqb-true e.object o is in
    elim (cases_Bool (is_over upper (e.end - e.start))) [
      | inl h ↦ absurd (omega (arith, over h, same, lt))
      | inr h ↦ rw long h
    ]

-- no values are not too many
pub nothing_over : (upper : Option ℕ) → is_over upper 0 ≡ false
nothing_over None = refl
nothing_over (Some u) = le-ltb u 0 (omega arith)

-- no object before the first has too many values
pub uncrowded : (upper : Option ℕ) (s : List Scalar) (es : List Entry) (first : ℕ) → All (IsEntry (length s)) es → All (IsOverFrom upper first) es
    → (o : ℕ) → o < first → is_over upper (length (written_in (map (entry_of s) es) o)) ≡ false
uncrowded upper s [] first within over o lt = nothing_over upper
uncrowded upper s (e ∷ es) first within over o lt =
    rw (is_eq-nat_cmp o e.object)
    (not_over (e.object == o) upper s e first o (lookup (is_at (nat_cmp o)) (map (entry_of s) es)) refl (All-head (IsEntry (length s)) e es within) (All-head (IsOverFrom upper first) e es over) lt
    (uncrowded upper s es first (All-tail (IsEntry (length s)) e es within) (All-tail (IsOverFrom upper first) e es over) o lt))

-- one entry more
pub over-more : (upper : Option ℕ) (es : List Entry) (i : ℕ) (e : Entry) (old new : ℕ) → i < length es → e ≡ get_or es i e → All (IsOverFrom upper old) (take i es) → new ≤ old → IsOverFrom upper new e
    → All (IsOverFrom upper new) (take (i + 1) es)
over-more upper es i e old new lt is before le here =
    subst (All (IsOverFrom upper new)) (sym (take_more es i e lt ∙ ap (λ (x : Entry). take i es ++ x ∷ []) (sym is)))
    (All-push (IsOverFrom upper new) (take i es) e (All-weaker (IsOverFrom upper old) (IsOverFrom upper new) (λ x h over. omega (arith, h over, le)) (take i es) before) here)

-- nothing is laid out
pub nothing-laid_out : (scalars : List Scalar) (es : List Entry) → scalars ≡ [] → es ≡ [] → IsLaidOut scalars es
unfolding IsStrictlySortedBy
nothing-laid_out scalars es none empty = rw (none, empty) (record { within = All-nil (IsEntry 0); ascend = tt })

-- what follows from either end of a call
pub on_either : {X E A B C : Type 0} (r : Result X E) → OnOk r A → OnErr r B → (A → C) → (B → C) → C
on_either (Ok x) a b f g = f a
on_either (Err e) a b f g = g b

-- what follows where a call succeeded
pub on_ok : {X E A C : Type 0} (r : Result X E) → OnOk r A → (A → C) → OnOk r C
on_ok (Ok x) a f = f a
on_ok (Err e) a f = tt

-- what follows where a call failed
pub on_err : {X E A C : Type 0} (r : Result X E) → OnErr r A → (A → C) → OnErr r C
on_err (Ok x) a f = tt
on_err (Err e) a f = f a
