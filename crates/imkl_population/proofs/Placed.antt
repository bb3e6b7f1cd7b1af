-- Columns whose values stand in one list, each behind the one before it.
use Rattle.std.proofs.Common.{◌≡◌, ℕ, zero, suc, ◌+◌, ◌-◌, ◌<◌, ◌≤◌, ◌==◌, Bool, true, false, cond, List, [], ◌∷◌, ◌++◌, length, length-append, append_assoc, map, take, drop, get_or, slice_range, Option, Some, None, All, refl, sym, ap, subst, ◌∙◌, arith}
use Rattle.std.specs.Prelude.{find, max, min, unwrap_or}
use Rattle.std.specs.Map.{lookup, keys_of}
use Rattle.std.specs.Ordering.{nat_cmp}
use Rattle.std.specs.BTreeMap.{is_at}
use Rattle.std.proofs.lemmas.List.{append-nil, take_more}
use Rattle.std.proofs.lemmas.List.Elements.{All-nil, All-cons, All-head, All-tail, All-map, All-weaker}
use Rattle.imkl_population.specs.declared.entries.Entry.{Entry}
use Rattle.imkl_population.specs.declared.scalar.Scalar.{Scalar}
use Rattle.imkl_population.specs.declared.store.Segment.{Segment}
use Rattle.imkl_population.specs.FinishedPopulation.{no_segment, range_in}
use Rattle.imkl_population.specs.Store.{Stored, AreRangesWithin, AreSegments, IsSegment, longest_in, longest_range, maps_in, maps_of, segment_behind, objects_in, range_of, ranges_from, scalars_of, shifted, values_in}
use Rattle.imkl_population.proofs.Encoded.{is_eq-nat_cmp}
use Rattle.imkl_population.proofs.Longest.{longest_span}
use Rattle.imkl_population.proofs.Stored.{length-range, slice_range-more}

-- ---- the ranges of one column

-- what contracts see of entries that count from a place
abbrev pub placed : ℕ → List Entry → List (ℕ × Segment)
placed n es = map (shifted n) (map range_of es)

-- the range of an entry that was looked for
abbrev pub place_of : ℕ → Option Entry → Segment
place_of n None = no_segment
place_of n (Some e) = segment_behind n (range_of e).1

one_or_later : (b : Bool) (n : ℕ) (e : Entry) (r : Option Entry) (q : Option Segment) → place_of n r ≡ unwrap_or q no_segment
    → place_of n (cond b (Some e) r) ≡ unwrap_or (cond b (Some (segment_behind n (range_of e).1)) q) no_segment
one_or_later true n e r q later = refl
one_or_later false n e r q later = later

-- an entry found by its object has the object's range
pub find-range : (n : ℕ) (es : List Entry) (o : ℕ) → place_of n (find (λ e. e.object == o) es) ≡ range_in (placed n es) o
find-range n [] o = refl
find-range n (e ∷ es) o =
    rw (is_eq-nat_cmp o e.object)
    (one_or_later (e.object == o) n e (find (λ x. x.object == o) es) (lookup (is_at (nat_cmp o)) (placed n es)) (find-range n es o))

-- the objects of ranges are those of their entries
pub keys_of-placed : (n : ℕ) (es : List Entry) → keys_of (placed n es) ≡ objects_in es
keys_of-placed n [] = refl
keys_of-placed n (e ∷ es) = ap (λ (l : List ℕ). e.object ∷ l) (keys_of-placed n es)

same_span : (n a b : ℕ) → (n + b) - (n + a) ≡ b - a
same_span n a b = omega arith

-- ranges are as long as their entries
pub span-placed : (n : ℕ) (es : List Entry) → longest_span es ≡ longest_range (placed n es)
span-placed n [] = refl
span-placed n (e ∷ es) = rw (same_span n e.start e.end, span-placed n es) refl

-- ranges are as long as the values that stand there
pub longest-values : (s : List Scalar) (rs : List (ℕ × Segment)) → AreSegments (length s) rs → longest_range rs ≡ longest_in (map (values_in s) rs)
longest-values s [] h = refl
longest-values s (r ∷ rs) h =
    let P : ℕ × Segment → Type 0 = λ q. IsSegment (length s) q.1 in
    let here : IsSegment (length s) r.1 = All-head P r rs h in
    rw (length-range s r.1.start r.1.end here.0 here.1) (ap (max (r.1.end - r.1.start)) (longest-values s rs (All-tail P r rs h)))

-- the same, of the column at an index
pub longest-column : (s : List Scalar) (columns : List (List (ℕ × Segment))) (f : ℕ) → All (AreSegments (length s)) columns → longest_range (get_or columns f []) ≡ longest_in (get_or (maps_in s columns) f [])
longest-column s [] zero h = refl
longest-column s [] (suc f) h = refl
longest-column s (c ∷ cs) zero h = longest-values s c (All-head (AreSegments (length s)) c cs h)
longest-column s (c ∷ cs) (suc f) h = longest-column s cs f (All-tail (AreSegments (length s)) c cs h)

-- the objects of a column's map are those of its ranges
keys_of-values : (s : List Scalar) (rs : List (ℕ × Segment)) → keys_of (map (values_in s) rs) ≡ keys_of rs
keys_of-values s [] = refl
keys_of-values s (r ∷ rs) = ap (λ (l : List ℕ). r.0 ∷ l) (keys_of-values s rs)

pub keys_of-column : (s : List Scalar) (columns : List (List (ℕ × Segment))) (f : ℕ) → keys_of (get_or (maps_in s columns) f []) ≡ keys_of (get_or columns f [])
keys_of-column s [] zero = refl
keys_of-column s [] (suc f) = refl
keys_of-column s (c ∷ cs) zero = keys_of-values s c
keys_of-column s (c ∷ cs) (suc f) = keys_of-column s cs f

-- ---- the ranges of all columns

-- a range behind a list is the same range of what stands behind it
slice_range-behind : (xs ys : List Scalar) (start end : ℕ) → slice_range (xs ++ ys) (length xs + start) (length xs + end) ≡ slice_range ys start end
slice_range-behind [] ys start end =
    let s : 0 + start ≡ start = omega arith in
    let e : 0 + end ≡ end = omega arith in
    rw (s, e) refl
slice_range-behind (x ∷ xs) ys start end =
    let s : suc (length xs) + start ≡ suc (length xs + start) = omega arith in
    let e : suc (length xs) + end ≡ suc (length xs + end) = omega arith in
    let n : suc (length xs + end) - suc (length xs + start) ≡ (length xs + end) - (length xs + start) = omega arith in
    ap (λ (k : ℕ). slice_range ((x ∷ xs) ++ ys) k (suc (length xs) + end)) s ∙ ap (slice_range ((x ∷ xs) ++ ys) (suc (length xs + start))) e
    ∙ ap (λ (k : ℕ). take k (drop (length xs + start) (xs ++ ys))) n ∙ slice_range-behind xs ys start end

-- a column's values, in a list that they stand in, are those of its map
values-placed : (xs ys zs : List Scalar) (rs : List (ℕ × Segment)) → AreSegments (length ys) rs → map (values_in (xs ++ (ys ++ zs))) (map (shifted (length xs)) rs) ≡ map (values_in ys) rs
values-placed xs ys zs [] h = refl
values-placed xs ys zs (r ∷ rs) h =
    let P : ℕ × Segment → Type 0 = λ q. IsSegment (length ys) q.1 in
    let here : IsSegment (length ys) r.1 = All-head P r rs h in
    let same : slice_range (xs ++ (ys ++ zs)) (length xs + r.1.start) (length xs + r.1.end) ≡ slice_range ys r.1.start r.1.end =
    slice_range-behind xs (ys ++ zs) r.1.start r.1.end ∙ slice_range-more ys zs r.1.start r.1.end here.0 here.1 in
    rw (same, values-placed xs ys zs rs (All-tail P r rs h)) refl

-- its ranges lie within that list
ranges-placed : (n m k : ℕ) (rs : List (ℕ × Segment)) → n + m ≤ k → AreSegments m rs → AreSegments k (map (shifted n) rs)
ranges-placed n m k rs le h =
    let P : ℕ × Segment → Type 0 = λ q. IsSegment m q.1 in
    let Q : ℕ × Segment → Type 0 = λ q. IsSegment k (segment_behind n q.1) in
    All-map (λ q. IsSegment k q.1) (shifted n) rs (All-weaker P Q (λ q w. (omega (arith, w.0), omega (arith, w.1, le))) rs h)

next_behind : (xs ys zs ws : List Scalar) → (xs ++ ys) ++ (zs ++ ws) ≡ xs ++ ((ys ++ zs) ++ ws)
next_behind xs ys zs ws = append_assoc xs ys (zs ++ ws) ∙ ap (λ (l : List Scalar). xs ++ l) (sym (append_assoc ys zs ws))

-- the values of all columns, in a list that they stand in, are those of their maps
pub maps-placed : (xs zs : List Scalar) (cs : List Stored) (n : ℕ) → n ≡ length xs → All AreRangesWithin cs → maps_in (xs ++ (scalars_of cs ++ zs)) (ranges_from n cs) ≡ maps_of cs
maps-placed xs zs [] n is h = refl
maps-placed xs zs (c ∷ cs) n is h =
    let here : map (values_in (xs ++ ((c.scalars ++ scalars_of cs) ++ zs))) (map (shifted n) c.ranges) ≡ map (values_in c.scalars) c.ranges =
    rw (is, append_assoc c.scalars (scalars_of cs) zs) (values-placed xs c.scalars (scalars_of cs ++ zs) c.ranges (All-head AreRangesWithin c cs h)) in
    let count : n + length c.scalars ≡ length (xs ++ c.scalars) = omega (arith, is, length-append xs c.scalars) in
    let later : maps_in (xs ++ ((c.scalars ++ scalars_of cs) ++ zs)) (ranges_from (n + length c.scalars) cs) ≡ maps_of cs =
    subst (λ (l : List Scalar). maps_in l (ranges_from (n + length c.scalars) cs) ≡ maps_of cs) (next_behind xs c.scalars (scalars_of cs) zs)
    (maps-placed (xs ++ c.scalars) zs cs (n + length c.scalars) count (All-tail AreRangesWithin c cs h)) in
    rw (here, later) refl

-- and their ranges lie within it
pub within-placed : (xs zs : List Scalar) (cs : List Stored) (n : ℕ) → n ≡ length xs → All AreRangesWithin cs → All (AreSegments (length (xs ++ (scalars_of cs ++ zs)))) (ranges_from n cs)
within-placed xs zs [] n is h = All-nil (AreSegments (length (xs ++ zs)))
within-placed xs zs (c ∷ cs) n is h =
    let all : ℕ = length (xs ++ ((c.scalars ++ scalars_of cs) ++ zs)) in
    let long : n + length c.scalars ≤ all =
    omega (arith, is, length-append xs ((c.scalars ++ scalars_of cs) ++ zs), length-append (c.scalars ++ scalars_of cs) zs, length-append c.scalars (scalars_of cs)) in
    let count : n + length c.scalars ≡ length (xs ++ c.scalars) = omega (arith, is, length-append xs c.scalars) in
    let later : All (AreSegments all) (ranges_from (n + length c.scalars) cs) =
    subst (λ (l : List Scalar). All (AreSegments (length l)) (ranges_from (n + length c.scalars) cs)) (next_behind xs c.scalars (scalars_of cs) zs)
    (within-placed (xs ++ c.scalars) zs cs (n + length c.scalars) count (All-tail AreRangesWithin c cs h)) in
    All-cons (AreSegments all) (map (shifted n) c.ranges) (ranges_from (n + length c.scalars) cs) (ranges-placed n (length c.scalars) all c.ranges long (All-head AreRangesWithin c cs h)) later

-- how many values there are, with a column more
length-scalars_of : (cs : List Stored) (c : Stored) → length (scalars_of (cs ++ c ∷ [])) ≡ length (scalars_of cs) + length c.scalars
length-scalars_of [] c = ap length (append-nil c.scalars) ∙ omega arith
length-scalars_of (x ∷ cs) c = omega (arith, length-append x.scalars (scalars_of (cs ++ c ∷ [])), length-append x.scalars (scalars_of cs), length-scalars_of cs c)

-- the same, counted up to a number
pub count-more : (cs : List Stored) (i : ℕ) (c : Stored) (old here most new : ℕ) → i < length cs → c ≡ get_or cs i c → old ≡ min (length (scalars_of (take i cs))) most → here ≡ length c.scalars → new ≡ min (old + here) most
    → new ≡ min (length (scalars_of (take (i + 1) cs))) most
count-more cs i c old here most new lt is before counted sum =
    let grown : take (i + 1) cs ≡ take i cs ++ c ∷ [] = take_more cs i c lt ∙ ap (λ (x : Stored). take i cs ++ x ∷ []) (sym is) in
    omega (arith, before, counted, sum, ap (λ (l : List Stored). length (scalars_of l)) grown, length-scalars_of (take i cs) c)

-- ---- what is written and the opposite ends, moved one behind the other

module _ (none first all : List Scalar) (written ends : List Stored) (moved_first : first ≡ none ++ scalars_of written) (moved_all : all ≡ first ++ scalars_of ends) where
  in_all : all ≡ none ++ (scalars_of written ++ scalars_of ends)
  in_all = moved_all ∙ ap (λ (l : List Scalar). l ++ scalars_of ends) moved_first ∙ append_assoc none (scalars_of written) (scalars_of ends)

  nothing_behind : first ++ scalars_of ends ≡ first ++ (scalars_of ends ++ [])
  nothing_behind = simp (append-nil)

  pub written-maps : All AreRangesWithin written → maps_in all (ranges_from (length none) written) ≡ maps_of written
  written-maps h = rw in_all (maps-placed none (scalars_of ends) written (length none) refl h)

  pub written-within : All AreRangesWithin written → All (AreSegments (length all)) (ranges_from (length none) written)
  written-within h = rw in_all (within-placed none (scalars_of ends) written (length none) refl h)

  pub ends-maps : All AreRangesWithin ends → maps_in all (ranges_from (length first) ends) ≡ maps_of ends
  ends-maps h = rw (moved_all ∙ nothing_behind) (maps-placed first [] ends (length first) refl h)

  pub ends-within : All AreRangesWithin ends → All (AreSegments (length all)) (ranges_from (length first) ends)
  ends-within h = rw (moved_all ∙ nothing_behind) (within-placed first [] ends (length first) refl h)
