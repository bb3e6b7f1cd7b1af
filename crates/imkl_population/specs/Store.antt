-- Values by feature: for each feature a column, which is one list of values and for each of its objects a range.
use Rattle.std.specs.Prelude.{◌≡◌, ℕ, zero, suc, ◌+◌, ◌-◌, ◌^◌, ◌<◌, ◌≤◌, List, [], ◌∷◌, ◌++◌, Option, Some, None, map, length, max, slice_range, slice_index_or, All}
use Rattle.std.specs.Map.{lookup}
use Rattle.std.specs.BTreeMap.{is_at}
use Rattle.std.specs.Ordering.{nat_cmp, match_ordering}
use Rattle.std.specs.List.Sorted.{IsStrictlySortedBy}
use Rattle.imkl_population.specs.declared.scalar.Scalar.{Scalar}
use Rattle.imkl_population.specs.declared.entries.Entry.{Entry}
use Rattle.imkl_population.specs.declared.store.Segment.{Segment}
use Rattle.imkl_population.specs.Population.{pairs_of}

-- ---- a column

-- an entry's object with its values
abbrev pub entry_of : List Scalar → Entry → ℕ × List Scalar
entry_of scalars e = (e.object, slice_range scalars e.start e.end)

-- the objects of entries, in their order
abbrev pub objects_in : List Entry → List ℕ
objects_in entries = map (λ e. e.object) entries

abbrev pub IsEntry : ℕ → Entry → Type 0
IsEntry n e = (e.start ≤ e.end) × (e.end ≤ n)

-- each entry lies within the values, and the objects ascend
pub record IsLaidOut (scalars : List Scalar) (entries : List Entry) : Type 0 where
  pub within : All (IsEntry (length scalars)) entries
  pub ascend : IsStrictlySortedBy nat_cmp (objects_in entries)

-- an entry at its place, in the place of the one of the same object
abbrev pub put_entry : List Entry → Entry → List Entry
put_entry [] x = x ∷ []
put_entry (e ∷ es) x = match_ordering (nat_cmp x.object e.object) (x ∷ e ∷ es) (x ∷ es) (e ∷ put_entry es x)

-- the values, and for each object that has some the range of its own
pub record Stored : Type 0 where
  pub scalars : List Scalar
  pub ranges : List (ℕ × Segment)

-- an entry's object with its range
abbrev pub range_of : Entry → ℕ × Segment
range_of e = (e.object, record { start = e.start; end = e.end })

-- an object with the values of its range
abbrev pub values_in : List Scalar → (ℕ × Segment) → ℕ × List Scalar
values_in scalars r = (r.0, slice_range scalars r.1.start r.1.end)

-- a column as a finite map from objects to values
abbrev pub map_of : Stored → List (ℕ × List Scalar)
map_of c = map (values_in c.scalars) c.ranges

abbrev pub IsSegment : ℕ → Segment → Type 0
IsSegment n s = (s.start ≤ s.end) × (s.end ≤ n)

-- each range lies within n values
abbrev pub AreSegments : ℕ → List (ℕ × Segment) → Type 0
AreSegments n ranges = All (λ r. IsSegment n r.1) ranges

abbrev pub AreRangesWithin : Stored → Type 0
AreRangesWithin c = AreSegments (length c.scalars) c.ranges

-- how many values stand at ranges: the sum of their lengths
abbrev pub standing : List (ℕ × Segment) → ℕ
standing [] = 0
standing (r ∷ rs) = (r.1.end - r.1.start) + standing rs

-- a column has as many values as stand at its ranges: no replaced ones
abbrev pub AllStand : Stored → Type 0
AllStand c = length c.scalars ≡ standing c.ranges

-- ---- all columns

abbrev pub maps_of : List Stored → List (List (ℕ × List Scalar))
maps_of cs = map map_of cs

-- the column of a feature: nothing where there is none
abbrev pub column_at : List Stored → ℕ → List (ℕ × List Scalar)
column_at cs f = slice_index_or (maps_of cs) f []

-- what the column of the feature f has for an object
abbrev pub cell : {A : Type 0} → ℕ → Option A → List (ℕ × A)
cell f None = []
cell f (Some a) = (f, a) ∷ []

-- what columns have for an object, by their features; the first is the column of the feature f
abbrev pub row_from : {A : Type 0} → ℕ → List (List (ℕ × A)) → ℕ → List (ℕ × A)
row_from f [] o = []
row_from f (c ∷ cs) o = cell f (lookup (is_at (nat_cmp o)) c) ++ row_from (suc f) cs o

abbrev pub object_row : {A : Type 0} → List (List (ℕ × A)) → ℕ → List (ℕ × A)
object_row cs o = row_from 0 cs o

-- what they have for each object below n
abbrev pub rows : {A : Type 0} → List (List (ℕ × A)) → ℕ → List (List (ℕ × A))
rows cs zero = []
rows cs (suc n) = rows cs n ++ object_row cs n ∷ []

-- the greatest number of values of an object in a column
abbrev pub longest_in : List (ℕ × List Scalar) → ℕ
longest_in [] = 0
longest_in (e ∷ es) = max (length e.1) (longest_in es)

-- the pairs of a column that is a source end
abbrev pub pairs_in : List (ℕ × List Scalar) → List (ℕ × ℕ)
pairs_in [] = []
pairs_in (e ∷ es) = pairs_of e.0 e.1 ++ pairs_in es

-- ---- all columns in one list

-- all values, column by column
abbrev pub scalars_of : List Stored → List Scalar
scalars_of [] = []
scalars_of (c ∷ cs) = c.scalars ++ scalars_of cs

-- a range in a list that n values stand before
abbrev pub segment_behind : ℕ → Segment → Segment
segment_behind n s = record { start = n + s.start; end = n + s.end }

abbrev pub shifted : ℕ → (ℕ × Segment) → ℕ × Segment
shifted n r = (r.0, segment_behind n r.1)

-- the ranges of each column in all values, where n values stand before them
abbrev pub ranges_from : ℕ → List Stored → List (List (ℕ × Segment))
ranges_from n [] = []
ranges_from n (c ∷ cs) = map (shifted n) c.ranges ∷ ranges_from (n + length c.scalars) cs

-- columns as finite maps from objects to the values that stand at their ranges in a list
abbrev pub maps_in : List Scalar → List (List (ℕ × Segment)) → List (List (ℕ × List Scalar))
maps_in scalars columns = map (λ ranges. map (values_in scalars) ranges) columns

-- an entry whose range, where n values stand before it, has places of 64 bits
abbrev pub IsPlaced : ℕ → Entry → Type 0
IsPlaced n e = (e.start ≤ e.end) × (n + e.end < 2 ^ 64)

-- each entry has such a range, and the objects ascend
pub record ArePlaced (n : ℕ) (entries : List Entry) : Type 0 where
  pub placed : All (IsPlaced n) entries
  pub ascend : IsStrictlySortedBy nat_cmp (objects_in entries)

-- the greatest number of values of an object in a column, by their ranges
abbrev pub longest_range : List (ℕ × Segment) → ℕ
longest_range [] = 0
longest_range (r ∷ rs) = max (r.1.end - r.1.start) (longest_range rs)
