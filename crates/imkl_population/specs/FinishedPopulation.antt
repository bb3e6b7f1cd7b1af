-- What is seen of a finished population: its content, and the two lists that its values and instances are parts of.
use Rattle.std.specs.Prelude.{◌≡◌, ℕ, ◌<◌, ◌≤◌, List, [], length, slice_range, slice_index_or, unwrap_or, if◌then◌else◌}
use Rattle.std.specs.Map.{lookup}
use Rattle.std.specs.Ordering.{nat_cmp}
use Rattle.std.specs.BTreeMap.{is_at}
use Rattle.imkl_model.specs.ClassModel.{feature_at}
use Rattle.imkl_model.specs.Features.{is_opposite}
use Rattle.imkl_population.specs.declared.scalar.Scalar.{Scalar}
use Rattle.imkl_population.specs.declared.store.Segment.{Segment}
use Rattle.imkl_population.specs.Population.{Population, values_of, instances}

-- The content, all values, all instances, and the ranges in these: for each object that of each feature written on it and
-- that of each of its opposite ends, and for each class that of its instances.
pub record FinishedPopulation : Type 0 where
  pub content : Population
  pub scalars : List Scalar
  pub written_ranges : List (List (ℕ × Segment))
  pub end_ranges : List (List (ℕ × Segment))
  pub instance_list : List ℕ
  pub instance_ranges : List Segment

abbrev pub no_segment : Segment
no_segment = record { start = 0; end = 0 }

-- the range of a feature among ranges by feature: none where it has no values
abbrev pub range_in : List (ℕ × Segment) → ℕ → Segment
range_in ranges f = unwrap_or (lookup (is_at (nat_cmp f)) ranges) no_segment

-- the range of a feature of an object in the list of values
abbrev pub range_at : FinishedPopulation → ℕ → ℕ → Segment
range_at p o f =
    if is_opposite (feature_at p.content.model f).role
    then range_in (slice_index_or p.end_ranges o []) f
    else range_in (slice_index_or p.written_ranges o []) f

-- the range of a class in the list of instances
abbrev pub instance_range_at : FinishedPopulation → ℕ → Segment
instance_range_at p c = slice_index_or p.instance_ranges c no_segment

-- a range lies within a list, and a part of the list stands there
pub record IsPart {X : Type 0} (xs : List X) (range : Segment) (part : List X) : Type 0 where
  pub ordered : range.start ≤ range.end
  pub within : range.end ≤ length xs
  pub picked : slice_range xs range.start range.end ≡ part

-- the values of each feature of each object stand in the list of values at its range
abbrev pub AreValueRanges : FinishedPopulation → Type 0
AreValueRanges p = (o f : ℕ) → o < length p.content.objects → IsPart p.scalars (range_at p o f) (values_of p.content o f)

-- the instances of each class stand in the list of instances at its range
abbrev pub AreInstanceRanges : FinishedPopulation → Type 0
AreInstanceRanges p = (c : ℕ) → c < length p.content.model.classes → IsPart p.instance_list (instance_range_at p c) (instances p.content c)
