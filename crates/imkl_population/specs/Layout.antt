-- How a population lies in memory, while it is built and when it is finished.
use Rattle.std.specs.Prelude.{◌≡◌, ℕ, ◌<◌, ◌≤◌, List, [], ◌∷◌, Option, length, drop, slice_range, slice_index_or, All}
use Rattle.imkl_model.specs.ClassModel.{Model}
use Rattle.imkl_population.specs.declared.scalar.Scalar.{Scalar}
use Rattle.imkl_population.specs.declared.object.Object.{Object}
use Rattle.imkl_population.specs.declared.object.Head.{Head}
use Rattle.imkl_population.specs.declared.store.Segment.{Segment}
use Rattle.imkl_population.specs.Population.{Population, instances}
use Rattle.imkl_population.specs.Consistency.{IsConsistent}
use Rattle.imkl_population.specs.Draft.{IsDraft}
use Rattle.imkl_population.specs.Ends.{AreEnds}
use Rattle.imkl_population.specs.Store.{AreSegments, maps_in, object_row, rows}
use Rattle.imkl_population.specs.FinishedPopulation.{FinishedPopulation, no_segment}

abbrev pub first_map : List (List (ℕ × List Scalar)) → List (ℕ × List Scalar)
first_map [] = []
first_map (w ∷ ws) = w

-- the objects: each id and class with its map
abbrev pub objects_of : List Head → List (List (ℕ × List Scalar)) → List Object
objects_of [] ws = []
objects_of (h ∷ hs) ws = record { id = h.id; class = h.class; written = first_map ws } ∷ objects_of hs (drop 1 ws)

-- the population of these objects, with what the columns have for each
abbrev pub stored_content : Model → List Head → List (List (ℕ × List Scalar)) → Population
stored_content m hs maps = record { model = m; objects = objects_of hs (rows maps (length hs)) }

-- a builder's: the columns have nothing for objects that aren't there
pub record IsInMaking (m : Model) (hs : List Head) (maps : List (List (ℕ × List Scalar))) (ids : List ℕ → Option ℕ) : Type 0 where
  pub draft : IsDraft (stored_content m hs maps) ids
  pub idle : (o : ℕ) → length hs ≤ o → object_row maps o ≡ []

-- a finished one: all values in one list, and the ranges of each column of what is written and of each of the opposite ends
abbrev pub finished_of : Model → List Head → List Scalar → List (List (ℕ × Segment)) → List (List (ℕ × Segment)) → List ℕ → List Segment → FinishedPopulation
finished_of m hs scalars written ends all ranges = record {
  content = stored_content m hs (maps_in scalars written);
  scalars = scalars;
  written_ranges = rows written (length hs);
  end_ranges = rows ends (length hs);
  instance_list = all;
  instance_ranges = ranges;
}

-- the instances of each class below n are the range of their list that the class has
abbrev pub AreInstances : Population → List ℕ → List Segment → ℕ → Type 0
AreInstances p all ranges n =
    (c : ℕ) → c < n
    → ((slice_index_or ranges c no_segment).start ≤ (slice_index_or ranges c no_segment).end)
    × ((slice_index_or ranges c no_segment).end ≤ length all)
    × (slice_range all (slice_index_or ranges c no_segment).start (slice_index_or ranges c no_segment).end ≡ instances p c)

-- the columns have nothing for objects that aren't there; all ranges lie within the values; the columns of the opposite ends,
-- and the instances of each class
pub record IsFinished (p : Population) (scalars : List Scalar) (written ends : List (List (ℕ × Segment))) (all : List ℕ) (ranges : List Segment) : Type 0 where
  pub consistent : IsConsistent p
  pub idle : (o : ℕ) → length p.objects ≤ o → object_row (maps_in scalars written) o ≡ []
  pub written_within : All (AreSegments (length scalars)) written
  pub ends_within : All (AreSegments (length scalars)) ends
  pub derived : AreEnds p (maps_in scalars ends)
  pub classes : length ranges ≡ length p.model.classes
  pub instances_are : AreInstances p all ranges (length p.model.classes)
