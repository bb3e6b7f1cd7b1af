-- Opposite ends as they are collected.
use Rattle.std.specs.Prelude.{◌≡◌, ℕ, ◌<◌, true, false, List, [], length, slice_index_or}
use Rattle.imkl_model.specs.declared.feature.Role.TheVariants.{OppositeEnd}
use Rattle.imkl_model.specs.ClassModel.{feature_at}
use Rattle.imkl_population.specs.declared.scalar.Scalar.{Scalar}
use Rattle.imkl_population.specs.Written.{written_in}
use Rattle.imkl_population.specs.Building.{as_objects}
use Rattle.imkl_population.specs.Population.{Population, values_of, opposite_end}
use Rattle.imkl_population.specs.Values.{is_over}
use Rattle.imkl_model.specs.Features.{is_opposite}

-- a column has the holders of each object in an association
abbrev pub AreHolders : Population → ℕ → List (ℕ × List Scalar) → Type 0
AreHolders p source column = (o : ℕ) → written_in column o ≡ as_objects (opposite_end p source o)

-- the columns below n have the holders of each object, where they are of opposite ends
abbrev pub AreEndsBelow : Population → ℕ → List (List (ℕ × List Scalar)) → Type 0
AreEndsBelow p n ends =
    (f source : ℕ) → f < n → (feature_at p.model f).role ≡ OppositeEnd source → AreHolders p source (slice_index_or ends f [])

-- for each opposite end its column
abbrev pub AreEnds : Population → List (List (ℕ × List Scalar)) → Type 0
AreEnds p ends = AreEndsBelow p (length p.model.features) ends

-- no object below n has too many holders at an opposite end
abbrev pub IsUncrowdedBelow : Population → ℕ → ℕ → Type 0
IsUncrowdedBelow p n f =
    (o : ℕ) → o < length p.objects → o < n → is_opposite (feature_at p.model f).role ≡ true
    → is_over (feature_at p.model f).upper (length (values_of p o f)) ≡ false
