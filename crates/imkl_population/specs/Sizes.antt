-- The sizes of a population: how many objects each class has, and how long the values of unbounded attributes are.
use Rattle.std.specs.Prelude.{ℕ, zero, suc, ◌&&◌, Bool, List, [], ◌∷◌, ◌++◌, length, max, is_none, if◌then◌else◌}
use Rattle.imkl_model.specs.declared.feature.FeatureInfo.{FeatureInfo}
use Rattle.imkl_model.specs.ClassModel.{Model, feature_at}
use Rattle.imkl_population.specs.Population.{Population, values_of, instances}
use Rattle.imkl_model.specs.Features.{is_attribute}

-- a number for each class and for each feature of a class model
pub record Sizes : Type 0 where
  pub model : Model
  pub counts : List ℕ
  pub longest : List ℕ

-- what is given for each number below n, in order
abbrev pub list_below : (ℕ → ℕ) → ℕ → List ℕ
list_below g zero = []
list_below g (suc n) = list_below g n ++ g n ∷ []

-- the number of a class's instances, subclasses included
abbrev pub count_of : Population → ℕ → ℕ
count_of p c = length (instances p c)

-- the greatest number of values that one of the objects below n has at a feature, zero without objects
abbrev pub longest_below : Population → ℕ → ℕ → ℕ
longest_below p f zero = 0
longest_below p f (suc o) = max (longest_below p f o) (length (values_of p o f))

-- an attribute without upper bound
abbrev pub is_unbounded : FeatureInfo → Bool
is_unbounded i = is_attribute i.role && is_none i.upper

-- of an attribute without upper bound the greatest number of values that an object has there, of every other feature zero
abbrev pub longest_of : Population → ℕ → ℕ
longest_of p f = if is_unbounded (feature_at p.model f) then longest_below p f (length p.objects) else 0

abbrev pub sizes_of : Population → Sizes
sizes_of p = record { model = p.model; counts = list_below (count_of p) (length p.model.classes); longest = list_below (longest_of p) (length p.model.features) }
