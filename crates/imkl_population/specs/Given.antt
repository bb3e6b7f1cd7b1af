-- Values that are put at a feature.
use Rattle.std.specs.Prelude.{List, [], ◌∷◌}
use Rattle.imkl_population.specs.declared.scalar.Scalar.{Scalar}
use Rattle.imkl_population.specs.declared.given.GivenValues.{GivenValues}
use Rattle.imkl_population.specs.declared.given.GivenValues.TheVariants.{One, Many}

-- one value, or those of a list
abbrev pub given_values : GivenValues → List Scalar
given_values (One value) = value ∷ []
given_values (Many values) = values.items
