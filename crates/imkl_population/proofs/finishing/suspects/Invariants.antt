use Rattle.std.proofs.Common.{◌≡◌, ◌<◌, ℕ, true, length, All}
use Rattle.imkl_population.specs.Required.{is_one_of}
use Rattle.imkl_population.proofs.finishing.suspects.Given as goal

abbrev pub invariant-loop-feature : goal.invariant-loop-feature
invariant-loop-feature l = record {
  known : All (λ f. f < length l.builder.model.features) l.features.items;
  all : (f : ℕ) → f < l.feature → is_one_of l.features.items f ≡ true;
}
