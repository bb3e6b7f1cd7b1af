use Rattle.std.proofs.Common.{◌≡◌, ℕ, get_or}
use Rattle.imkl_population.specs.Answered.{nothing_asked}
use Rattle.imkl_population.proofs.answers.no_answers.Given as goal

abbrev pub invariant-loop : goal.invariant-loop
invariant-loop l = (c : ℕ) → get_or l.answers.items c nothing_asked ≡ nothing_asked
