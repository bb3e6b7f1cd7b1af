use Rattle.std.proofs.Common.{◌≡◌}
use Rattle.imkl_population.proofs.store.Store.rank.Given as goal

abbrev pub invariant-loop-feature : goal.invariant-loop-feature
invariant-loop-feature l = record { same : l.self ≡ l.initial.self }
