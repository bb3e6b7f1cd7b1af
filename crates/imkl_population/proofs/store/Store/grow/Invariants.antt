use Rattle.std.proofs.Common.{◌≡◌, ◌≤◌, ℕ, length}
use Rattle.imkl_population.specs.Store.{maps_of, object_row}
use Rattle.imkl_population.proofs.store.Store.grow.Given as goal

abbrev pub invariant-loop : goal.invariant-loop
invariant-loop l = record {
  long : l.counter ≤ length l.self;
  same : (o : ℕ) → object_row (maps_of l.self) o ≡ object_row (maps_of l.initial.self) o;
}
