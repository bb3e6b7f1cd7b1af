use Rattle.std.proofs.Common.{◌≡◌, ℕ, [], length}
use Rattle.imkl_population.specs.Instances.{list_of}
use Rattle.imkl_population.proofs.instances.no_objects.Given as goal

abbrev pub invariant-loop : goal.invariant-loop
invariant-loop l = record {
  so_long : length l.lists.items ≡ l.counter;
  empty : (c : ℕ) → list_of l.lists.items c ≡ [];
}
