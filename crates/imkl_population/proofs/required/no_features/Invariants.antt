use Rattle.std.proofs.Common.{◌≡◌, ℕ, [], get_or, length}
use Rattle.imkl_population.proofs.required.no_features.Given as goal

abbrev pub invariant-loop : goal.invariant-loop
invariant-loop l = record {
  so_long : length l.lists.items ≡ l.counter;
  empty : (c : ℕ) → get_or l.lists.items c [] ≡ [];
}
