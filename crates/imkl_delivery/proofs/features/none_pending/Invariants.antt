use Rattle.std.proofs.Common.{◌≡◌, ℕ, None, get_or, length}
use Rattle.imkl_delivery.proofs.features.none_pending.Given as goal

abbrev pub invariant-loop : goal.invariant-loop
invariant-loop l = record {
  so_long : length l.pending.items ≡ l.counter;
  empty : (f : ℕ) → get_or l.pending.items f None ≡ None;
}
