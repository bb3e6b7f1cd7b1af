use Rattle.std.proofs.Common.{◌≡◌, ℕ, ◌<◌, ◌≤◌, get_or, bit_or, length}
use Rattle.imkl_model.proofs.row.merge.Given as goal

abbrev pub invariant-loop-i : goal.invariant-loop-i
invariant-loop-i l = record {
  same : length l.words.items ≡ length l.initial.words.items;
  joined : (k : ℕ) → k < l.i → get_or l.words.items k 0 ≡ bit_or (get_or l.initial.words.items k 0) (get_or l.more.items k 0);
  left : (k : ℕ) → l.i ≤ k → get_or l.words.items k 0 ≡ get_or l.initial.words.items k 0;
}
