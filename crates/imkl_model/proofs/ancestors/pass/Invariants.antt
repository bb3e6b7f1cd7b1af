use Rattle.std.proofs.Common.{◌≡◌, ℕ, ◌<◌, ◌≤◌, ◌&&◌, ◌||◌, length, get_or, []}
use Rattle.imkl_model.specs.Tables.{mark_at, has_mark, IsSquare}
use Rattle.imkl_model.proofs.ancestors.pass.Given as goal

abbrev pub invariant-loop-i : goal.invariant-loop-i
invariant-loop-i l = record {
  square : IsSquare (length l.initial.rows.items) l.rows.items;
  joined : (i j : ℕ) → i < l.i → mark_at l.rows.items i j ≡ (mark_at l.initial.rows.items i j || (mark_at l.initial.rows.items i l.k && has_mark l.middle j));
  left : (i : ℕ) → l.i ≤ i → get_or l.rows.items i [] ≡ get_or l.initial.rows.items i [];
}
