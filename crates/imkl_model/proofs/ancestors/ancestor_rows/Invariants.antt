use Rattle.std.proofs.Common.{◌≡◌, ℕ, ◌<◌, length}
use Rattle.imkl_model.specs.Tables.{mark_at, IsSquare}
use Rattle.imkl_model.specs.Chains.{via}
use Rattle.imkl_model.specs.ClassModel.{supers_in}
use Rattle.imkl_model.proofs.ancestors.ancestor_rows.Given as goal

abbrev pub invariant-loop-k : goal.invariant-loop-k
invariant-loop-k l = record {
  square : IsSquare (length l.classes) l.rows.items;
  as_long : length l.middle ≡ length l.classes;
  via : (i j : ℕ) → i < length l.classes → mark_at l.rows.items i j ≡ via (supers_in l.classes) l.k i j;
}
