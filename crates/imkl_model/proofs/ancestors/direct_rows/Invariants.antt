use Rattle.std.proofs.Common.{◌≡◌, ℕ, ◌<◌, length, get_or, []}
use Rattle.imkl_model.specs.Tables.{mark_at}
use Rattle.imkl_model.specs.Chains.{is_super}
use Rattle.imkl_model.specs.ClassModel.{supers_in}
use Rattle.imkl_model.proofs.ancestors.direct_rows.Given as goal

abbrev pub invariant-loop-class : goal.invariant-loop-class
invariant-loop-class l = record {
  so_long : length l.rows.items ≡ l.class-index;
  square : (i : ℕ) → i < l.class-index → length (get_or l.rows.items i []) ≡ length l.classes;
  steps : (i j : ℕ) → i < l.class-index → mark_at l.rows.items i j ≡ is_super (supers_in l.classes) i j;
}
