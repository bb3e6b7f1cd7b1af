use Rattle.std.proofs.Common.{◌≡◌, ℕ, ◌<◌, false}
use Rattle.imkl_model.specs.Tables.{mark_at}
use Rattle.imkl_model.proofs.ancestors.reaches_itself.Given as goal

abbrev pub invariant-loop-class : goal.invariant-loop-class
invariant-loop-class l = (c : ℕ) → c < l.class → mark_at l.rows c c ≡ false
