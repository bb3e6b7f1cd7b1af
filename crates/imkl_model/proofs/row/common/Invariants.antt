use Rattle.std.proofs.Common.{◌≡◌, ◌<◌, ◌-◌, ◌&&◌, ℕ, false}
use Rattle.imkl_model.specs.Tables.{is_marked}
use Rattle.imkl_model.proofs.row.common.Given as goal

abbrev pub invariant-loop-number : goal.invariant-loop-number
invariant-loop-number l = (j : ℕ) → j < l.number → (is_marked l.words j && is_marked l.others j) ≡ false

abbrev pub decreases-loop-number : goal.decreases-loop-number
decreases-loop-number l = l.count - l.number
