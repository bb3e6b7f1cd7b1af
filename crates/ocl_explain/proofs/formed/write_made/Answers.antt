use Rattle.std.proofs.Common.{ℕ, List, true, ap, ◌∙◌}
use Rattle.ocl_check.proofs.ForAbove.{ending_as}
use Rattle.ocl_explain.proofs.formed.write_made.Goals as goal

pub returns-in-Ok : goal.returns-in-Ok
returns-in-Ok g c = λ text made.
    let is = rw c.in-Ok.is at made in
    ending_as (ap (λ (bytes : List ℕ). (bytes, c.args.status)) (c.deref.ensures.value ∙ is)) (c.write_answer.ensures true)
