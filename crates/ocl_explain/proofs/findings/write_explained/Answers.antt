use Rattle.std.proofs.Common.{ℕ, List, true, ap, ◌∙◌}
use Rattle.ocl_check.proofs.ForAbove.{ending_as}
use Rattle.ocl_explain.proofs.findings.write_explained.Goals as goal

pub returns-in-Ok : goal.returns-in-Ok
returns-in-Ok g c = ending_as (ap (λ (text : List ℕ). (text, c.args.status)) (c.deref.ensures.value ∙ c.in-Ok.ensures)) (c.write_answer.ensures true)
