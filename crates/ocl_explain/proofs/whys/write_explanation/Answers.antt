use Rattle.std.proofs.Common.{ℕ, List, false, ap, ◌∙◌}
use Rattle.explain_notes.specs.Lines.{cut_text}
use Rattle.ocl_check.proofs.ForAbove.{ending_as}
use Rattle.ocl_explain.proofs.whys.write_explanation.Goals as goal

pub returns-in-Ok : goal.returns-in-Ok
returns-in-Ok g c =
    let shown = c.deref.ensures.value ∙ c.in-Ok.ensures ∙ ap (cut_text c.args.lines) c.as_bytes.ensures.value in
    ending_as (ap (λ (text : List ℕ). (text, 0)) shown) (c.write_answer.ensures false)
