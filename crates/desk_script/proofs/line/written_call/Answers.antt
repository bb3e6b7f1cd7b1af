use Rattle.std.proofs.Common.{sym, ◌∙◌}
use Rattle.desk_script.proofs.Cuts.{more_parts, four_words}
use Rattle.desk_script.proofs.line.written_call.Goals as goal

pub returns-then-is_some : goal.returns-then-is_some
returns-then-is_some c =
    four_words c.args.line.now c.cut_at.result.0.now c.cut_at-2.result.0.now c.cut_at-3.result.0.now c.in-Some.rest.now c.in-Some-rest.rest.now _
    (rw c.in-Some.is at c.cut_at.ensures.parts) (rw c.in-Some-rest.is at c.cut_at-2.ensures.parts) c.cut_at-3.ensures.parts
    (more_parts 32 c.cut_at-3.result.1 (sym c.is_some.ensures ∙ c.if-is_some.true))
