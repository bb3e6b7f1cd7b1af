use Rattle.desk_script.proofs.Cuts.{line_and_more, last_line}
use Rattle.desk_script.proofs.script.first_line.Goals as goal

pub returns-in-Some-clause-lines : goal.returns-in-Some-clause-lines
returns-in-Some-clause-lines c = line_and_more c.args.text.now c.cut_at.result.0.now c.in-Some.below.now (rw c.in-Some.is at c.cut_at.ensures.parts)

pub returns-in-None-clause-lines : goal.returns-in-None-clause-lines
returns-in-None-clause-lines c =
    last_line c.args.text.now c.cut_at.result.0.now c.requires (rw c.in-None.is at c.cut_at.ensures.parts) (rw c.in-None.is at c.cut_at.ensures.whole)
