use Rattle.desk_script.proofs.Cuts.{parts_there, parts_nowhere}
use Rattle.desk_script.proofs.line.cut_at.Goals as goal

pub returns-in-Some-clause-parts : goal.returns-in-Some-clause-parts
returns-in-Some-clause-parts c = parts_there c.args.mark c.args.text.now c.in-Some.at c.in-Some.ensures

pub returns-in-None-clause-parts : goal.returns-in-None-clause-parts
returns-in-None-clause-parts c = parts_nowhere c.args.mark c.args.text.now c.in-None.ensures
