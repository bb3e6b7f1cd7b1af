use Rattle.std.proofs.Common.{None}
use Rattle.ocl_explain.proofs.Answering.{explained_answers}
use Rattle.ocl_explain.proofs.findings.answer_judge_why.Goals as goal

pub returns-clause-answered : goal.returns-clause-answered
returns-clause-answered g c =
    let h = c.ask_inputs-outcome.ensures in
    let answers = explained_answers c.args.model.bytes.now c.args.delivery.bytes.now c.args.rules.bytes.now h.0 h.1 h.2.0 h.2.1 c.args.budget c.args.shown None in
    (_, answers, rw c.ending.ensures h.2.2.answered)
