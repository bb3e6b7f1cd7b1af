use Rattle.ocl_explain.proofs.Answering.{why_answers}
use Rattle.ocl_explain.proofs.whys.answer_why.Goals as goal

pub returns-clause-answered : goal.returns-clause-answered
returns-clause-answered g c =
    let asked = c.args.asked in
    let h = c.ask_inputs-outcome.ensures in
    let answers = why_answers asked.model.bytes.now asked.delivery.bytes.now asked.rules.bytes.now h.0 h.1 h.2.0 h.2.1 asked.rule.now asked.id.now asked.lines in
    (_, answers, rw c.ending.ensures h.2.2.answered)
