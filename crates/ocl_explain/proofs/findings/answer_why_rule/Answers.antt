use Rattle.std.proofs.Common.{Some}
use Rattle.ocl_check.specs.declared.commands.judge.TheConstants.{MAX_BUDGET}
use Rattle.ocl_explain.proofs.Answering.{explained_answers}
use Rattle.ocl_explain.proofs.findings.answer_why_rule.Goals as goal

pub returns-clause-answered : goal.returns-clause-answered
returns-clause-answered g c =
    let asked = c.args.asked in
    let h = c.ask_inputs-outcome.ensures in
    let answers = explained_answers asked.model.bytes.now asked.delivery.bytes.now asked.rules.bytes.now h.0 h.1 h.2.0 h.2.1 MAX_BUDGET asked.shown (Some asked.rule.now) in
    (_, answers, rw c.ending.ensures h.2.2.answered)
