use Rattle.ocl_check.specs.Judge.{budget_answer, judge_answer}
use Rattle.ocl_check.specs.JudgeText.{judge_text_answer}
use Rattle.ocl_check.proofs.Endings.{ending_as}
use Rattle.ocl_check.proofs.Given.{code_is_answered, text_is_answered}
use Rattle.ocl_check.proofs.Judging.{judged_code, judged_text}
use Rattle.ocl_check.proofs.commands.judge.judge_inputs.Goals as goal

pub returns-in-Code : goal.returns-in-Code
returns-in-Code g c =
    let model = c.args.model.now in
    let delivery = c.args.delivery.now in
    let code = c.args.rules.now in
    let budget = c.args.options.budget in (
      judge_answer budget model delivery code,
      judged_code c.args.options.form budget model delivery code c.in-Code.is,
      ending_as (code_is_answered (budget_answer budget) model delivery code) c.ask_inputs.ensures,
    )

pub returns-in-Text : goal.returns-in-Text
returns-in-Text g c =
    let model = c.args.model.now in
    let delivery = c.args.delivery.now in
    let h = c.ask_inputs-in-Text.ensures in
    let budget = c.args.options.budget in (
      judge_text_answer budget model delivery h.0,
      judged_text c.args.options.form budget model delivery c.args.rules.now h.0 c.in-Text.is h.1,
      ending_as (text_is_answered budget h.0 model delivery) h.2,
    )
