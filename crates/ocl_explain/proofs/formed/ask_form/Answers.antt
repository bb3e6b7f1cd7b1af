use Rattle.std.proofs.Common.{[], refl}
use Rattle.ocl_pipeline.specs.Asked.{code_with, text_with}
use Rattle.ocl_pipeline.specs.Steps.{inputs_in}
use Rattle.ocl_check.specs.Given.{given_answer}
use Rattle.ocl_explain.specs.FormedReport.{detailed_within, code_detailed_within}
use Rattle.ocl_explain.proofs.FormAnswers.{code_form, text_form, code_detailed, text_detailed}
use Rattle.ocl_explain.proofs.formed.ask_form.Goals as goal

pub returns-in-Code : goal.returns-in-Code
returns-in-Code g c =
    let asked = c.args.asked in
    let model = asked.model.bytes.now in
    let delivery = asked.delivery.bytes.now in
    let code = asked.rules.bytes.now in
    let told = code_detailed_within asked.options.budget asked.detail in
    let h = c.ask_inputs.ensures in (
      _,
      ([], h.0, given_answer told (code_with code (inputs_in model delivery)), code_detailed asked.options model delivery code asked.detail c.in-Code.is, code_form asked.form asked.delivery.path.now [] h.0 model delivery told code _ refl),
      h.1,
    )

pub returns-in-Text : goal.returns-in-Text
returns-in-Text g c =
    let asked = c.args.asked in
    let model = asked.model.bytes.now in
    let delivery = asked.delivery.bytes.now in
    let h = c.ask_inputs-in-Text.ensures in
    let told = detailed_within h.2.2 asked.options.budget asked.detail in (
      _,
      (h.2.0, h.2.1, given_answer told (text_with h.0 (inputs_in model delivery)), text_detailed asked.options model delivery asked.rules.bytes.now h.2.2 h.2.3 asked.detail h.0 c.in-Text.is h.1, text_form asked.form asked.delivery.path.now h.2.0 h.2.1 model delivery told h.0 _ refl),
      h.2.4,
    )
