use Rattle.std.proofs.Common.{[]}
use Rattle.ocl_explain.specs.FormedReport.{detailed_within, formed_given}
use Rattle.ocl_explain.proofs.FormAnswers.{form_due}
use Rattle.ocl_explain.proofs.formed.FormedReportTextAsker.stop.Goals as goal

pub returns : goal.returns
returns g c = λ given fails.
    let f = c.args.self.now in
    let w = c.each_text_is_read.ensures f.report.rules.now in
    let answer = detailed_within w.0 f.report.budget f.report.detail in
    let h = c.end_stopped.ensures in (
      [],
      h.0,
      w.0,
      w.1,
      h.1 (formed_given f.form f.delivery.path.now f.delivery.bytes.now [] h.0 (λ x. x.0) answer given)
          (form_due f.form f.delivery.path.now f.delivery.bytes.now [] h.0 c.args.why given (λ x. x.0) answer fails),
    )
