use Rattle.report_forms.specs.Forms.{form_of_report}
use Rattle.ocl_explain.specs.FormedReport.{context_in}
use Rattle.ocl_explain.proofs.formed.FormedReport.write_report.Goals as goal

pub returns : goal.returns
returns g c =
    let self = c.args.self.now in
    let beside = context_in self.delivery.path.now self.delivery.bytes.now c.args.messages.now c.args.population.now.content in
    c.write_made.ensures (form_of_report self.form beside c.args.text.now) c.formed_report-made.ensures
