use Rattle.report_forms.specs.Forms.{form_of_refusal}
use Rattle.ocl_explain.proofs.formed.FormedReport.write_line.Goals as goal

pub returns : goal.returns
returns g c =
    let self = c.args.self.now in
    c.write_made.ensures (form_of_refusal self.form self.delivery.path.now c.args.faults.now c.args.text.now) c.form_of_refusal-made.ensures
