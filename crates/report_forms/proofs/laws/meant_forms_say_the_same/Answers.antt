use Rattle.report_forms.proofs.Reported.{meant_text, meant_rows}
use Rattle.report_forms.proofs.laws.meant_forms_say_the_same.Goals as goal

pub returns : goal.returns
returns c = record { report = meant_text; rows = meant_rows }
