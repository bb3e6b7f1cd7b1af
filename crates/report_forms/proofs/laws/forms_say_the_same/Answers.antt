use Rattle.report_forms.proofs.Reported.{report_text, report_rows}
use Rattle.report_forms.proofs.laws.forms_say_the_same.Goals as goal

pub returns : goal.returns
returns c = record { report = report_text; rows = report_rows }
