use Rattle.std.proofs.Common.{codes}
use Rattle.report_forms.specs.declared.faults.FaultPart.TheVariants as part
use Rattle.report_forms.specs.declared.html.TheConstants.{FINDINGS, END}
use Rattle.report_forms.specs.FaultForms.{faults_by}
use Rattle.report_forms.specs.HtmlForm.{html_begin}
use Rattle.report_forms.proofs.Regrouped.{pieces6}
use Rattle.report_forms.proofs.html.html_refusal.Goals as goal

pub returns : goal.returns
returns c =
    rw (c.in_ok-put-4.ensures, c.in_ok-extend_from_slice-2.ensures.items, c.deref.ensures.value, c.in_ok-faults.ensures, c.in_ok-put-3.ensures, c.in_ok-put-2.ensures, c.in_ok-extend_from_slice.ensures.items, c.in_ok-put.ensures, c.in_ok-put_begin.ensures, c.new-out.ensures.items)
    (pieces6 (html_begin c.args.path.now) (codes "<tr class=\"total\"><td>") (c.args.line.now) (codes "\n") (FINDINGS.now) (faults_by part.Html c.args.faults.now) (END.now))
