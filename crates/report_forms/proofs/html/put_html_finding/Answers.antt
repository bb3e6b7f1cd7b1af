use Rattle.std.proofs.Common.{codes}
use Rattle.report_forms.specs.Escapes.{xml_text}
use Rattle.report_forms.specs.HtmlForm.{html_verdict, html_names_of, html_place}
use Rattle.report_forms.specs.Findings.{finding_view}
use Rattle.report_forms.proofs.Regrouped.{pieces6}
use Rattle.report_forms.proofs.html.put_html_finding.Goals as goal

pub returns : goal.returns
returns c =
    rw (c.in_ok-put-2.ensures, c.in_ok-put_xml.ensures, c.as_bytes.ensures.value, c.in_ok-put.ensures, c.in_ok-put_place.ensures, c.in_ok-put_names_of.ensures, c.in_ok-put_verdict.ensures)
    (pieces6 c.args.out.now.items (html_verdict c.args.finding.verdict.now) (html_names_of (finding_view c.args.finding)) (html_place (finding_view c.args.finding)) (codes "<td>") (xml_text c.args.finding.message.now) (codes "\n"))
