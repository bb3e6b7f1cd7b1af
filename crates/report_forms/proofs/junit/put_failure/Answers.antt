use Rattle.std.proofs.Common.{codes}
use Rattle.report_forms.specs.Escapes.{xml_text}
use Rattle.report_forms.specs.JunitForm.{junit_case}
use Rattle.report_forms.proofs.Regrouped.{pieces4}
use Rattle.report_forms.proofs.junit.put_failure.Goals as goal

pub returns : goal.returns
returns c =
    rw (c.in_ok-put-2.ensures, c.in_ok-put_xml.ensures, c.as_bytes.ensures.value, c.in_ok-put.ensures, c.in_ok-put_case.ensures)
    (pieces4 c.args.out.now.items (junit_case c.args.finding.rule.now) (codes "><failure message=\"") (xml_text c.args.finding.message.now) (codes "\">\n"))
