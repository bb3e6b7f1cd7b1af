use Rattle.std.proofs.Common.{codes}
use Rattle.report_forms.specs.Escapes.{xml_text}
use Rattle.report_forms.proofs.Regrouped.{pieces3}
use Rattle.report_forms.proofs.junit.put_begin.Goals as goal

pub returns : goal.returns
returns c =
    rw (c.in_ok-put-2.ensures, c.in_ok-put_xml.ensures, c.as_bytes.ensures.value, c.in_ok-put.ensures)
    (pieces3 c.args.out.now.items (codes "<?xml version=\"1.0\" encoding=\"UTF-8\"?>\n<testsuites>\n<testsuite name=\"") (xml_text c.args.path.now) (codes "\">\n"))
