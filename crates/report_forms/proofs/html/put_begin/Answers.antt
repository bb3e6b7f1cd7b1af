use Rattle.report_forms.specs.Escapes.{xml_text}
use Rattle.report_forms.specs.declared.html.TheConstants.{BEGIN, HEADING, RULES}
use Rattle.report_forms.proofs.Regrouped.{pieces5}
use Rattle.report_forms.proofs.html.put_begin.Goals as goal

pub returns : goal.returns
returns c =
    rw (c.in_ok-put-3.ensures, c.in_ok-put_xml-2.ensures, c.as_bytes-2.ensures.value, c.in_ok-put-2.ensures, c.in_ok-put_xml.ensures, c.as_bytes.ensures.value, c.in_ok-put.ensures)
    (pieces5 c.args.out.now.items (BEGIN.now) (xml_text c.args.path.now) (HEADING.now) (xml_text c.args.path.now) (RULES.now))
