use Rattle.std.proofs.Common.{codes}
use Rattle.report_forms.specs.Escapes.{json_text}
use Rattle.report_forms.proofs.Regrouped.{pieces3}
use Rattle.report_forms.proofs.sarif.put_description.Goals as goal

pub returns : goal.returns
returns c =
    rw (c.in_ok-put-2.ensures, c.in_ok-put_json.ensures, c.as_bytes.ensures.value, c.in_ok-put.ensures)
    (pieces3 c.args.out.now.items (codes ",\"shortDescription\":{\"text\":\"") (json_text c.args.message.now) (codes "\"}"))
