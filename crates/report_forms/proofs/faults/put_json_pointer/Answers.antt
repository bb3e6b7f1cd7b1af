use Rattle.std.proofs.Common.{append_assoc}
use Rattle.report_forms.proofs.faults.put_json_pointer.Goals as goal

pub returns : goal.returns
returns c =
    rw (c.in-Some.is, c.in_ok-put-2.ensures, c.in_ok-put_json.ensures, c.as_bytes.ensures.value, c.in_ok-put.ensures)
    (simp append_assoc)
