use Rattle.std.proofs.Common.{append_assoc}
use Rattle.report_forms.proofs.faults.put_sarif_fault.Goals as goal

pub returns : goal.returns
returns c =
    rw (c.in_ok-put-4.ensures, c.in_ok-put_region.ensures, c.in_ok-put-3.ensures, c.in_ok-put_uri.ensures, c.as_bytes-2.ensures.value, c.in_ok-put-2.ensures, c.in_ok-put_json.ensures, c.as_bytes.ensures.value, c.in_ok-put.ensures)
    (simp append_assoc)
