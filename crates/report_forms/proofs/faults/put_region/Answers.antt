use Rattle.std.proofs.Common.{append_assoc}
use Rattle.report_forms.proofs.faults.put_region.Goals as goal

pub returns : goal.returns
returns c =
    rw (c.in-Some.is, c.in_ok-put-3.ensures, c.in_ok-put_number-2.ensures, c.in_ok-put-2.ensures, c.in_ok-put_number.ensures, c.in_ok-put.ensures)
    (simp append_assoc)
