use Rattle.std.proofs.Common.{append_assoc}
use Rattle.report_forms.proofs.finding.Finding.put_placed.Goals as goal

pub returns : goal.returns
returns c =
    rw (c.in_ok-put-5.ensures, c.in_ok-put_described.ensures, c.in_ok-put-4.ensures, c.in_ok-put_number-2.ensures, c.in_ok-put-3.ensures, c.in_ok-put_number.ensures, c.in_ok-put-2.ensures, c.in_ok-put.ensures)
    (simp append_assoc)
