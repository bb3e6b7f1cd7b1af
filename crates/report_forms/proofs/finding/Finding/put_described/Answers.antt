use Rattle.std.proofs.Common.{append_assoc}
use Rattle.report_forms.proofs.finding.Finding.put_described.Goals as goal

pub returns : goal.returns
returns c =
    rw (c.in_ok-put_message_part.ensures, c.in_ok-put-5.ensures, c.in_ok-put-4.ensures, c.in_ok-put-3.ensures, c.in_ok-extend_from_slice-3.ensures.items, c.in_ok-put-2.ensures, c.in_ok-extend_from_slice-2.ensures.items, c.in_ok-put.ensures, c.in_ok-extend_from_slice.ensures.items)
    (simp append_assoc)
