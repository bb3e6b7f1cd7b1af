use Rattle.std.proofs.Common.{append_assoc}
use Rattle.report_forms.proofs.json.json_refusal.Goals as goal

pub returns : goal.returns
returns c =
    rw (c.in_ok-put-3.ensures, c.in_ok-extend_from_slice-2.ensures.items, c.without_first.ensures, c.deref.ensures.value, c.in_ok-faults.ensures, c.in_ok-put-2.ensures, c.in_ok-extend_from_slice.ensures.items, c.without_refused.ensures, c.in_ok-put.ensures, c.new-out.ensures.items)
    (simp append_assoc)
