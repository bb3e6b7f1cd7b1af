use Rattle.std.proofs.Common.{append_assoc}
use Rattle.report_forms.proofs.github.put_properties.Goals as goal

pub returns : goal.returns
returns c =
    rw (c.in_ok-extend_from_slice.ensures.items, c.in_ok-put-4.ensures, c.in_ok-put_number-2.ensures, c.in_ok-put-3.ensures, c.in_ok-put_number.ensures, c.in_ok-put-2.ensures, c.in_ok-put_property.ensures, c.as_bytes.ensures.value, c.in_ok-put.ensures)
    (simp append_assoc)
