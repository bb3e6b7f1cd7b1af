use Rattle.std.proofs.Common.{append_assoc}
use Rattle.report_forms.proofs.github.put_annotation.Goals as goal

pub returns : goal.returns
returns c =
    rw (c.in_ok-put-4.ensures, c.in_ok-put_message.ensures, c.deref.ensures.value, c.in_ok-text.ensures, c.in_ok-put-3.ensures, c.in_ok-put_properties.ensures, c.in_ok-put-2.ensures, c.annotation_level.ensures, c.in_ok-put.ensures)
    (simp append_assoc)
