use Rattle.std.proofs.Common.{codes}
use Rattle.report_forms.proofs.Regrouped.{pieces2}
use Rattle.report_forms.proofs.html.put_cell.Goals as goal

pub returns : goal.returns
returns c =
    rw (c.in_ok-extend_from_slice.ensures.items, c.in_ok-put.ensures)
    (pieces2 c.args.out.now.items (codes "<td class=\"number\">") (c.args.number.now))
