use Rattle.std.proofs.Common.{codes}
use Rattle.report_forms.specs.HtmlForm.{html_cell}
use Rattle.report_forms.proofs.Regrouped.{pieces4}
use Rattle.report_forms.proofs.html.put_total.Goals as goal

pub returns : goal.returns
returns c =
    rw (c.in_ok-put-2.ensures, c.in_ok-put_cell-2.ensures, c.in_ok-put_cell.ensures, c.in_ok-put.ensures)
    (pieces4 c.args.out.now.items (codes "<tr class=\"total\"><td>total<td><td><td>") (html_cell c.args.fails.now) (html_cell c.args.undecided.now) (codes "<td>\n"))
