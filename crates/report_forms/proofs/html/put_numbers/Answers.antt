use Rattle.report_forms.specs.HtmlForm.{html_cell}
use Rattle.report_forms.proofs.Regrouped.{pieces4}
use Rattle.report_forms.proofs.html.put_numbers.Goals as goal

pub returns : goal.returns
returns c =
    rw (c.in_ok-put_cell-4.ensures, c.in_ok-put_cell-3.ensures, c.in_ok-put_cell-2.ensures, c.in_ok-put_cell.ensures)
    (pieces4 c.args.out.now.items (html_cell c.args.counts.objects.now) (html_cell c.args.counts.holds.now) (html_cell c.args.counts.fails.now) (html_cell c.args.counts.undecided.now))
