use Rattle.std.proofs.Common.{codes}
use Rattle.report_forms.specs.HtmlForm.{html_share}
use Rattle.report_forms.proofs.Regrouped.{pieces5}
use Rattle.report_forms.proofs.html.put_bar.Goals as goal

pub returns : goal.returns
returns c =
    rw (c.in_ok-put-2.ensures, c.in_ok-put_share-3.ensures, c.in_ok-put_share-2.ensures, c.in_ok-put_share.ensures, c.in_ok-put.ensures)
    (pieces5 c.args.out.now.items (codes "<td><div class=\"bar\">") (html_share (codes "holds") c.args.counts.holds.now) (html_share (codes "fails") c.args.counts.fails.now) (html_share (codes "undecided") c.args.counts.undecided.now) (codes "</div>"))
