use Rattle.std.proofs.Common.{codes}
use Rattle.report_forms.proofs.Regrouped.{pieces4}
use Rattle.report_forms.proofs.html.put_verdict.Goals as goal

pub returns : goal.returns
returns c =
    rw (c.in_ok-extend_from_slice-2.ensures.items, c.in_ok-put-2.ensures, c.in_ok-extend_from_slice.ensures.items, c.in_ok-put.ensures)
    (pieces4 c.args.out.now.items (codes "<tr><td class=\"") (c.args.verdict.now) (codes "\">") (c.args.verdict.now))
