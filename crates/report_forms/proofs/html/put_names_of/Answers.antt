use Rattle.std.proofs.Common.{codes}
use Rattle.report_forms.proofs.Regrouped.{pieces6}
use Rattle.report_forms.proofs.html.put_names_of.Goals as goal

pub returns : goal.returns
returns c =
    rw (c.in_ok-put-4.ensures, c.in_ok-put-3.ensures, c.in_ok-extend_from_slice-2.ensures.items, c.in_ok-put-2.ensures, c.in_ok-extend_from_slice.ensures.items, c.in_ok-put.ensures)
    (pieces6 c.args.out.now.items (codes "<td>") (c.args.finding.rule.now) (codes "<td>") (c.args.finding.object.now) (codes "<td>") (c.args.finding.class.now))
