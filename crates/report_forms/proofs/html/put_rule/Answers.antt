use Rattle.std.proofs.Common.{codes}
use Rattle.report_forms.specs.Findings.{message_in}
use Rattle.report_forms.specs.HtmlForm.{html_names, html_numbers, html_bar}
use Rattle.report_forms.proofs.Regrouped.{pieces4}
use Rattle.report_forms.proofs.html.put_rule.Goals as goal

pub returns : goal.returns
returns c =
    rw (c.in_ok-put.ensures, c.in_ok-put_bar.ensures, c.in_ok-put_numbers.ensures, c.in_ok-put_names.ensures, c.message_of.ensures)
    (pieces4 c.args.out.now.items (html_names c.args.name.now (message_in c.args.beside.messages.now c.args.name.now)) (html_numbers c.args.counts.objects.now c.args.counts.holds.now c.args.counts.fails.now c.args.counts.undecided.now) (html_bar c.args.counts.holds.now c.args.counts.fails.now c.args.counts.undecided.now) (codes "\n"))
