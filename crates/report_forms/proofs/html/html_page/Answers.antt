use Rattle.report_forms.specs.declared.html.TheConstants.{FINDINGS, END}
use Rattle.report_forms.specs.HtmlForm.{html_begin}
use Rattle.report_forms.proofs.Regrouped.{pieces4}
use Rattle.report_forms.proofs.html.html_page.Goals as goal

pub returns : goal.returns
returns c =
    rw (c.in_ok-put-2.ensures, c.in_ok-extend_from_slice-2.ensures.items, c.in_ok-put.ensures, c.in_ok-extend_from_slice.ensures.items, c.in_ok-put_begin.ensures, c.new-out.ensures.items)
    (pieces4 (html_begin c.args.path.now) (c.args.rules.now) (FINDINGS.now) (c.args.findings.now) (END.now))
