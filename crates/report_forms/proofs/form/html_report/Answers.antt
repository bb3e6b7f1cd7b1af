use Rattle.report_forms.proofs.form.html_report.Goals as goal

pub returns : goal.returns
returns c = rw (← c.in_ok-rules.ensures, ← c.in_ok-findings.ensures, ← c.deref.ensures.value, ← c.deref-2.ensures.value) c.html_page.ensures
