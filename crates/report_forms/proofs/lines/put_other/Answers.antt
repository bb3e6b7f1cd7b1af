use Rattle.report_forms.proofs.lines.put_other.Goals as goal

pub returns-in-HtmlRules : goal.returns-in-HtmlRules
returns-in-HtmlRules c = rw (c.in-HtmlRules.is, ← c.requires) c.put_html_words.ensures
