use Rattle.std.proofs.Common.{rules, tests, ◌≡◌, ◌==◌, ℕ, List, true, map, length, refl}
use Rattle.std.proofs.lemmas.List.{length-map}
use Rattle.report_forms.specs.ReportRows.{word_at}
use Rattle.report_forms.specs.Findings.{Context, context_of, message_in}
use Rattle.report_forms.specs.HtmlForm.{html_rule, html_of_words}
use Rattle.report_forms.proofs.html.put_html_words.Goals as goal

-- what ten words give
rule_of : (c : Context) (words : List (List ℕ)) → (length words == 10) ≡ true
    → html_of_words c words ≡ html_rule (word_at words 1) (message_in c.messages (word_at words 1)) (word_at words 3) (word_at words 5) (word_at words 7) (word_at words 9)
rule_of c words is = rw is refl

pub returns-in-10 : goal.returns-in-10
returns-in-10 c =
    let words : List (List ℕ) = map (λ w. w.now) c.args.words.now in
    let ten : (length words == 10) ≡ true = rw (length-map c.args.words.now (λ w. w.now)) (search (rules, tests)) in
    rw (rule_of (context_of c.args.beside) words ten, ← c.word_at-name.ensures, ← c.word_at.ensures, ← c.word_at-in-10.ensures, ← c.word_at-in-10-2.ensures, ← c.word_at-in-10-3.ensures)
    c.put_rule.ensures
