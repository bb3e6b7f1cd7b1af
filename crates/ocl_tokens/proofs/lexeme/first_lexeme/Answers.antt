use Rattle.std.proofs.Common.{List, ℕ, ◌∷◌, drop, take_all, subst, sym, ◌∙◌, arith, ap}
use Rattle.std.proofs.lemmas.List.{length-drop}
use Rattle.std.specs.List.{prefix_len}
use Rattle.ocl_tokens.specs.Lexical.{in_line}
use Rattle.ocl_tokens.specs.FirstLexeme.{EndsInAscii, number_lexeme}
use Rattle.ocl_tokens.proofs.Boundaries.{blank_ends, line_ends, word_ends, number_ends, comment_ends, string_ends, mark_ends}
use Rattle.ocl_tokens.proofs.lexeme.first_lexeme.Goals as goal

pub returns-then-is_white-clause-ends : goal.returns-then-is_white-clause-ends
returns-then-is_white-clause-ends c = blank_ends _ _ _ (sym c.as_bytes-bytes.ensures.value ∙ c.in-Some.ensures.cases.0) c.utf8.text (sym c.is_white.ensures ∙ c.if-is_white.true)

pub returns-then-starts_with-clause-ends : goal.returns-then-starts_with-clause-ends
returns-then-starts_with-clause-ends c = line_ends _ _ _ (sym c.as_bytes-bytes.ensures.value ∙ c.in-Some.ensures.cases.0) c.utf8.text _ (c.line_len.ensures.len ∙ ap (prefix_len in_line) c.as_bytes-bytes.ensures.value) c.if-first-eq45.true

pub returns-then-starts_with-2-clause-ends : goal.returns-then-starts_with-2-clause-ends
returns-then-starts_with-2-clause-ends c = comment_ends _ _ _ (sym c.as_bytes-bytes.ensures.value ∙ c.in-Some.ensures.cases.0) c.utf8.text _ c.if-first-eq47.true (sym c.starts_with-then-first-eq47.ensures ∙ c.if-starts_with-2.true) (subst (λ (l : List ℕ). EndsInAscii c.comment.result (47 ∷ 42 ∷ l)) (take_all _ (drop 1 c.in-Some.rest.now) (omega (arith, length-drop 1 c.in-Some.rest.now))) c.comment.ensures.ends)

pub returns-then-first-eq39-clause-ends : goal.returns-then-first-eq39-clause-ends
returns-then-first-eq39-clause-ends c = string_ends _ _ _ (sym c.as_bytes-bytes.ensures.value ∙ c.in-Some.ensures.cases.0) c.utf8.text _ c.if-first-eq39.true c.string.ensures.ends

pub returns-then-is_ascii_digit-clause-ends : goal.returns-then-is_ascii_digit-clause-ends
returns-then-is_ascii_digit-clause-ends c = number_ends _ _ _ (sym c.as_bytes-bytes.ensures.value ∙ c.in-Some.ensures.cases.0) c.utf8.text _ (c.number.ensures ∙ ap number_lexeme c.as_bytes-bytes.ensures.value) (sym c.is_ascii_digit.ensures.value ∙ c.if-is_ascii_digit.true)

pub returns-then-is_letter-clause-ends : goal.returns-then-is_letter-clause-ends
returns-then-is_letter-clause-ends c = word_ends _ _ _ (sym c.as_bytes-bytes.ensures.value ∙ c.in-Some.ensures.cases.0) c.utf8.text _ c.word.ensures (sym c.is_letter.ensures ∙ c.if-is_letter.true)

pub returns-else-is_letter-clause-ends : goal.returns-else-is_letter-clause-ends
returns-else-is_letter-clause-ends c = mark_ends _ _ _ (sym c.as_bytes-bytes.ensures.value ∙ c.in-Some.ensures.cases.0) c.utf8.text _ c.mark.ensures.ends
