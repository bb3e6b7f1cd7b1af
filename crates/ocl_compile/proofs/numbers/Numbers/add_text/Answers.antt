use Rattle.std.proofs.Common.{◌≡◌, ℕ, true, List, is_some, sym, ap, ◌∙◌, subst, bytes_eq, length, true≢false}
use Rattle.std.specs.List.{list_any}
use Rattle.std.proofs.lemmas.Bool.{lt-ltb, or_right}
use Rattle.ocl_compile.specs.Numbering.{Numbering, once_more}
use Rattle.ocl_compile.specs.NumberWalk.{FitsUnit}
use Rattle.ocl_compile.specs.Compiling.{is_long_text}
use Rattle.ocl_compile.proofs.Added.{once_there, once_new, none_more, once_any}
use Rattle.ocl_compile.proofs.numbers.Numbers.add_text.Goals as goal

-- src/numbers.rt
pub returns-then-text-gt-MAX_TEXT_BYTES : goal.returns-then-text-gt-MAX_TEXT_BYTES
returns-then-text-gt-MAX_TEXT_BYTES c = λ fits.
    let old = c.args.self.now.texts in
    let text = c.args.text.now in
    let long : is_long_text text ≡ true = lt-ltb 4096 (length text) c.if-text-gt-MAX_TEXT_BYTES.true in
    true≢false (sym (once_any is_long_text old text ∙ or_right (list_any is_long_text old) (is_long_text text) long) ∙ fits.1)

pub returns-then-is_some : goal.returns-then-is_some
returns-then-is_some c =
    let old = c.self.inside in
    let text = c.args.text.now in
    let there = ap is_some (sym c.number_of.ensures) ∙ sym c.is_some.ensures ∙ c.if-is_some.true in
    sym c.self.view_is
    ∙ ap (λ (ts : List (List ℕ)). record { texts = ts; symbols = old.symbols }) (sym (once_there bytes_eq old.texts text there))
    ∙ ap (λ (n : Numbering). record { texts = once_more bytes_eq n.texts text; symbols = n.symbols }) c.self.view_is

pub returns-then-len-eq-MAX_COUNTED : goal.returns-then-len-eq-MAX_COUNTED
returns-then-len-eq-MAX_COUNTED c = λ fits.
    let text = c.args.text.now in
    let new = ap is_some (sym c.number_of.ensures) ∙ sym c.is_some.ensures ∙ c.if-is_some.false in
    let inside = subst (λ (n : Numbering). FitsUnit (record { texts = once_more bytes_eq n.texts text; symbols = n.symbols })) (sym c.self.view_is) fits in
    none_more bytes_eq c.self.inside.texts text new (sym c.len.ensures ∙ c.if-len-eq-MAX_COUNTED.true) inside.0.0

pub invariant_of-self : goal.invariant_of-self
invariant_of-self c =
    subst (λ (ts : List (List ℕ)). FitsUnit (record { texts = ts; symbols = c.self.inside.symbols })) (sym c.in_err-push.ensures.err) c.self.invariant

pub returns : goal.returns
returns c =
    let old = c.self.inside in
    let text = c.args.text.now in
    let new = ap is_some (sym c.number_of.ensures) ∙ sym c.is_some.ensures ∙ c.if-is_some.false in
    ap (λ (ts : List (List ℕ)). record { texts = ts; symbols = old.symbols }) (c.in_ok-push.ensures.ok ∙ sym (once_new bytes_eq old.texts text new))
    ∙ ap (λ (n : Numbering). record { texts = once_more bytes_eq n.texts text; symbols = n.symbols }) c.self.view_is
