use Rattle.std.proofs.Common.{List, is_some, sym, ap, ◌∙◌, subst}
use Rattle.rule_verify.specs.declared.named.Named.{Named}
use Rattle.ocl_compile.specs.Numbering.{Numbering, once_more, same_named}
use Rattle.ocl_compile.specs.NumberWalk.{FitsUnit}
use Rattle.ocl_compile.proofs.Added.{once_there, once_new, none_more}
use Rattle.ocl_compile.proofs.numbers.Numbers.add_alone.Goals as goal

-- src/numbers.rt
pub returns-then-is_some : goal.returns-then-is_some
returns-then-is_some c =
    let old = c.self.inside in
    let symbol = c.args.symbol in
    let there = ap is_some (sym c.number_of.ensures) ∙ sym c.is_some.ensures ∙ c.if-is_some.true in
    sym c.self.view_is
    ∙ ap (λ (xs : List Named). record { texts = old.texts; symbols = xs }) (sym (once_there same_named old.symbols symbol there))
    ∙ ap (λ (n : Numbering). record { texts = n.texts; symbols = once_more same_named n.symbols symbol }) c.self.view_is

pub returns-then-len-eq-MAX_COUNTED : goal.returns-then-len-eq-MAX_COUNTED
returns-then-len-eq-MAX_COUNTED c = λ fits.
    let symbol = c.args.symbol in
    let new = ap is_some (sym c.number_of.ensures) ∙ sym c.is_some.ensures ∙ c.if-is_some.false in
    let inside = subst (λ (n : Numbering). FitsUnit (record { texts = n.texts; symbols = once_more same_named n.symbols symbol })) (sym c.self.view_is) fits in
    none_more same_named c.self.inside.symbols symbol new (sym c.len.ensures ∙ c.if-len-eq-MAX_COUNTED.true) inside.0.1

pub returns : goal.returns
returns c =
    let old = c.self.inside in
    let symbol = c.args.symbol in
    let new = ap is_some (sym c.number_of.ensures) ∙ sym c.is_some.ensures ∙ c.if-is_some.false in
    ap (λ (xs : List Named). record { texts = old.texts; symbols = xs }) (c.in_ok-push.ensures.ok ∙ sym (once_new same_named old.symbols symbol new))
    ∙ ap (λ (n : Numbering). record { texts = n.texts; symbols = once_more same_named n.symbols symbol }) c.self.view_is
