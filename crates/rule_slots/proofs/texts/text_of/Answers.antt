use Rattle.std.proofs.Common.{◌≤◌, ◌+◌, sym, ap, ◌∙◌, subst, arith}
use Rattle.std.specs.Prelude.{slice_range}
use Rattle.std.specs.Str.{IsCharBoundary}
use Rattle.rule_slots.specs.Slots.{lists_in}
use Rattle.rule_slots.proofs.Characters.{text_stands, chars_cut}
use Rattle.rule_slots.proofs.texts.text_of.Goals as goal

pub returns-in_default-clause-text : goal.returns-in_default-clause-text
returns-in_default-clause-text c = λ t h.
    let whole = c.whole_text-whole.result.now in
    let there = text_stands (lists_in c.args.lists) c.args.slot t whole h c.whole_text-whole.ensures c.whole_text-whole.utf8 in
    absurd (c.in_default.ensures (omega (arith, there.within)))

pub returns-in-Some-get-clause-text : goal.returns-in-Some-get-clause-text
returns-in-Some-get-clause-text c = λ t h.
    let s = c.args.slot in
    let whole = c.whole_text-whole.result.now in
    let there = text_stands (lists_in c.args.lists) s t whole h c.whole_text-whole.ensures c.whole_text-whole.utf8 in
    chars_cut whole c.in-Some-get.text.now s.start (s.start + s.count) t there (c.in-Some-get.ensures.cases.0 ∙ ap (slice_range whole s.start) c.in-Some.ensures.1)

pub returns-in-None-clause-text : goal.returns-in-None-clause-text
returns-in-None-clause-text c = λ t h.
    let s = c.args.slot in
    let whole = c.whole_text-whole.result.now in
    let there = text_stands (lists_in c.args.lists) s t whole h c.whole_text-whole.ensures c.whole_text-whole.utf8 in
    let order : s.start ≤ c.in-Some.end = omega (arith, c.in-Some.ensures.1) in
    absurd (c.in-None.ensures.cases order there.begins (subst (IsCharBoundary whole) (sym c.in-Some.ensures.1) there.ends))
