use Rattle.std.proofs.Common.{◌≡◌, length, sym, ap, ◌∙◌, arith}
use Rattle.std.specs.List.{list_all}
use Rattle.std.proofs.lemmas.List.{nil_from_length}
use Rattle.std.proofs.lemmas.List.Sorted.{IsPermutation-refl}
use Rattle.ocl_base.specs.Lists.{is_among}
use Rattle.rule_slots.specs.Slots.{lists_in, held_slots}
use Rattle.rule_slots.specs.Compared.{same_slots}
use Rattle.rule_slots.specs.Comparer.{admits}
use Rattle.rule_slots.proofs.Copies.{still_held}
use Rattle.rule_slots.proofs.Empties.{none_inside}
use Rattle.rule_slots.proofs.Loops.{held_long}
use Rattle.rule_slots.proofs.Moved.{admitted_moved}
use Rattle.rule_slots.proofs.searching.are_among.Goals as goal

pub returns-then-source-eq0-clause-told : goal.returns-then-source-eq0-clause-told
returns-then-source-eq0-clause-told c =
    let l = lists_in c.args.lists in
    let same = same_slots l c.args.kind in
    let pool = c.args.pool.now.items in
    let q = c.args.quantifier in
    let source = held_slots l pool c.args.source in
    let others = held_slots l pool c.args.others in
    let none : length source ≡ 0 = omega (arith, held_long l pool c.args.source c.requires.source, c.if-source-eq0.true) in
    c.admits.ensures ∙ sym (ap (λ z. list_all (λ x. admits q (is_among same z x)) others) (nil_from_length source none) ∙ none_inside q same others (λ e. omega (arith, e, held_long l pool c.args.others c.requires.others, c.if-others-eq0.false)))

pub returns-clause-told : goal.returns-clause-told
returns-clause-told c =
    let l = lists_in c.args.lists in
    let same = same_slots l c.args.kind in
    let q = c.args.quantifier in
    let old = c.args.pool.now.items in
    let new = c.searchable-search.new.pool.items in
    let copy = c.searchable-search.result.0 in
    let made = c.searchable-search.ensures.copy in
    let source = held_slots l old c.args.source in
    let others = held_slots l old c.args.others in
    let kept = still_held l old c.args.source new copy made c.args.others c.requires.others in
    c.are_searched-all.ensures ∙ ap (λ p. list_all (λ x. admits q (is_among same (held_slots l p copy) x)) (held_slots l p c.args.others)) c.deref.ensures.value
    ∙ ap (list_all (λ x. admits q (is_among same (held_slots l new copy) x))) (sym kept)
    ∙ sym (admitted_moved same q source (held_slots l new copy) others others made.moved (IsPermutation-refl others))
