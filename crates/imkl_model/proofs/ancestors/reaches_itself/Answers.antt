use Rattle.std.proofs.Common.{◌≡◌, ◌∙◌, [], Bool, List, length, ap, sym, arith, true}
use Rattle.std.proofs.lemmas.List.{get_or_read}
use Rattle.imkl_model.specs.Tables.{mark_at, has_mark}
use Rattle.imkl_model.proofs.Below.{any_found, any_none}
use Rattle.imkl_model.proofs.ancestors.reaches_itself.Goals as goal

pub returns-then-has : goal.returns-then-has
returns-then-has c =
    let rows = c.args.rows.now in
    let i = c.loop-class.class in
    let row = get_or_read rows i c.index-rows-class.result c.loop-class-test.true c.index-rows-class.is [] in
    let marked : mark_at rows i i ≡ true = ap (λ (r : List Bool). has_mark r i) (sym row) ∙ sym c.has.ensures ∙ c.if-has.true in
    sym (any_found (λ k. mark_at rows k k) (length rows) i c.loop-class-test.true marked)

pub returns : goal.returns
returns c =
    let rows = c.args.rows.now in
    sym (any_none (λ k. mark_at rows k k) (length rows) (λ k lt. c.loop-class.invariant k (omega (arith, lt, c.loop-class-test.false))))
