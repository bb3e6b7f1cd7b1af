use Rattle.std.proofs.Common.{◌≡◌, unwrap_or, subst, sym, arith}
use Rattle.std.proofs.lemmas.Grind.{text_groups}
use Rattle.std.specs.BTreeMap.{get_by_text}
use Rattle.imkl_model.specs.Held.{Group, IsGroup, no_group}
use Rattle.imkl_model.proofs.Named.{next_group}
use Rattle.imkl_model.proofs.feature_table.groups_of.Goals as goal

pub loop-number-preserved : goal.loop-number-preserved
loop-number-preserved c = λ q.
    let f = c.index-features-number.result in
    let here : c.or_insert-group.result.now ≡ unwrap_or (get_by_text c.loop-number.groups f.name) no_group = grind (arith, text_groups) in
    next_group c.args.features.now c.loop-number.number f c.loop-number-test.true c.index-features-number.is q c.or_insert-group.result.now c.push.new.self _ _
    (subst (λ (g : Group). IsGroup c.args.features.now c.loop-number.number f.name g) (sym here) (c.loop-number.invariant f.name)) (c.loop-number.invariant q)
    (rw c.new-place.ensures at c.in_ok-push.ensures.numbers) (rw c.new-place.ensures at c.in_ok-push.ensures.own) (grind (arith, text_groups))
