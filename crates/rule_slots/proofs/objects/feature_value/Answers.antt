use Rattle.std.proofs.Common.{length, get_or, sym, ap, ◌∙◌}
use Rattle.imkl_model.specs.ClassModel.{feature_at}
use Rattle.imkl_model.specs.Features.{is_single}
use Rattle.imkl_population.specs.Population.{values_of}
use Rattle.rule_slots.specs.Slots.{lists_in, scalar_slot}
use Rattle.rule_slots.proofs.Stood.{scalars_range, first_scalar, feature_many, feature_one}
use Rattle.rule_slots.proofs.objects.feature_value.Goals as goal

pub returns-then-not-is_single : goal.returns-then-not-is_single
returns-then-not-is_single c = λ pool.
    let l = lists_in c.args.lists in
    let p = c.args.lists.population.now.content in
    let f = c.args.feature in
    let info = feature_at p.model f in
    let vs = values_of p c.args.object f in
    let range = c.range-start in
    let many = ap (λ i. is_single i.upper) (sym (c.feature_info.ensures ∙ ap (λ m. feature_at m f) c.model.ensures)) ∙ sym c.is_single.ensures ∙ c.if-not-is_single.true in
    feature_many l pool (length pool) c.part_slot.result info vs many
    (scalars_range l pool (length pool) info.kind c.part_slot.result range.result.0 range.result.1 vs c.part_slot.ensures range.ensures.ordered range.ensures.within range.ensures.values)

pub returns-then-start-end : goal.returns-then-start-end
returns-then-start-end c = λ pool.
    let l = lists_in c.args.lists in
    let p = c.args.lists.population.now.content in
    let f = c.args.feature in
    let info = feature_at p.model f in
    let vs = values_of p c.args.object f in
    let range = c.range-start in
    let one = ap (λ i. is_single i.upper) (sym (c.feature_info.ensures ∙ ap (λ m. feature_at m f) c.model.ensures)) ∙ sym c.is_single.ensures ∙ c.if-not-is_single.false in
    let d = c.index-scalars-start.result in
    feature_one l pool (length pool) c.scalar_slot.result info vs one
    (first_scalar l pool (length pool) c.scalar_slot.result range.result.0 range.result.1 d vs
    (c.scalar_slot.ensures ∙ ap (scalar_slot range.result.0) (c.index-scalars-start.is ∙ ap (λ xs. get_or xs range.result.0 d) c.scalars.ensures)) c.if-start-end.true range.ensures.within range.ensures.values)
