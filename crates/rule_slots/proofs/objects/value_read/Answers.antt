use Rattle.std.proofs.Common.{length, sym, ◌∙◌, subst}
use Rattle.imkl_model.specs.ClassModel.{feature_at}
use Rattle.imkl_population.specs.Population.{values_of}
use Rattle.rule_values.specs.Operations.{feature_value}
use Rattle.rule_slots.specs.Slots.{lists_in, SlotIs}
use Rattle.rule_slots.proofs.Taken.{read_is}
use Rattle.rule_slots.proofs.objects.value_read.Goals as goal

pub returns : goal.returns
returns c = λ pool.
    let l = lists_in c.args.lists in
    let p = c.args.lists.population.now.content in
    let f = c.args.feature in
    read_is l p pool (length pool) f c.args.v c.feature_value.result (sym c.is_plain.ensures ∙ c.if-not-is_plain.false)
    (subst (λ o. SlotIs l pool (length pool) c.feature_value.result (feature_value (feature_at p.model f) (values_of p o f))) c.object.ensures (c.feature_value.ensures pool))
