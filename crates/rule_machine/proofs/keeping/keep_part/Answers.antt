use Rattle.std.proofs.Common.{length, sym, ◌∙◌, arith}
use Rattle.std.proofs.lemmas.Result.{IfOk-weaker}
use Rattle.rule_slots.specs.Slots.{home_named}
use Rattle.rule_slots.specs.Slots.{lists_in}
use Rattle.rule_slots.proofs.ForAbove.{part_long}
use Rattle.rule_machine.proofs.keeping.keep_part.Goals as goal

pub returns-in-Scalars-clause-count : goal.returns-in-Scalars-clause-count
returns-in-Scalars-clause-count c =
    let a = c.args in
    let long = part_long (home_named a.value.list) (lists_in a.lists) a.pool.now.items (length a.pool.now.items) a.value.start a.value.count (omega arith) c.requires.there in
    IfOk-weaker c.keep_scalars.result _ _ (λ n h. h ∙ sym long) c.keep_scalars.ensures.count

pub returns-in-Instances-clause-count : goal.returns-in-Instances-clause-count
returns-in-Instances-clause-count c =
    let a = c.args in
    let long = part_long (home_named a.value.list) (lists_in a.lists) a.pool.now.items (length a.pool.now.items) a.value.start a.value.count (omega arith) c.requires.there in
    IfOk-weaker c.keep_instances.result _ _ (λ n h. h ∙ sym long) c.keep_instances.ensures.count
