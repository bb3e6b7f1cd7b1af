use Rattle.std.proofs.Common.{length, ap, subst}
use Rattle.rule_values.specs.Operations.{all_instances}
use Rattle.rule_slots.specs.Slots.{SlotIs}
use Rattle.rule_machine.specs.Shown.{lists_of}
use Rattle.rule_machine.proofs.instr.class_instances.Goals as goal

pub returns : goal.returns
returns c = λ pool.
    let p = c.args.task.population.now in
    subst (λ l. SlotIs l pool (length pool) c.all_instances.result (all_instances p.content c.args.class)) (ap (λ u. lists_of u p) c.unit.ensures) (c.all_instances.ensures pool)
