use Rattle.std.proofs.Common.{◌≡◌, Some, length, ap, subst}
use Rattle.rule_values.specs.Operations.{value_read}
use Rattle.rule_slots.specs.Slots.{SlotIs}
use Rattle.rule_machine.specs.Shown.{lists_of}
use Rattle.rule_machine.proofs.instr.feature_read.Goals as goal

pub returns : goal.returns
returns c = λ pool x r.
    let p = c.args.task.population.now in
    subst (λ l. SlotIs l pool (length pool) c.args.v x → value_read p.content c.args.feature x ≡ Some r → SlotIs l pool (length pool) c.value_read.result r) (ap (λ u. lists_of u p) c.unit.ensures) (c.value_read.ensures pool x r)
