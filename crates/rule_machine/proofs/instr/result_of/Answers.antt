use Rattle.std.proofs.Common.{[], refl, subst}
use Rattle.rule_code.specs.declared.instruction.Instr.TheVariants as instrs
use Rattle.rule_verify.specs.declared.pattern.Pattern.TheVariants.{CollectionOf}
use Rattle.rule_verify.specs.InstrKinds.{scalar_meant}
use Rattle.rule_values.specs.Operations.{as_set}
use Rattle.rule_slots.specs.Operands.{MadeInPool, is_elements_operand}
use Rattle.rule_machine.specs.Machine.{judged_by}
use Rattle.rule_machine.specs.Shown.{setting_in, task_lists}
use Rattle.rule_machine.proofs.Operands.{covers_meant, elements_what, first_what}
use Rattle.rule_machine.proofs.Performs.{of_one_made}
use Rattle.rule_machine.proofs.instr.result_of.Goals as goal

pub returns-in_ok-made-in-AsSet-clause-gives : goal.returns-in_ok-made-in-AsSet-clause-gives
returns-in_ok-made-in-AsSet-clause-gives c =
    let s = setting_in c.args.task in
    let l = task_lists c.args.task in
    let n = s.population in
    let p = c.args.pool.now.items in
    let q = c.as_set.new.pool.items in
    let x = c.topmost-in-AsSet.result.now in
    let o = c.in_ok-made-in-AsSet.made in
    let k = scalar_meant (judged_by s) c.in-AsSet.kind in
    let test = is_elements_operand n k in
    let made = subst (λ z. MadeInPool z p q test as_set x o) c.lists.ensures (c.in_ok-made-in-AsSet.ensures.made n k (covers_meant (judged_by s) c.in-AsSet.kind)) in
    rw c.in-AsSet.is (of_one_made s l p q c.args.variables.now.0 c.args.operands.now.0 (instrs.AsSet c.in-AsSet.kind) test as_set x o c.topmost-in-AsSet.ensures.0 c.topmost-in-AsSet.ensures.1 (λ vars v more. refl) (λ v more a. elements_what n k v (first_what n (CollectionOf k) [] v more a)) made)
