use Rattle.std.proofs.lemmas.Bool.{both_ways}
use Rattle.std.proofs.Common.{sym, subst}
use Rattle.rule_machine.specs.Applied.{CanTakeOne, GivesOfOne}
use Rattle.rule_machine.specs.Shown.{setting_in, task_lists}
use Rattle.rule_machine.proofs.Performs.{can_one, can_two, of_one, of_two, two_are, two_there}
use Rattle.rule_machine.proofs.instr.on_operands.Goals as goal

pub apply_one-requires-clause-can : goal.apply_one-requires-clause-can
apply_one-requires-clause-can c =
    let s = setting_in c.args.task in
    let l = task_lists c.args.task in
    subst (λ p. CanTakeOne s l p c.args.instr c.topmost.result.now) (sym c.deref.ensures.value) (can_one s l c.args.pool.now.items c.requires.can.0 c.args.operands.now.0 c.args.instr c.topmost.result.now c.topmost.ensures.0 c.topmost.ensures.1 c.requires.can.1)

pub below-requires : goal.below-requires
below-requires c =
    two_there (setting_in c.args.task) (task_lists c.args.task) c.args.pool.now.items c.requires.can.0 c.args.operands.now.0 c.args.instr (λ t. both_ways c.takes_one.result c.if-takes_one.false (c.takes_one.ensures.1 t)) c.requires.takes c.requires.can.1

pub apply_two-requires-clause-can : goal.apply_two-requires-clause-can
apply_two-requires-clause-can c =
    let two = two_are c.args.operands.now.0 _ _ _ c.topmost-else-takes_one.ensures.1 c.below.ensures in
    can_two (setting_in c.args.task) (task_lists c.args.task) c.args.pool.now.items c.requires.can.0 c.args.operands.now.0 c.args.instr c.below.result.now c.topmost-else-takes_one.result.now two.0 two.1 c.requires.can.1

pub returns-then-takes_one-clause-gives : goal.returns-then-takes_one-clause-gives
returns-then-takes_one-clause-gives c = λ vars.
    let s = setting_in c.args.task in
    let l = task_lists c.args.task in
    of_one s l c.args.pool.now.items vars c.args.operands.now.0 c.args.instr c.topmost.result.now c.apply_one.result c.topmost.ensures.0 c.topmost.ensures.1 (subst (λ p. GivesOfOne s l p c.args.instr c.topmost.result.now c.apply_one.result) c.deref.ensures.value c.apply_one.ensures)

pub returns-else-takes_one-clause-gives : goal.returns-else-takes_one-clause-gives
returns-else-takes_one-clause-gives c = λ vars.
    let two = two_are c.args.operands.now.0 _ _ _ c.topmost-else-takes_one.ensures.1 c.below.ensures in
    of_two (setting_in c.args.task) (task_lists c.args.task) c.args.pool.now.items vars c.args.operands.now.0 c.args.instr c.below.result.now c.topmost-else-takes_one.result.now c.apply_two.result two.0 two.1 c.apply_two.ensures.gives
