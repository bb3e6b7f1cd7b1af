use Rattle.std.proofs.Common.{◌≤◌, ◌∷◌, [], length, refl, sym, ap, ◌∙◌, subst, arith}
use Rattle.std.specs.Prelude.{IsSome}
use Rattle.std.specs.Str.{chars}
use Rattle.std.proofs.lemmas.Option.{same_Some}
use Rattle.imkl_population.specs.declared.scalar.Scalar.TheVariants as scalar
use Rattle.rule_code.specs.Content.{text_at}
use Rattle.rule_code.specs.declared.instruction.Instr.TheVariants as instrs
use Rattle.rule_verify.specs.Patterns.{an_integer, a_string}
use Rattle.ocl_base.specs.Lists.{variable_at}
use Rattle.rule_values.specs.Value as value
use Rattle.rule_values.specs.Operations.{substring}
use Rattle.rule_slots.specs.Slots.{SlotIs}
use Rattle.rule_slots.proofs.ForAbove.{text_operand, number_operand}
use Rattle.rule_machine.specs.StandFor.{CanPerform}
use Rattle.rule_machine.specs.Shown.{setting_in, task_lists}
use Rattle.rule_machine.proofs.Operands.{first_what, second_what, third_what}
use Rattle.rule_machine.proofs.Performs.{variable_there, of_variable, of_none, of_three, operands_there, three_are}
use Rattle.rule_machine.proofs.instr.plain_result.Goals as goal

pub variable-requires : goal.variable-requires
variable-requires c =
    let s = setting_in c.args.task in
    let l = task_lists c.args.task in
    let p = c.args.pool.now.items in
    let vs = c.args.variables.now.0 in
    let os = c.args.operands.now.0 in
    variable_there s l p vs os instrs.SelfObject 0 (λ vars ops. refl) (subst (CanPerform s l p vs os) c.in-SelfObject.is c.requires.can)

pub variable-requires-in-Get : goal.variable-requires-in-Get
variable-requires-in-Get c =
    let s = setting_in c.args.task in
    let l = task_lists c.args.task in
    let p = c.args.pool.now.items in
    let vs = c.args.variables.now.0 in
    let os = c.args.operands.now.0 in
    let n = c.in-Get.number in
    subst (λ m. IsSome (variable_at vs m)) (sym c.from.ensures) (variable_there s l p vs os (instrs.Get n) n (λ vars ops. refl) (subst (CanPerform s l p vs os) c.in-Get.is c.requires.can))

pub below-requires : goal.below-requires
below-requires c =
    let s = setting_in c.args.task in
    let l = task_lists c.args.task in
    let p = c.args.pool.now.items in
    let vs = c.args.variables.now.0 in
    let os = c.args.operands.now.0 in
    let there : 3 ≤ length os = operands_there s l p vs os instrs.SubStr (subst (CanPerform s l p vs os) c.in-SubStr.is c.requires.can) in
    omega (arith, there)

pub below-requires-in-SubStr : goal.below-requires-in-SubStr
below-requires-in-SubStr c =
    let s = setting_in c.args.task in
    let l = task_lists c.args.task in
    let p = c.args.pool.now.items in
    let vs = c.args.variables.now.0 in
    let os = c.args.operands.now.0 in
    let there : 3 ≤ length os = operands_there s l p vs os instrs.SubStr (subst (CanPerform s l p vs os) c.in-SubStr.is c.requires.can) in
    omega (arith, there)

pub returns-in-SelfObject-clause-gives : goal.returns-in-SelfObject-clause-gives
returns-in-SelfObject-clause-gives c =
    rw c.in-SelfObject.is (of_variable (setting_in c.args.task) (task_lists c.args.task) c.args.pool.now.items c.args.variables.now.0 c.args.operands.now.0 instrs.SelfObject 0 c.variable.result (λ vars ops. refl) c.variable.ensures)

pub returns-in-Get-clause-gives : goal.returns-in-Get-clause-gives
returns-in-Get-clause-gives c =
    let vs = c.args.variables.now.0 in
    let n = c.in-Get.number in
    let o = c.variable-in-Get.result in
    rw c.in-Get.is (of_variable (setting_in c.args.task) (task_lists c.args.task) c.args.pool.now.items vs c.args.operands.now.0 (instrs.Get n) n o (λ vars ops. refl) (ap (variable_at vs) (sym c.from.ensures) ∙ c.variable-in-Get.ensures))

pub returns-in-Text-clause-gives : goal.returns-in-Text-clause-gives
returns-in-Text-clause-gives c =
    let s = setting_in c.args.task in
    let l = task_lists c.args.task in
    let p = c.args.pool.now.items in
    let t = c.in-Text.text in
    let o = c.unit_text.result in
    rw c.in-Text.is (of_none s l p c.args.variables.now.0 c.args.operands.now.0 (instrs.Text t) o (value.Single (scalar.Text (chars (text_at s.unit.texts t.0)))) (λ vars ops. refl)
    (subst (λ q. SlotIs q p (length p) o (value.Single (scalar.Text (chars (text_at q.texts t.0))))) c.lists.ensures (c.unit_text.ensures p (length p))))

pub returns-in-SubStr-clause-gives : goal.returns-in-SubStr-clause-gives
returns-in-SubStr-clause-gives c =
    let s = setting_in c.args.task in
    let l = task_lists c.args.task in
    let p = c.args.pool.now.items in
    let n = s.population in
    let os = c.args.operands.now.0 in
    let o = c.substring.result in
    let three = three_are os c.topmost-in-SubStr.result.now c.below-in-SubStr.result.now c.below.result.now c.topmost-in-SubStr.ensures.0 c.topmost-in-SubStr.ensures.1 c.below-in-SubStr.ensures c.below.ensures in
    rw c.in-SubStr.is (of_three s l p c.args.variables.now.0 os instrs.SubStr c.below.result.now c.below-in-SubStr.result.now c.topmost-in-SubStr.result.now o three.0 three.1
    (λ vars v w u more hv hw hu a r e. subst (SlotIs l p (length p) o) (same_Some (substring v w u) r e)
    (subst (λ q. SlotIs q p (length p) c.below.result.now v → SlotIs q p (length p) c.below-in-SubStr.result.now w → SlotIs q p (length p) c.topmost-in-SubStr.result.now u → SlotIs q p (length p) o (substring v w u)) c.lists-in-SubStr.ensures
    (λ a0 a1 a2. c.substring.ensures p v w u a0 a1 a2 (text_operand n v (third_what n an_integer an_integer a_string [] u w v more a)) (number_operand n w (second_what n an_integer an_integer (a_string ∷ []) u w (v ∷ more) a)) (number_operand n u (first_what n an_integer (an_integer ∷ a_string ∷ []) u (w ∷ v ∷ more) a))) hv hw hu)))
