use Rattle.std.proofs.Common.{[], refl, sym, subst, length}
use Rattle.rule_code.specs.declared.instruction.Instr.TheVariants as instrs
use Rattle.ocl_kinds.specs.declared.kind.ScalarKind.TheVariants as element
use Rattle.rule_verify.specs.declared.pattern.Pattern.TheVariants.{AnyCollection, CollectionOf}
use Rattle.rule_verify.specs.Patterns.{a_boolean, an_integer, a_string}
use Rattle.rule_machine.specs.Applied.{CanTakeOne}
use Rattle.rule_machine.specs.Shown.{setting_in, task_lists}
use Rattle.rule_slots.specs.Slots.{LiesInHome}
use Rattle.rule_values.specs.Operations.{negative, absolute, negation, undefined_test, invalid_test, text_length, collection_size, emptiness, summation}
use Rattle.rule_slots.specs.Operands.{MakesOfOne, is_any_operand, is_elements_operand, is_many_operand, is_number_operand, is_truth_operand, is_text_operand}
use Rattle.rule_slots.proofs.ForAbove.{number_operand, truth_operand, text_operand, lies_within, many_operand}
use Rattle.rule_machine.proofs.Operands.{elements_what, many_what, first_what, one_gives}
use Rattle.rule_machine.proofs.applying.apply_one.Goals as goal

pub returns-in-Neg : goal.returns-in-Neg
returns-in-Neg c =
    let s = setting_in c.args.task in
    let l = task_lists c.args.task in
    let p = c.args.pool.now in
    rw c.in-Neg.is (one_gives s l p instrs.Neg is_number_operand negative c.args.v.now c.negative.result (λ vars v rest. refl) (λ v rest a. number_operand s.population v (first_what s.population an_integer [] v rest a)) (c.negative.ensures l p))

pub returns-in-Abs : goal.returns-in-Abs
returns-in-Abs c =
    let s = setting_in c.args.task in
    let l = task_lists c.args.task in
    let p = c.args.pool.now in
    rw c.in-Abs.is (one_gives s l p instrs.Abs is_number_operand absolute c.args.v.now c.absolute.result (λ vars v rest. refl) (λ v rest a. number_operand s.population v (first_what s.population an_integer [] v rest a)) (c.absolute.ensures l p))

pub returns-in-Not : goal.returns-in-Not
returns-in-Not c =
    let s = setting_in c.args.task in
    let l = task_lists c.args.task in
    let p = c.args.pool.now in
    rw c.in-Not.is (one_gives s l p instrs.Not is_truth_operand negation c.args.v.now c.negation.result (λ vars v rest. refl) (λ v rest a. truth_operand s.population v (first_what s.population a_boolean [] v rest a)) (c.negation.ensures l p))

pub returns-in-Undef : goal.returns-in-Undef
returns-in-Undef c =
    let s = setting_in c.args.task in
    let l = task_lists c.args.task in
    let p = c.args.pool.now in
    rw c.in-Undef.is (one_gives s l p instrs.Undef is_any_operand undefined_test c.args.v.now c.undefined_test.result (λ vars v rest. refl) (λ v rest a. refl) (c.undefined_test.ensures l p))

pub returns-in-IsInv : goal.returns-in-IsInv
returns-in-IsInv c =
    let s = setting_in c.args.task in
    let l = task_lists c.args.task in
    let p = c.args.pool.now in
    rw c.in-IsInv.is (one_gives s l p instrs.IsInv is_any_operand invalid_test c.args.v.now c.invalid_test.result (λ vars v rest. refl) (λ v rest a. refl) (c.invalid_test.ensures l p))

pub returns-in-Size : goal.returns-in-Size
returns-in-Size c =
    let s = setting_in c.args.task in
    let l = task_lists c.args.task in
    let p = c.args.pool.now in
    rw c.in-Size.is (one_gives s l p instrs.Size is_many_operand collection_size c.args.v.now c.collection_size.result (λ vars v rest. refl) (λ v rest a. many_what s.population v (first_what s.population AnyCollection [] v rest a)) (c.collection_size.ensures l p))

pub returns-in-IsEmpty : goal.returns-in-IsEmpty
returns-in-IsEmpty c =
    let s = setting_in c.args.task in
    let l = task_lists c.args.task in
    let p = c.args.pool.now in
    rw c.in-IsEmpty.is (one_gives s l p instrs.IsEmpty is_many_operand emptiness c.args.v.now c.emptiness.result (λ vars v rest. refl) (λ v rest a. many_what s.population v (first_what s.population AnyCollection [] v rest a)) (c.emptiness.ensures l p))

pub returns-in-TLen : goal.returns-in-TLen
returns-in-TLen c =
    let s = setting_in c.args.task in
    let l = task_lists c.args.task in
    let p = c.args.pool.now in
    let made = subst (λ z. MakesOfOne z p is_text_operand text_length c.args.v.now c.text_length.result) c.lists.ensures (c.text_length.ensures p) in
    rw c.in-TLen.is (one_gives s l p instrs.TLen is_text_operand text_length c.args.v.now c.text_length.result (λ vars v rest. refl) (λ v rest a. text_operand s.population v (first_what s.population a_string [] v rest a)) made)

pub summation-requires : goal.summation-requires
summation-requires c =
    let s = setting_in c.args.task in
    let l = task_lists c.args.task in
    let p = c.args.pool.now in
    let can = subst (λ i. CanTakeOne s l p i c.args.v.now) c.in-Sum.is c.requires.can in
    subst (λ z. LiesInHome z (length p) c.args.v.now) (sym c.lists-in-Sum.ensures)
    (lies_within l p (length p) c.args.v.now can.value can.is (many_operand s.population element.Integer can.value (elements_what s.population element.Integer can.value (first_what s.population (CollectionOf element.Integer) [] can.value can.rest can.right))))

pub returns-in-Sum : goal.returns-in-Sum
returns-in-Sum c =
    let s = setting_in c.args.task in
    let l = task_lists c.args.task in
    let p = c.args.pool.now in
    let test = is_elements_operand s.population element.Integer in
    let made = subst (λ z. MakesOfOne z p test summation c.args.v.now c.summation.result) c.lists-in-Sum.ensures (c.summation.ensures s.population) in
    rw c.in-Sum.is (one_gives s l p instrs.Sum test summation c.args.v.now c.summation.result (λ vars v rest. refl) (λ v rest a. elements_what s.population element.Integer v (first_what s.population (CollectionOf element.Integer) [] v rest a)) made)
