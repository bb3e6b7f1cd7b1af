use Rattle.std.proofs.Common.{◌∷◌, [], refl, sym, subst, length}
use Rattle.rule_code.specs.declared.instruction.Instr.TheVariants as instrs
use Rattle.ocl_kinds.specs.declared.kind.Kind.TheVariants as kind
use Rattle.rule_verify.specs.declared.pattern.Pattern.TheVariants.{Fitting, CollectionOf}
use Rattle.rule_verify.specs.InstrKinds.{scalar_meant, kind_meant}
use Rattle.rule_values.specs.Value.{Value, is_in}
use Rattle.rule_machine.specs.Applied.{CanTakeTwo}
use Rattle.rule_machine.specs.Machine.{judged_by}
use Rattle.rule_machine.specs.Shown.{setting_in, task_lists}
use Rattle.rule_slots.specs.Slots.{lists_in, LiesInHome}
use Rattle.rule_values.specs.Operations.{addition, subtraction, multiplication, division, remainder, lesser, greater, less_than, at_most, conjunction, disjunction, exclusive_disjunction, implication, equality, both_null, membership, occurrence_count, inclusion, exclusion}
use Rattle.rule_slots.specs.Operands.{MakesOfTwo, is_any_operand, is_elements_operand}
use Rattle.rule_slots.specs.Compared.{ComparesWithin}
use Rattle.rule_slots.proofs.ForAbove.{lies_within, many_operand, compares_within}
use Rattle.rule_machine.proofs.Operands.{covers_meant, covers_kind_meant, elements_what, first_what, second_what, two_give, numbers_give, truths_give}
use Rattle.rule_machine.proofs.applying.apply_two.Goals as goal

pub returns-in-Add-clause-gives : goal.returns-in-Add-clause-gives
returns-in-Add-clause-gives c =
    let l = task_lists c.args.task in
    let p = c.args.pool.now.items in
    rw c.in-Add.is (numbers_give (setting_in c.args.task) l p instrs.Add addition c.args.v.now c.args.w.now c.addition.result refl (λ vars v w rest. refl) (c.addition.ensures l p))

pub returns-in-Sub-clause-gives : goal.returns-in-Sub-clause-gives
returns-in-Sub-clause-gives c =
    let l = task_lists c.args.task in
    let p = c.args.pool.now.items in
    rw c.in-Sub.is (numbers_give (setting_in c.args.task) l p instrs.Sub subtraction c.args.v.now c.args.w.now c.subtraction.result refl (λ vars v w rest. refl) (c.subtraction.ensures l p))

pub returns-in-Mul-clause-gives : goal.returns-in-Mul-clause-gives
returns-in-Mul-clause-gives c =
    let l = task_lists c.args.task in
    let p = c.args.pool.now.items in
    rw c.in-Mul.is (numbers_give (setting_in c.args.task) l p instrs.Mul multiplication c.args.v.now c.args.w.now c.multiplication.result refl (λ vars v w rest. refl) (c.multiplication.ensures l p))

pub returns-in-Div-clause-gives : goal.returns-in-Div-clause-gives
returns-in-Div-clause-gives c =
    let l = task_lists c.args.task in
    let p = c.args.pool.now.items in
    rw c.in-Div.is (numbers_give (setting_in c.args.task) l p instrs.Div division c.args.v.now c.args.w.now c.division.result refl (λ vars v w rest. refl) (c.division.ensures l p))

pub returns-in-Mod-clause-gives : goal.returns-in-Mod-clause-gives
returns-in-Mod-clause-gives c =
    let l = task_lists c.args.task in
    let p = c.args.pool.now.items in
    rw c.in-Mod.is (numbers_give (setting_in c.args.task) l p instrs.Mod remainder c.args.v.now c.args.w.now c.remainder.result refl (λ vars v w rest. refl) (c.remainder.ensures l p))

pub returns-in-Min-clause-gives : goal.returns-in-Min-clause-gives
returns-in-Min-clause-gives c =
    let l = task_lists c.args.task in
    let p = c.args.pool.now.items in
    rw c.in-Min.is (numbers_give (setting_in c.args.task) l p instrs.Min lesser c.args.v.now c.args.w.now c.lesser.result refl (λ vars v w rest. refl) (c.lesser.ensures l p))

pub returns-in-Max-clause-gives : goal.returns-in-Max-clause-gives
returns-in-Max-clause-gives c =
    let l = task_lists c.args.task in
    let p = c.args.pool.now.items in
    rw c.in-Max.is (numbers_give (setting_in c.args.task) l p instrs.Max greater c.args.v.now c.args.w.now c.greater.result refl (λ vars v w rest. refl) (c.greater.ensures l p))

pub returns-in-Lt-clause-gives : goal.returns-in-Lt-clause-gives
returns-in-Lt-clause-gives c =
    let l = task_lists c.args.task in
    let p = c.args.pool.now.items in
    rw c.in-Lt.is (numbers_give (setting_in c.args.task) l p instrs.Lt less_than c.args.v.now c.args.w.now c.less_than.result refl (λ vars v w rest. refl) (c.less_than.ensures l p))

pub returns-in-Le-clause-gives : goal.returns-in-Le-clause-gives
returns-in-Le-clause-gives c =
    let l = task_lists c.args.task in
    let p = c.args.pool.now.items in
    rw c.in-Le.is (numbers_give (setting_in c.args.task) l p instrs.Le at_most c.args.v.now c.args.w.now c.at_most.result refl (λ vars v w rest. refl) (c.at_most.ensures l p))

pub returns-in-Gt-clause-gives : goal.returns-in-Gt-clause-gives
returns-in-Gt-clause-gives c =
    let s = setting_in c.args.task in
    let p = c.args.pool.now.items in
    let made = c.less_than-in-Gt.ensures (task_lists c.args.task) p in
    rw c.in-Gt.is (numbers_give s (task_lists c.args.task) p instrs.Gt (λ v w. less_than w v) c.args.v.now c.args.w.now c.less_than-in-Gt.result refl (λ vars v w rest. refl) (λ v w h g i j. made w v g h j i))

pub returns-in-Ge-clause-gives : goal.returns-in-Ge-clause-gives
returns-in-Ge-clause-gives c =
    let s = setting_in c.args.task in
    let p = c.args.pool.now.items in
    let made = c.at_most-in-Ge.ensures (task_lists c.args.task) p in
    rw c.in-Ge.is (numbers_give s (task_lists c.args.task) p instrs.Ge (λ v w. at_most w v) c.args.v.now c.args.w.now c.at_most-in-Ge.result refl (λ vars v w rest. refl) (λ v w h g i j. made w v g h j i))

pub returns-in-And-clause-gives : goal.returns-in-And-clause-gives
returns-in-And-clause-gives c =
    let l = task_lists c.args.task in
    let p = c.args.pool.now.items in
    rw c.in-And.is (truths_give (setting_in c.args.task) l p instrs.And conjunction c.args.v.now c.args.w.now c.conjunction.result refl (λ vars v w rest. refl) (c.conjunction.ensures l p))

pub returns-in-Or-clause-gives : goal.returns-in-Or-clause-gives
returns-in-Or-clause-gives c =
    let l = task_lists c.args.task in
    let p = c.args.pool.now.items in
    rw c.in-Or.is (truths_give (setting_in c.args.task) l p instrs.Or disjunction c.args.v.now c.args.w.now c.disjunction.result refl (λ vars v w rest. refl) (c.disjunction.ensures l p))

pub returns-in-Xor-clause-gives : goal.returns-in-Xor-clause-gives
returns-in-Xor-clause-gives c =
    let l = task_lists c.args.task in
    let p = c.args.pool.now.items in
    rw c.in-Xor.is (truths_give (setting_in c.args.task) l p instrs.Xor exclusive_disjunction c.args.v.now c.args.w.now c.exclusive_disjunction.result refl (λ vars v w rest. refl) (c.exclusive_disjunction.ensures l p))

pub returns-in-Implies-clause-gives : goal.returns-in-Implies-clause-gives
returns-in-Implies-clause-gives c =
    let l = task_lists c.args.task in
    let p = c.args.pool.now.items in
    rw c.in-Implies.is (truths_give (setting_in c.args.task) l p instrs.Implies implication c.args.v.now c.args.w.now c.implication.result refl (λ vars v w rest. refl) (c.implication.ensures l p))

pub returns-in-Eqx-clause-gives : goal.returns-in-Eqx-clause-gives
returns-in-Eqx-clause-gives c =
    let l = task_lists c.args.task in
    let p = c.args.pool.now.items in
    rw c.in-Eqx.is (two_give (setting_in c.args.task) l p instrs.Eqx is_any_operand is_any_operand both_null c.args.v.now c.args.w.now c.both_null.result (λ vars v w rest. refl) (λ v w rest a. refl) (λ v w rest a. refl) (c.both_null.ensures l p))

pub equality-requires-clause-left : goal.equality-requires-clause-left
equality-requires-clause-left c =
    let s = setting_in c.args.task in
    let l = task_lists c.args.task in
    let p = c.args.pool.now.items in
    let q = c.in-Eq.kind in
    let k = kind_meant (judged_by s) q in
    let can = subst (λ i. CanTakeTwo s l p i c.args.v.now c.args.w.now) c.in-Eq.is c.requires.can in
    subst (λ z. ComparesWithin z (length p) q c.args.v.now) (sym c.lists.ensures)
    (compares_within l s.population p (length p) q k (covers_kind_meant (judged_by s) q) c.args.v.now can.value can.is (second_what s.population (Fitting k) (Fitting k) [] can.other can.value can.rest can.right))

pub equality-requires-clause-right : goal.equality-requires-clause-right
equality-requires-clause-right c =
    let s = setting_in c.args.task in
    let l = task_lists c.args.task in
    let p = c.args.pool.now.items in
    let q = c.in-Eq.kind in
    let k = kind_meant (judged_by s) q in
    let can = subst (λ i. CanTakeTwo s l p i c.args.v.now c.args.w.now) c.in-Eq.is c.requires.can in
    subst (λ z. ComparesWithin z (length p) q c.args.w.now) (sym c.lists.ensures)
    (compares_within l s.population p (length p) q k (covers_kind_meant (judged_by s) q) c.args.w.now can.other can.other_is (first_what s.population (Fitting k) (Fitting k ∷ []) can.other (can.value ∷ can.rest) can.right))

pub returns-in-Eq-clause-gives : goal.returns-in-Eq-clause-gives
returns-in-Eq-clause-gives c =
    let s = setting_in c.args.task in
    let l = task_lists c.args.task in
    let p = c.args.pool.now.items in
    let q = c.in-Eq.kind in
    let k = kind_meant (judged_by s) q in
    let in_kind = λ (x : Value). is_in s.population x k in
    let made = subst (λ z. MakesOfTwo z p in_kind in_kind equality c.args.v.now c.args.w.now c.equality.result) c.lists.ensures (c.equality.ensures.made s.population k (covers_kind_meant (judged_by s) q)) in
    rw c.in-Eq.is (two_give s l p (instrs.Eq q) in_kind in_kind equality c.args.v.now c.args.w.now c.equality.result (λ vars v w rest. refl)
    (λ v w rest a. second_what s.population (Fitting k) (Fitting k) [] w v rest a) (λ v w rest a. first_what s.population (Fitting k) (Fitting k ∷ []) w (v ∷ rest) a) made)

pub membership-requires : goal.membership-requires
membership-requires c =
    let s = setting_in c.args.task in
    let l = task_lists c.args.task in
    let p = c.args.pool.now.items in
    let k = scalar_meant (judged_by s) c.in-Includes.kind in
    let can = subst (λ i. CanTakeTwo s l p i c.args.v.now c.args.w.now) c.in-Includes.is c.requires.can in
    subst (λ x. LiesInHome (lists_in c.lists-in-Includes.result) (length x) c.args.v.now) (sym c.deref.ensures.value) (subst (λ z. LiesInHome z (length p) c.args.v.now) (sym c.lists-in-Includes.ensures)
    (lies_within l p (length p) c.args.v.now can.value can.is (many_operand s.population k can.value (elements_what s.population k can.value (second_what s.population (Fitting (kind.Scalar k)) (CollectionOf k) [] can.other can.value can.rest can.right)))))

pub returns-in-Includes-clause-gives : goal.returns-in-Includes-clause-gives
returns-in-Includes-clause-gives c =
    let s = setting_in c.args.task in
    let l = task_lists c.args.task in
    let p = c.args.pool.now.items in
    let q = c.in-Includes.kind in
    let k = scalar_meant (judged_by s) q in
    let in_kind = λ (x : Value). is_in s.population x (kind.Scalar k) in
    let made = subst (λ z. MakesOfTwo z p (is_elements_operand s.population k) in_kind membership c.args.v.now c.args.w.now c.membership.result) c.lists-in-Includes.ensures
    (subst (λ x. MakesOfTwo (lists_in c.lists-in-Includes.result) x (is_elements_operand s.population k) in_kind membership c.args.v.now c.args.w.now c.membership.result) c.deref.ensures.value (c.membership.ensures s.population k (covers_meant (judged_by s) q))) in
    rw c.in-Includes.is (two_give s l p (instrs.Includes q) (is_elements_operand s.population k) in_kind membership c.args.v.now c.args.w.now c.membership.result (λ vars v w rest. refl)
    (λ v w rest a. elements_what s.population k v (second_what s.population (Fitting (kind.Scalar k)) (CollectionOf k) [] w v rest a)) (λ v w rest a. first_what s.population (Fitting (kind.Scalar k)) (CollectionOf k ∷ []) w (v ∷ rest) a) made)

pub occurrence_count-requires : goal.occurrence_count-requires
occurrence_count-requires c =
    let s = setting_in c.args.task in
    let l = task_lists c.args.task in
    let p = c.args.pool.now.items in
    let k = scalar_meant (judged_by s) c.in-Count.kind in
    let can = subst (λ i. CanTakeTwo s l p i c.args.v.now c.args.w.now) c.in-Count.is c.requires.can in
    subst (λ x. LiesInHome (lists_in c.lists-in-Count.result) (length x) c.args.v.now) (sym c.deref-in-Count.ensures.value) (subst (λ z. LiesInHome z (length p) c.args.v.now) (sym c.lists-in-Count.ensures)
    (lies_within l p (length p) c.args.v.now can.value can.is (many_operand s.population k can.value (elements_what s.population k can.value (second_what s.population (Fitting (kind.Scalar k)) (CollectionOf k) [] can.other can.value can.rest can.right)))))

pub returns-in-Count-clause-gives : goal.returns-in-Count-clause-gives
returns-in-Count-clause-gives c =
    let s = setting_in c.args.task in
    let l = task_lists c.args.task in
    let p = c.args.pool.now.items in
    let q = c.in-Count.kind in
    let k = scalar_meant (judged_by s) q in
    let in_kind = λ (x : Value). is_in s.population x (kind.Scalar k) in
    let made = subst (λ z. MakesOfTwo z p (is_elements_operand s.population k) in_kind occurrence_count c.args.v.now c.args.w.now c.occurrence_count.result) c.lists-in-Count.ensures
    (subst (λ x. MakesOfTwo (lists_in c.lists-in-Count.result) x (is_elements_operand s.population k) in_kind occurrence_count c.args.v.now c.args.w.now c.occurrence_count.result) c.deref-in-Count.ensures.value (c.occurrence_count.ensures s.population k (covers_meant (judged_by s) q))) in
    rw c.in-Count.is (two_give s l p (instrs.Count q) (is_elements_operand s.population k) in_kind occurrence_count c.args.v.now c.args.w.now c.occurrence_count.result (λ vars v w rest. refl)
    (λ v w rest a. elements_what s.population k v (second_what s.population (Fitting (kind.Scalar k)) (CollectionOf k) [] w v rest a)) (λ v w rest a. first_what s.population (Fitting (kind.Scalar k)) (CollectionOf k ∷ []) w (v ∷ rest) a) made)

pub inclusion-requires-clause-source : goal.inclusion-requires-clause-source
inclusion-requires-clause-source c =
    let s = setting_in c.args.task in
    let l = task_lists c.args.task in
    let p = c.args.pool.now.items in
    let k = scalar_meant (judged_by s) c.in-IncAll.kind in
    let can = subst (λ i. CanTakeTwo s l p i c.args.v.now c.args.w.now) c.in-IncAll.is c.requires.can in
    subst (λ z. LiesInHome z (length p) c.args.v.now) (sym c.lists-in-IncAll.ensures)
    (lies_within l p (length p) c.args.v.now can.value can.is (many_operand s.population k can.value (elements_what s.population k can.value (second_what s.population (CollectionOf k) (CollectionOf k) [] can.other can.value can.rest can.right))))

pub inclusion-requires-clause-others : goal.inclusion-requires-clause-others
inclusion-requires-clause-others c =
    let s = setting_in c.args.task in
    let l = task_lists c.args.task in
    let p = c.args.pool.now.items in
    let k = scalar_meant (judged_by s) c.in-IncAll.kind in
    let can = subst (λ i. CanTakeTwo s l p i c.args.v.now c.args.w.now) c.in-IncAll.is c.requires.can in
    subst (λ z. LiesInHome z (length p) c.args.w.now) (sym c.lists-in-IncAll.ensures)
    (lies_within l p (length p) c.args.w.now can.other can.other_is (many_operand s.population k can.other (elements_what s.population k can.other (first_what s.population (CollectionOf k) (CollectionOf k ∷ []) can.other (can.value ∷ can.rest) can.right))))

pub returns-in-IncAll-clause-gives : goal.returns-in-IncAll-clause-gives
returns-in-IncAll-clause-gives c =
    let s = setting_in c.args.task in
    let l = task_lists c.args.task in
    let p = c.args.pool.now.items in
    let q = c.in-IncAll.kind in
    let k = scalar_meant (judged_by s) q in
    let made = subst (λ z. MakesOfTwo z p (is_elements_operand s.population k) (is_elements_operand s.population k) inclusion c.args.v.now c.args.w.now c.inclusion.result) c.lists-in-IncAll.ensures (c.inclusion.ensures.made s.population k (covers_meant (judged_by s) q)) in
    rw c.in-IncAll.is (two_give s l p (instrs.IncAll q) (is_elements_operand s.population k) (is_elements_operand s.population k) inclusion c.args.v.now c.args.w.now c.inclusion.result (λ vars v w rest. refl)
    (λ v w rest a. elements_what s.population k v (second_what s.population (CollectionOf k) (CollectionOf k) [] w v rest a)) (λ v w rest a. elements_what s.population k w (first_what s.population (CollectionOf k) (CollectionOf k ∷ []) w (v ∷ rest) a)) made)

pub exclusion-requires-clause-source : goal.exclusion-requires-clause-source
exclusion-requires-clause-source c =
    let s = setting_in c.args.task in
    let l = task_lists c.args.task in
    let p = c.args.pool.now.items in
    let k = scalar_meant (judged_by s) c.in-ExcAll.kind in
    let can = subst (λ i. CanTakeTwo s l p i c.args.v.now c.args.w.now) c.in-ExcAll.is c.requires.can in
    subst (λ z. LiesInHome z (length p) c.args.v.now) (sym c.lists-in-ExcAll.ensures)
    (lies_within l p (length p) c.args.v.now can.value can.is (many_operand s.population k can.value (elements_what s.population k can.value (second_what s.population (CollectionOf k) (CollectionOf k) [] can.other can.value can.rest can.right))))

pub exclusion-requires-clause-others : goal.exclusion-requires-clause-others
exclusion-requires-clause-others c =
    let s = setting_in c.args.task in
    let l = task_lists c.args.task in
    let p = c.args.pool.now.items in
    let k = scalar_meant (judged_by s) c.in-ExcAll.kind in
    let can = subst (λ i. CanTakeTwo s l p i c.args.v.now c.args.w.now) c.in-ExcAll.is c.requires.can in
    subst (λ z. LiesInHome z (length p) c.args.w.now) (sym c.lists-in-ExcAll.ensures)
    (lies_within l p (length p) c.args.w.now can.other can.other_is (many_operand s.population k can.other (elements_what s.population k can.other (first_what s.population (CollectionOf k) (CollectionOf k ∷ []) can.other (can.value ∷ can.rest) can.right))))

pub returns-in-ExcAll-clause-gives : goal.returns-in-ExcAll-clause-gives
returns-in-ExcAll-clause-gives c =
    let s = setting_in c.args.task in
    let l = task_lists c.args.task in
    let p = c.args.pool.now.items in
    let q = c.in-ExcAll.kind in
    let k = scalar_meant (judged_by s) q in
    let made = subst (λ z. MakesOfTwo z p (is_elements_operand s.population k) (is_elements_operand s.population k) exclusion c.args.v.now c.args.w.now c.exclusion.result) c.lists-in-ExcAll.ensures (c.exclusion.ensures.made s.population k (covers_meant (judged_by s) q)) in
    rw c.in-ExcAll.is (two_give s l p (instrs.ExcAll q) (is_elements_operand s.population k) (is_elements_operand s.population k) exclusion c.args.v.now c.args.w.now c.exclusion.result (λ vars v w rest. refl)
    (λ v w rest a. elements_what s.population k v (second_what s.population (CollectionOf k) (CollectionOf k) [] w v rest a)) (λ v w rest a. elements_what s.population k w (first_what s.population (CollectionOf k) (CollectionOf k ∷ []) w (v ∷ rest) a)) made)
