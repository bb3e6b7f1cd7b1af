-- The start of a rule.
use Rattle.std.proofs.Common.{◌≡◌, ℕ, ◌-◌, List, [], ◌∷◌, length, take, refl, sym, ap, ◌∙◌, arith}
use Rattle.std.specs.Prelude.{slice_range}
use Rattle.std.proofs.lemmas.List.{take_all}
use Rattle.rule_code.specs.declared.instruction.Instr.{Instr}
use Rattle.rule_verify.specs.CodeTree.{code_tree}
use Rattle.rule_values.specs.Value.{object_value}
use Rattle.rule_machine.specs.Machine.{Setting, start}
use Rattle.rule_slots.specs.Slots.{Lists, index_slot}
use Rattle.rule_machine.specs.Counts.{Balanced}
use Rattle.rule_machine.specs.StandFor.{IsAt}
use Rattle.rule_machine.proofs.InstrSteps.{is_at}

-- before the first step, with an empty pool and the object as the one variable, the machine stands at the start of a run
pub starts : (s : Setting) (l : Lists) (code : List Instr) (o : ℕ) → Balanced s (code_tree code) 0 1 → IsAt s l code [] 0 (length code) [] (index_slot o ∷ []) [] (start (code_tree code) o)
starts s l code o b =
    let n : length code - 0 ≡ length code = omega arith in
    let whole : slice_range code 0 (length code) ≡ code = ap (λ k. take k code) n ∙ take_all (length code) code (omega arith) in
    is_at s l code [] 0 (length code) [] (index_slot o ∷ []) [] [] (object_value o ∷ []) [] 1 0 (code_tree code) (ap code_tree (sym whole)) (1, b, (refl, refl)) (refl, refl, ((refl, refl), tt), tt)
