use Rattle.std.proofs.Common.{◌∷◌, [], List, length, refl, sym, ap, ◌∙◌, subst, arith}
use Rattle.rule_code.specs.declared.instruction.Instr.{Instr}
use Rattle.rule_verify.specs.CodeTree.{code_tree}
use Rattle.rule_slots.specs.Slots.{index_slot}
use Rattle.rule_machine.specs.Machine.{start}
use Rattle.rule_machine.specs.StandFor.{IsAt}
use Rattle.rule_machine.specs.Shown.{code_in, setting_in, task_lists, ArePiecesIn}
use Rattle.rule_machine.proofs.Starts.{starts}
use Rattle.rule_machine.proofs.Theorems.{code_balanced}
use Rattle.rule_machine.proofs.Lies.{is_with, is_under}
use Rattle.rule_machine.proofs.state.State.start.Goals as goal

pub returns-clause-started : goal.returns-clause-started
returns-clause-started c =
    let t = c.args.task in
    let o = c.args.object in
    let s = setting_in t in
    let l = task_lists t in
    let code = code_in t in
    let begin = start (code_tree code) o in
    let here = starts s l code o (code_balanced t.accepted.now.unit t.population.now.content t.rule o c.requires.accepted) in
    let long = ap (λ (x : List Instr). length x) c.code.ensures.code in
    let vars = c.push.ensures.items ∙ ap (λ x. x ∷ c.clear-2.new.self.0) (c.index_slot.ensures ∙ ap index_slot c.index.ensures) ∙ ap (λ x. index_slot o ∷ x) c.clear-2.ensures.items in
    record {
      is = is_under s l code [] _ 0 _ _ _ _ begin c.clear-4.ensures.items (is_with s l code [] 0 _ [] _ (index_slot o ∷ []) _ [] _ begin c.clear.ensures.items vars c.clear-3.ensures.items (subst (λ n. IsAt s l code [] 0 n [] (index_slot o ∷ []) [] begin) (sym long) here));
      place = record { order = omega arith; within = omega (arith, long); pending = subst (ArePiecesIn code) (sym c.clear.ensures.items) tt };
      started = refl;
      count = refl;
      pool = c.clear-4.ensures.items;
    }
