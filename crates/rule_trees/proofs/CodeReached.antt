-- A run of code comes to its end with the meanings of the trees after it.
use Rattle.std.proofs.Common.{◌≡◌, ℕ, List, [], ◌∷◌, Option, Some, None, refl, subst}
use Rattle.ocl_core.specs.declared.core_tree.Iteration.{Iteration}
use Rattle.ocl_core.specs.declared.core_tree.Iteration.TheVariants as iteration
use Rattle.ocl_core.specs.Core as tree
use Rattle.ocl_core.specs.Core.{CoreTree}
use Rattle.rule_code.specs.declared.instruction.Instr.{Instr}
use Rattle.rule_code.specs.declared.instruction.Instr.TheVariants as instrs
use Rattle.rule_verify.specs.InstrKinds.{scalar_meant, kind_meant}
use Rattle.rule_verify.specs.CodeTree as code
use Rattle.rule_verify.specs.CodeTree.{CodeTree}
use Rattle.rule_values.specs.Value.{Value, element_value}
use Rattle.rule_machine.specs.Machine.{Setting, judged_by, Piece, Sequence, Configuration, configuration, step, run}
use Rattle.rule_machine.specs.Outcome.{outcome}
use Rattle.ocl_semantics.specs.Meaning.{meaning}
use Rattle.rule_trees.specs.InstrTrees.{plain_trees}
use Rattle.rule_trees.specs.CoreOf.{sole, block_trees, branch_trees, trees_after}
use Rattle.rule_trees.proofs.Steps.{first_gave, sole_is}
use Rattle.rule_trees.proofs.PlainMeans.{stacked_meanings, plain_means}
use Rattle.ocl_compile.proofs.ForAbove.{Reached, IsIterating, plain_reached, let_reached, if_reached, iteration_reached, fold_reached}

module _ (s : Setting) (first : Configuration) (goes_on : (k : ℕ) (c : Configuration) → run s k first ≡ Some c → outcome c ≡ None → (d : Configuration) × (step s c ≡ Some d)) where
  abbrev At : CodeTree → List Piece → List Value → List Value → Type 0
  At t ps vars os = Reached s first goes_on (configuration (Sequence t ∷ ps) vars os)

  abbrev On : List Value → List CoreTree → List Value → List Value
  On vars cs os = stacked_meanings s.population vars cs os

  -- a body comes to its end with the meaning of a tree
  abbrev Goes : CodeTree → CoreTree → Type 0
  Goes t b = (q : List Piece) (vars os : List Value) → At t q vars os → Reached s first goes_on (configuration q vars (meaning s.population b vars ∷ os))

  iterated_reached : (i : Instr) (it : Iteration) → IsIterating s first goes_on i it → (body rest : CodeTree) (b v : CoreTree) → Goes body b
      → (cs ds : List CoreTree) → Some (tree.Iterate it v b ∷ cs) ≡ Some ds
      → (ps : List Piece) (vars os : List Value) → At (code.Block i body rest) ps vars (On vars (v ∷ cs) os) → At rest ps vars (On vars ds os)
  iterated_reached i it known body rest b v is cs ds e ps vars os r =
      let same : tree.Iterate it v b ∷ cs ≡ ds = cc in
      subst (λ x. At rest ps vars (On vars x os)) same
      (iteration_reached s first goes_on i it known body rest ps vars (On vars cs os) (meaning s.population v vars) (λ e. meaning s.population b (element_value e ∷ vars)) r
      (λ e q begun. is q (element_value e ∷ vars) (On vars cs os) begun))

  block_reached : (i : Instr) (body rest : CodeTree) (made : Option CoreTree) → ((b : CoreTree) → made ≡ Some b → Goes body b)
      → (cs ds : List CoreTree) → block_trees (judged_by s) i made cs ≡ Some ds
      → (ps : List Piece) (vars os : List Value) → At (code.Block i body rest) ps vars (On vars cs os) → At rest ps vars (On vars ds os)
  block_reached (instrs.Let n) body rest (Some b) is (v ∷ cs) ds e ps vars os r =
      let p = s.population in
      let same : tree.Let v b ∷ cs ≡ ds = cc in
      subst (λ x. At rest ps vars (On vars x os)) same
      (let_reached s first goes_on n body rest ps vars (On vars cs os) (meaning p v vars) (meaning p b (meaning p v vars ∷ vars)) r
      (λ q begun. is b refl q (meaning p v vars ∷ vars) (On vars cs os) begun))
  block_reached (instrs.ForAll n) body rest (Some b) is (v ∷ cs) ds e ps vars os r = iterated_reached (instrs.ForAll n) iteration.ForAll (record { topmost = refl; one = refl; opens = λ body v os ps vars left. refl; ends = λ source bs. refl }) body rest b v (is b refl) cs ds e ps vars os r
  block_reached (instrs.Exists n) body rest (Some b) is (v ∷ cs) ds e ps vars os r = iterated_reached (instrs.Exists n) iteration.Exists (record { topmost = refl; one = refl; opens = λ body v os ps vars left. refl; ends = λ source bs. refl }) body rest b v (is b refl) cs ds e ps vars os r
  block_reached (instrs.One n) body rest (Some b) is (v ∷ cs) ds e ps vars os r = iterated_reached (instrs.One n) iteration.One (record { topmost = refl; one = refl; opens = λ body v os ps vars left. refl; ends = λ source bs. refl }) body rest b v (is b refl) cs ds e ps vars os r
  block_reached (instrs.Select n) body rest (Some b) is (v ∷ cs) ds e ps vars os r = iterated_reached (instrs.Select n) iteration.Select (record { topmost = refl; one = refl; opens = λ body v os ps vars left. refl; ends = λ source bs. refl }) body rest b v (is b refl) cs ds e ps vars os r
  block_reached (instrs.Reject n) body rest (Some b) is (v ∷ cs) ds e ps vars os r = iterated_reached (instrs.Reject n) iteration.Reject (record { topmost = refl; one = refl; opens = λ body v os ps vars left. refl; ends = λ source bs. refl }) body rest b v (is b refl) cs ds e ps vars os r
  block_reached (instrs.Collect n) body rest (Some b) is (v ∷ cs) ds e ps vars os r = iterated_reached (instrs.Collect n) iteration.Collect (record { topmost = refl; one = refl; opens = λ body v os ps vars left. refl; ends = λ source bs. refl }) body rest b v (is b refl) cs ds e ps vars os r
  block_reached (instrs.CollectFlat n) body rest (Some b) is (v ∷ cs) ds e ps vars os r = iterated_reached (instrs.CollectFlat n) iteration.CollectFlat (record { topmost = refl; one = refl; opens = λ body v os ps vars left. refl; ends = λ source bs. refl }) body rest b v (is b refl) cs ds e ps vars os r
  block_reached (instrs.IsUnique k n) body rest (Some b) is (v ∷ cs) ds e ps vars os r = iterated_reached (instrs.IsUnique k n) (iteration.IsUnique (scalar_meant (judged_by s) k)) (record { topmost = refl; one = refl; opens = λ body v os ps vars left. refl; ends = λ source bs. refl }) body rest b v (is b refl) cs ds e ps vars os r
  block_reached (instrs.Fold k n) body rest (Some b) is (a ∷ v ∷ cs) ds e ps vars os r =
      let p = s.population in
      let same : tree.Fold (scalar_meant (judged_by s) k) v a b ∷ cs ≡ ds = cc in
      subst (λ x. At rest ps vars (On vars x os)) same
      (fold_reached s first goes_on k n body rest ps vars (On vars cs os) (meaning p v vars) (meaning p a vars) (λ e a. meaning p b (a ∷ element_value e ∷ vars)) r
      (λ e a q at. is b refl q (a ∷ element_value e ∷ vars) (On vars cs os) at))
  block_reached i body rest made is cs ds e ps vars os r = cc

  branch_reached : (i : Instr) (one two rest : CodeTree) (x : Option CoreTree) → ((b : CoreTree) → x ≡ Some b → Goes one b)
      → (y : Option CoreTree) → ((b : CoreTree) → y ≡ Some b → Goes two b)
      → (cs ds : List CoreTree) → branch_trees (judged_by s) i x y cs ≡ Some ds
      → (ps : List Piece) (vars os : List Value) → At (code.Branch i one two rest) ps vars (On vars cs os) → At rest ps vars (On vars ds os)
  branch_reached (instrs.If k n m) one two rest (Some a) is_a (Some b) is_b (c ∷ cs) ds e ps vars os r =
      let p = s.population in
      let same : tree.If (kind_meant (judged_by s) k) c a b ∷ cs ≡ ds = cc in
      subst (λ x. At rest ps vars (On vars x os)) same
      (if_reached s first goes_on (instrs.If k n m) refl one two rest ps vars (On vars cs os) (meaning p c vars) (meaning p a vars) (meaning p b vars) r
      (λ q begun. is_a a refl q vars (On vars cs os) begun)
      (λ q begun. is_b b refl q vars (On vars cs os) begun))
  branch_reached i one two rest x is_a y is_b cs ds e ps vars os r = cc

  -- a run that comes to code comes to its end, with what its trees mean on the operands
  pub code_reached : (t : CodeTree) (cs ds : List CoreTree) → trees_after (judged_by s) t cs ≡ Some ds
      → (ps : List Piece) (vars os : List Value) → At t ps vars (On vars cs os) → Reached s first goes_on (configuration ps vars (On vars ds os))
  code_reached code.End cs ds e ps vars os r =
      let same : cs ≡ ds = cc in
      subst (λ x. Reached s first goes_on (configuration ps vars (On vars x os))) same r
  code_reached (code.Plain i rest) cs ds e ps vars os r =
      let x = first_gave (trees_after (judged_by s) rest) (plain_trees (judged_by s) i cs) ds e in
      code_reached rest x.0 ds x.2 ps vars os
      (subst (λ l. At rest ps vars l) (plain_means s vars os i cs x.0 x.1) (plain_reached s first goes_on i rest ps vars (On vars cs os) r))
  code_reached (code.Block i body rest) cs ds e ps vars os r =
      let x = first_gave (trees_after (judged_by s) rest) (block_trees (judged_by s) i (sole (trees_after (judged_by s) body [])) cs) ds e in
      code_reached rest x.0 ds x.2 ps vars os (block_reached i body rest (sole (trees_after (judged_by s) body [])) (λ b is q vs l at. code_reached body [] (b ∷ []) (sole_is (trees_after (judged_by s) body []) b is) q vs l at) cs x.0 x.1 ps vars os r)
  code_reached (code.Branch i one two rest) cs ds e ps vars os r =
      let x = first_gave (trees_after (judged_by s) rest) (branch_trees (judged_by s) i (sole (trees_after (judged_by s) one [])) (sole (trees_after (judged_by s) two [])) cs) ds e in
      code_reached rest x.0 ds x.2 ps vars os
      (branch_reached i one two rest (sole (trees_after (judged_by s) one [])) (λ b is q vs l at. code_reached one [] (b ∷ []) (sole_is (trees_after (judged_by s) one []) b is) q vs l at) (sole (trees_after (judged_by s) two [])) (λ b is q vs l at. code_reached two [] (b ∷ []) (sole_is (trees_after (judged_by s) two []) b is) q vs l at) cs x.0 x.1 ps vars os r)
  code_reached (code.Torn i left) cs ds e ps vars os r = cc
