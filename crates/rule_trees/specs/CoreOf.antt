-- The core tree of code: code is run over core trees in place of values. Bodies begin without operands and end with one, and
-- variables are numbered by nesting in code as in core trees, so each instruction becomes a node of the tree.
use Rattle.std.specs.Prelude.{ℕ, List, [], ◌∷◌, Option, Some, None, option_and_then, unwrap_or}
use Rattle.imkl_model.specs.ClassModel.{Model}
use Rattle.ocl_kinds.specs.declared.kind.Kind.{Kind}
use Rattle.ocl_kinds.specs.declared.kind.ScalarKind.{ScalarKind}
use Rattle.ocl_core.specs.declared.core_tree.Iteration.{Iteration}
use Rattle.ocl_core.specs.declared.core_tree.Iteration.TheVariants as iteration
use Rattle.ocl_core.specs.Core as tree
use Rattle.ocl_core.specs.Core.{CoreTree}
use Rattle.rule_code.specs.declared.instruction.Instr.{Instr}
use Rattle.rule_code.specs.declared.instruction.Instr.TheVariants as instrs
use Rattle.rule_code.specs.Content.{Content}
use Rattle.rule_verify.specs.InstrKinds.{Surroundings, surroundings, scalar_meant, kind_meant}
use Rattle.rule_verify.specs.CodeTree as code
use Rattle.rule_verify.specs.CodeTree.{CodeTree, code_tree}
use Rattle.rule_verify.specs.UnitRules.{unit_rule, context_class}
use Rattle.rule_trees.specs.InstrTrees.{plain_trees}

-- ---- blocks, by the trees of their bodies

-- the only tree that code has left
abbrev pub sole : Option (List CoreTree) → Option CoreTree
sole (Some (c ∷ [])) = Some c
sole r = None

-- by the tree of its body, what a block makes of the trees before it
abbrev pub let_trees : CoreTree → List CoreTree → Option (List CoreTree)
let_trees b (v ∷ cs) = Some (tree.Let v b ∷ cs)
let_trees b cs = None

abbrev pub iteration_trees : Iteration → CoreTree → List CoreTree → Option (List CoreTree)
iteration_trees i b (v ∷ cs) = Some (tree.Iterate i v b ∷ cs)
iteration_trees i b cs = None

-- a fold's start value is above its source
abbrev pub fold_trees : ScalarKind → CoreTree → List CoreTree → Option (List CoreTree)
fold_trees k b (start ∷ v ∷ cs) = Some (tree.Fold k v start b ∷ cs)
fold_trees k b cs = None

abbrev pub if_trees : Kind → CoreTree → CoreTree → List CoreTree → Option (List CoreTree)
if_trees k first second (c ∷ cs) = Some (tree.If k c first second ∷ cs)
if_trees k first second cs = None

-- the trees after a block with one body
abbrev pub block_trees : Surroundings → Instr → Option CoreTree → List CoreTree → Option (List CoreTree)
block_trees s (instrs.Let n) (Some b) cs = let_trees b cs
block_trees s (instrs.ForAll n) (Some b) cs = iteration_trees iteration.ForAll b cs
block_trees s (instrs.Exists n) (Some b) cs = iteration_trees iteration.Exists b cs
block_trees s (instrs.One n) (Some b) cs = iteration_trees iteration.One b cs
block_trees s (instrs.Select n) (Some b) cs = iteration_trees iteration.Select b cs
block_trees s (instrs.Reject n) (Some b) cs = iteration_trees iteration.Reject b cs
block_trees s (instrs.Collect n) (Some b) cs = iteration_trees iteration.Collect b cs
block_trees s (instrs.CollectFlat n) (Some b) cs = iteration_trees iteration.CollectFlat b cs
block_trees s (instrs.IsUnique k n) (Some b) cs = iteration_trees (iteration.IsUnique (scalar_meant s k)) b cs
block_trees s (instrs.Fold k n) (Some b) cs = fold_trees (scalar_meant s k) b cs
block_trees s i b cs = None

-- the trees after an IF
abbrev pub branch_trees : Surroundings → Instr → Option CoreTree → Option CoreTree → List CoreTree → Option (List CoreTree)
branch_trees s (instrs.If k n m) (Some first) (Some second) cs = if_trees (kind_meant s k) first second cs
branch_trees s i first second cs = None

-- ---- code

-- the trees after code, from those before it, the topmost first
abbrev pub trees_after : Surroundings → CodeTree → List CoreTree → Option (List CoreTree)
trees_after s code.End cs = Some cs
trees_after s (code.Plain i rest) cs = option_and_then (trees_after s rest) (plain_trees s i cs)
trees_after s (code.Block i body rest) cs =
    option_and_then (trees_after s rest) (block_trees s i (sole (trees_after s body [])) cs)
trees_after s (code.Branch i first second rest) cs =
    option_and_then (trees_after s rest) (branch_trees s i (sole (trees_after s first [])) (sole (trees_after s second [])) cs)
trees_after s (code.Torn i left) cs = None

-- the tree of code that begins without operands and ends with one
abbrev pub core_of : Surroundings → CodeTree → Option CoreTree
core_of s t = sole (trees_after s t [])

-- ---- rules

-- what the code of a rule is read against
abbrev pub surroundings_of_rule : Model → Content → ℕ → Surroundings
surroundings_of_rule m u n = surroundings m u n (unwrap_or (context_class m u (unit_rule u n)) 0)

-- the core tree of a unit's rule, by its index
abbrev pub core_of_rule : Model → Content → ℕ → Option CoreTree
core_of_rule m u n = core_of (surroundings_of_rule m u n) (code_tree (unit_rule u n).code)
