-- The walk that builds core trees: how it stands to the trees of code.
use Rattle.std.specs.Prelude.{◌≡◌, ◌<◌, ◌≤◌, ℕ, List, [], length, All, Option, Some, None, slice_range}
use Rattle.ocl_core.specs.Core.{CoreTree}
use Rattle.rule_code.specs.WellFormed.{InstrFits}
use Rattle.rule_verify.specs.CodeTree.{code_tree}
use Rattle.rule_verify.specs.InstrKinds.{Surroundings}
use Rattle.rule_trees.specs.declared.code.RuleCode.{RuleCode}
use Rattle.rule_trees.specs.declared.code.Place.{Place}
use Rattle.rule_trees.specs.declared.operations.Operation.{Operation}
use Rattle.rule_trees.specs.declared.operations.Operation.TheVariants.{One, Two, Three}
use Rattle.rule_trees.specs.InstrTrees.{on_one, on_two, on_three}
use Rattle.rule_trees.specs.CoreOf.{sole, trees_after, surroundings_of_rule}

-- ---- the code of a rule

abbrev pub surroundings_in : RuleCode → Surroundings
surroundings_in c = surroundings_of_rule c.accepted.now.model c.accepted.now.unit c.rule

-- the instructions fit the unit
abbrev pub CodeFits : RuleCode → Type 0
CodeFits c = All (InstrFits (length c.accepted.now.unit.texts) c.accepted.now.unit.symbols) c.code.now

-- an instruction of the code, or the end of its sequence
pub record PlaceFits (c : RuleCode) (p : Place) : Type 0 where
  pub before : p.at ≤ p.end
  pub within : p.end ≤ length c.code.now

-- the trees after the instructions between two indices, from those before them
abbrev pub trees_between : RuleCode → ℕ → ℕ → List CoreTree → Option (List CoreTree)
trees_between c at end cs = trees_after (surroundings_in c) (code_tree (slice_range c.code.now at end)) cs

-- the tree of the instructions between two indices, with none before them
abbrev pub core_between : RuleCode → ℕ → ℕ → Option CoreTree
core_between c at end = sole (trees_between c at end [])

-- an instruction with its bodies leaves these trees, and then the rest of its sequence follows
pub record LeavesTrees (c : RuleCode) (p : Place) (before : List CoreTree) (next : ℕ) (after : List CoreTree) : Type 0 where
  pub forward : p.at < next
  pub within : next ≤ p.end
  pub trees : trees_between c p.at p.end before ≡ trees_between c next p.end after

-- ---- operations

-- an operation on the topmost trees, if there is one
abbrev pub operated : Option Operation → List CoreTree → Option (List CoreTree)
operated None cs = None
operated (Some (One o)) cs = on_one o cs
operated (Some (Two o)) cs = on_two o cs
operated (Some (Three o)) cs = on_three o cs
