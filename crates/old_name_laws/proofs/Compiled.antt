-- Rules are typed and compiled in the same way, whatever old names there are.
use Rattle.std.proofs.Common.{◌≡◌, ℕ, suc, ◌+◌, ◌-◌, List, [], ◌∷◌, ◌++◌, length, Some, None, Ok, refl, if◌then◌else◌}
use Rattle.std.specs.Prelude.{nat_lt}
use Rattle.ocl_base.specs.Steps.{◌>>=◌}
use Rattle.imkl_model.specs.ClassModel.{Model, Renames}
use Rattle.ocl_text.specs.Tree.{Rule}
use Rattle.ocl_core.specs.Core.{CheckedRule}
use Rattle.ocl_types.specs.Elaboration.{declared_kind, name_value, literal_value, prefix_of, left_of, binary_of, property_of, classes_of_arguments, value_call, call_of, inner_scope, iterate_of, bound_value, if_of, accumulator_kind, fold_of, elaborate, elaborates, elaborate_rule}
use Rattle.ocl_types.specs.AllRules.{in_rule, elaborate_rules}
use Rattle.rule_code.specs.declared.instruction.Instr.{Instr}
use Rattle.rule_code.specs.declared.instruction.Instr.TheVariants as instrs
use Rattle.rule_verify.specs.declared.depths.Depths.{Depths}
use Rattle.rule_verify.specs.CodeTree.{CodeTree, End, Plain, Block, Branch, Torn}
use Rattle.rule_verify.specs.CodeDepths.{deeper, deepest, rule_depths}
use Rattle.rule_verify.specs.InstrKinds.{Surroundings, surroundings, operands_of, bound_count}
use Rattle.rule_verify.specs.declared.limits.TheConstants.{MAX_BLOCKS, MAX_OPERANDS}
use Rattle.ocl_compile.specs.declared.fault.Limit.TheVariants as limits
use Rattle.ocl_compile.specs.Translation.{translate_rules}
use Rattle.ocl_compile.specs.Compiling.{is_too_large, compiled_tree, compiled_depths, limit_passed, or_later, first_passed, unless_passed, compile_of}
use Rattle.ocl_pipeline.specs.TextReading.{TextReading}
use Rattle.ocl_pipeline.specs.CompiledRules.{in_text, in_types, in_code, compiled_rules}
use Rattle.old_name_laws.specs.OldNames.{with_old_names}

-- ---- depths: how many operands an instruction takes, its names don't decide

module _ (s t : Surroundings) where
  count_alike : (i : Instr) → length (operands_of t i) ≡ length (operands_of s i)
  count_alike (instrs.Attr a) = refl
  count_alike (instrs.AsColl d k) = refl
  count_alike i = refl

  deepest_alike : (tree : CodeTree) (d : Depths) → deepest t tree d ≡ deepest s tree d
  deepest_alike End d = refl
  deepest_alike (Plain i rest) d = λ j. deeper d (deepest_alike rest (record d { operands = d.operands - count_alike i j + 1 }) j)
  deepest_alike (Block i body rest) d =
      λ j. deeper d
      (deeper (deepest_alike body (record { operands = d.operands - count_alike i j; variables = d.variables + bound_count i; blocks = d.blocks + 1 }) j)
      (deepest_alike rest (record d { operands = d.operands - count_alike i j + 1 }) j))
  deepest_alike (Branch i first second rest) d =
      λ j. deeper d
      (deeper (deepest_alike first (record { operands = d.operands - count_alike i j; variables = d.variables; blocks = d.blocks + 1 }) j)
      (deeper (deepest_alike second (record { operands = d.operands - count_alike i j; variables = d.variables; blocks = d.blocks + 1 }) j)
      (deepest_alike rest (record d { operands = d.operands - count_alike i j + 1 }) j)))
  deepest_alike (Torn i left) d = refl

  depths_alike : (tree : CodeTree) → rule_depths t tree ≡ rule_depths s tree
  depths_alike tree = deepest_alike tree (record { operands = 0; variables = 1; blocks = 0 })

module _ (r : Renames) (m : Model) where
  abbrev n : Model
  n = with_old_names r m

  -- ---- limits

  compiled_depths_alike : (all before : List CheckedRule) (x : CheckedRule) → compiled_depths n all before x ≡ compiled_depths m all before x
  compiled_depths_alike all before x =
      depths_alike (surroundings m (translate_rules m all) (length before) x.context) (surroundings n (translate_rules m all) (length before) x.context) (compiled_tree m all x)

  limit_alike : (all before : List CheckedRule) (x : CheckedRule) → limit_passed n all before x ≡ limit_passed m all before x
  limit_alike all before x =
      λ j. if is_too_large m all before x then Some limits.Size else (
      if nat_lt MAX_BLOCKS (compiled_depths_alike all before x j).blocks then Some limits.Nesting else (
      if nat_lt MAX_OPERANDS (compiled_depths_alike all before x j).operands then Some limits.Stack else None))

  first_alike : (all before rs : List CheckedRule) → first_passed n all before rs ≡ first_passed m all before rs
  first_alike all before [] = refl
  first_alike all before (x ∷ rs) = λ j. or_later (length before) (limit_alike all before x j) (first_alike all (before ++ x ∷ []) rs j)

  -- rules are compiled to one unit, or pass the same limit
  pub compile_alike : (rs : List CheckedRule) → compile_of n rs ≡ compile_of m rs
  compile_alike rs = λ j. unless_passed (first_alike rs [] rs j) (translate_rules m rs)

  -- ---- types

  rule_alike : (x : Rule) → elaborate_rule n x ≡ elaborate_rule m x
  unfolding elaborate_rule elaborate elaborates declared_kind name_value literal_value prefix_of left_of binary_of property_of classes_of_arguments value_call call_of inner_scope iterate_of bound_value if_of accumulator_kind fold_of
  rule_alike x = refl

  -- rules are typed as the same core rules, or have the same first fault
  pub rules_alike : (i : ℕ) (xs : List Rule) → elaborate_rules n i xs ≡ elaborate_rules m i xs
  rules_alike i [] = refl
  rules_alike i (x ∷ xs) = λ j. in_rule i (rule_alike x j) >>= λ y. rules_alike (suc i) xs j >>= λ ys. Ok (y ∷ ys)

  -- ---- texts

  -- both of a text
  pub compiled_alike : (t : TextReading) → compiled_rules n t ≡ compiled_rules m t
  compiled_alike t = λ j. in_text t >>= λ rules. in_types (rules_alike 0 rules j) >>= λ typed. in_code typed (compile_alike typed j)
