-- The steps of compiling: rules are numbered, and then written as code.
use Rattle.std.specs.Prelude.{ℕ, ◌≤◌, List, [], Result, if◌then◌else◌}
use Rattle.std.specs.List.{list_any}
use Rattle.imkl_model.specs.ClassModel.{Model}
use Rattle.ocl_core.specs.Core.{CheckedRule}
use Rattle.ocl_core.specs.Typing.{IsTypedRule}
use Rattle.ocl_base.specs.Steps.{FaultMeaning, fault, out_of_memory}
use Rattle.rule_code.specs.declared.unit.Rule.{Rule}
use Rattle.rule_code.specs.declared.version.Version.{Version}
use Rattle.rule_code.specs.declared.version.Version.TheVariants as versions
use Rattle.rule_verify.specs.CodeTree.{instr_count}
use Rattle.ocl_compile.specs.declared.fault.Limit.TheVariants as limits
use Rattle.ocl_compile.specs.declared.numbers.NumberFault.{NumberFault}
use Rattle.ocl_compile.specs.declared.numbers.NumberFault.TheVariants.{TooLarge, OutOfMemory}
use Rattle.ocl_compile.specs.Numbering.{Numbering, numbering_of}
use Rattle.ocl_compile.specs.Translation.{is_fold, rule_tree}
use Rattle.ocl_compile.specs.declared.limits.TheConstants.{MAX_COUNTED}
use Rattle.ocl_compile.specs.Compiling.{LimitAt, limit_at, first_passed, unless_passed}

-- what rules use, numbered, or the first limit that a rule passes
abbrev pub numbered_rules : Model → List CheckedRule → Result Numbering LimitAt
numbered_rules m rs = unless_passed (first_passed m rs [] rs) (numbering_of m rs)

-- a typed rule whose code is short enough
abbrev pub IsCodable : Model → Numbering → CheckedRule → Type 0
IsCodable m n r = IsTypedRule m r × (instr_count (rule_tree m n r) ≤ MAX_COUNTED)

-- where numbering stops, the rule passes a limit of size
abbrev pub number_fault : ℕ → NumberFault → FaultMeaning LimitAt
number_fault rule TooLarge = fault (limit_at limits.Size rule)
number_fault rule OutOfMemory = out_of_memory

-- the version that written rules need
abbrev pub version_for : List Rule → Version
version_for rules = if list_any (λ r. list_any is_fold r.code.items) rules then versions.Two else versions.One
