use Rattle.std.proofs.Common.{◌≡◌, ◌++◌, map, drop}
use Rattle.std.specs.List.{AllByRecursion}
use Rattle.ocl_core.specs.CoreView.{checked_rule_of}
use Rattle.rule_code.specs.Content.{rule_content}
use Rattle.ocl_compile.specs.Written.{IsWrittenRule}
use Rattle.ocl_compile.specs.CompileWalk.{IsCodable}
use Rattle.ocl_compile.specs.Translation.{translate_rule}
use Rattle.ocl_compile.proofs.compiling.code_rules.Given as goal

abbrev pub invariant-rules : goal.invariant-rules
invariant-rules l =
    (map rule_content l.coded.items ++ map (translate_rule l.model l.numbers) (map checked_rule_of (drop l.rule-index l.rules)) ≡ map (translate_rule l.model l.numbers) (map checked_rule_of l.rules))
    × AllByRecursion (IsCodable l.model l.numbers) (map checked_rule_of (drop l.rule-index l.rules))
    × (AllByRecursion IsWrittenRule (map checked_rule_of (drop l.rule-index l.rules)) → AllByRecursion IsWrittenRule (map checked_rule_of l.rules))
