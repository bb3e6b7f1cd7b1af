use Rattle.std.proofs.Common.{map, drop}
use Rattle.ocl_core.specs.CoreView.{checked_rule_of}
use Rattle.ocl_compile.proofs.RulesNumbered.{NumberedTo}
use Rattle.ocl_compile.proofs.compiling.number_rules.Given as goal

abbrev pub invariant-loop-i : goal.invariant-loop-i
invariant-loop-i l = NumberedTo l.model (map checked_rule_of l.rules) l.numbers l.i (map checked_rule_of (drop l.i l.rules))
