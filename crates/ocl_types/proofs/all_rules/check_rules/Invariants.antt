use Rattle.std.proofs.Common.{map, drop}
use Rattle.ocl_text.specs.View.{rule_of}
use Rattle.ocl_core.specs.CoreView.{checked_rule_of}
use Rattle.ocl_types.proofs.AllChecked.{CheckedTo, NoneIfUnknown}
use Rattle.ocl_types.proofs.all_rules.check_rules.Given as goal

abbrev pub invariant-loop-i : goal.invariant-loop-i
invariant-loop-i l =
    CheckedTo l.model (map rule_of l.rules) (map checked_rule_of l.checked.items) l.i (map rule_of (drop l.i l.rules))
    × NoneIfUnknown l.model (map rule_of l.rules) l.i
