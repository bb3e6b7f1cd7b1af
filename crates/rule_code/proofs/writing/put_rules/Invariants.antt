use Rattle.std.proofs.Common.{◌≡◌, ◌++◌, take, map}
use Rattle.rule_code.specs.Content.{rule_content}
use Rattle.std.specs.List.{flat_map}
use Rattle.rule_code.specs.Spelling.{rule}
use Rattle.rule_code.proofs.writing.put_rules.Given as goal

abbrev pub invariant-loop-r : goal.invariant-loop-r
invariant-loop-r l = l.out.items ≡ l.initial.out.items ++ flat_map rule (map rule_content (take l.r-index l.rules))
