use Rattle.std.proofs.Common.{◌≡◌, map, take}
use Rattle.rule_code.specs.View.{content}
use Rattle.rule_verify.specs.Symbols.{named_by}
use Rattle.rule_verify.proofs.resolved.names_of.Given as goal

abbrev pub invariant-loop-symbol : goal.invariant-loop-symbol
invariant-loop-symbol l = l.names.items ≡ map (named_by l.model (content l.unit).texts) (take l.symbol-index (content l.unit).symbols)
