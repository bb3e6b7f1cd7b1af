use Rattle.rule_code.specs.Parts.{symbol_from}
use Rattle.rule_code.proofs.Loop.{HasRead}
use Rattle.rule_code.proofs.reading.symbols.many_symbols.Given as goal

abbrev pub invariant-loop : goal.invariant-loop
invariant-loop l = HasRead (λ before. symbol_from l.texts) l.count l.initial.reader.left.now l.counter l.symbols.items l.reader.left.now
