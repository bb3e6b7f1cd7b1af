use Rattle.rule_code.specs.Opcodes.{instr_from}
use Rattle.rule_code.specs.Preamble.{preamble_of}
use Rattle.rule_code.proofs.Loop.{HasRead}
use Rattle.rule_code.proofs.reading.code.many_instrs.Given as goal

abbrev pub invariant-loop : goal.invariant-loop
invariant-loop l = HasRead (λ before. instr_from (preamble_of l.preamble)) l.count l.initial.reader.left.now l.counter l.code.items l.reader.left.now
