use Rattle.std.proofs.lemmas.Result.{err_from_is_err_and}
use Rattle.rule_code.specs.Opcodes.{instr_from}
use Rattle.rule_code.specs.Preamble.{preamble_of}
use Rattle.rule_code.proofs.Loop.{goes_on, ends, is_done}
use Rattle.rule_code.proofs.reading.code.many_instrs.Goals as goal

pub returns-in_err-instr : goal.returns-in_err-instr
returns-in_err-instr c =
    let p = err_from_is_err_and c.from_residual.result c.from_residual.ensures.1 in
    rw (p.1, p.2) (ends (λ before. instr_from (preamble_of c.args.preamble)) c.args.count c.args.reader.now.left.now c.loop.counter c.loop.code.items c.loop.reader.left.now c.in_err-instr.field-0.0 c.loop-test.true c.in_err-instr.ensures c.loop.invariant)

pub loop-preserved : goal.loop-preserved
loop-preserved c =
    rw c.in_ok-push.ensures.items (goes_on (λ before. instr_from (preamble_of c.args.preamble)) c.args.count c.args.reader.now.left.now c.loop.counter c.loop.code.items c.loop.reader.left.now c.in_ok-instr.instr c.instr_from.new.reader.left.now c.loop-test.true c.in_ok-instr.ensures c.loop.invariant)

pub returns : goal.returns
returns c = is_done (λ before. instr_from (preamble_of c.args.preamble)) c.args.count c.args.reader.now.left.now c.loop.counter c.loop.code.items c.loop.reader.left.now c.loop-test.false c.loop.invariant
