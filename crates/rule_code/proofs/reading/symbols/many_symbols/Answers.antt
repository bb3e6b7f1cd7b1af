use Rattle.std.proofs.lemmas.Result.{err_from_is_err_and}
use Rattle.rule_code.specs.Parts.{symbol_from}
use Rattle.rule_code.proofs.Loop.{goes_on, ends, is_done}
use Rattle.rule_code.proofs.reading.symbols.many_symbols.Goals as goal

pub returns-in_err-symbol-clause-gives : goal.returns-in_err-symbol-clause-gives
returns-in_err-symbol-clause-gives c =
    let p = err_from_is_err_and c.from_residual.result c.from_residual.ensures.1 in
    rw (p.1, p.2) (ends (λ before. symbol_from c.args.texts) c.args.count c.args.reader.now.left.now c.loop.counter c.loop.symbols.items c.loop.reader.left.now c.in_err-symbol.field-0.0 c.loop-test.true c.in_err-symbol.ensures.gives c.loop.invariant)

pub loop-preserved : goal.loop-preserved
loop-preserved c =
    rw c.in_ok-push.ensures.items (goes_on (λ before. symbol_from c.args.texts) c.args.count c.args.reader.now.left.now c.loop.counter c.loop.symbols.items c.loop.reader.left.now c.in_ok-symbol.symbol c.symbol_from.new.reader.left.now c.loop-test.true c.in_ok-symbol.ensures.gives c.loop.invariant)

pub returns-clause-gives : goal.returns-clause-gives
returns-clause-gives c = is_done (λ before. symbol_from c.args.texts) c.args.count c.args.reader.now.left.now c.loop.counter c.loop.symbols.items c.loop.reader.left.now c.loop-test.false c.loop.invariant
