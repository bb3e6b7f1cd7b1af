use Rattle.std.proofs.Common.{arith}
use Rattle.rule_code.specs.View.{content}
use Rattle.rule_verify.proofs.SymbolLaws.{known_read, nothing_named}
use Rattle.rule_verify.proofs.resolved.Resolved.named.Goals as goal

pub returns-then-number-len-clause-known : goal.returns-then-number-len-clause-known
returns-then-number-len-clause-known c =
    let l = c.self.inside in
    known_read c.args.self.now l.model.now (content l.unit) l.names.items c.args.symbol.0 c.from-number.result c.index.result.now c.self.view_is c.self.invariant c.from-number.ensures (omega (arith, c.if-number-len.true, c.len.ensures)) c.index.ensures

pub returns-else-number-len-clause-name : goal.returns-else-number-len-clause-name
returns-else-number-len-clause-name c =
    let l = c.self.inside in
    nothing_named c.args.self.now l.model.now (content l.unit) l.names.items c.args.symbol.0 c.from-number.result c.self.view_is c.self.invariant c.from-number.ensures (omega (arith, c.if-number-len.false, c.len.ensures))
