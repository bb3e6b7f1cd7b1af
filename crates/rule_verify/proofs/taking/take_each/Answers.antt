use Rattle.rule_verify.proofs.Taken.{begins, known_at}
use Rattle.rule_verify.proofs.taking.take_each.Goals as goal

pub loop-want-init : goal.loop-want-init
loop-want-init c = begins _ _ _ c.requires.operands c.requires.there

pub matches-requires-clause-pattern : goal.matches-requires-clause-pattern
matches-requires-clause-pattern c = known_at c.args.model.now c.args.wanted.now c.loop-want.want-index c.want-item.result c.requires.wanted c.loop-want-test.true c.want-item.is
