use Rattle.rule_verify.proofs.ForAbove.{one_more_popped}
use Rattle.rule_cost.proofs.operands.take.Goals as goal

-- src/operands.rt:26:5
pub loop-preserved : goal.loop-preserved
loop-preserved c = one_more_popped c.loop.counter c.args.operands.now c.loop.operands c.pop-topmost.new.self c.pop-topmost.result c.loop.invariant c.pop-topmost.ensures
