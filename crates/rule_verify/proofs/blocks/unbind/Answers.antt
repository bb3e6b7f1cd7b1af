use Rattle.rule_verify.proofs.Popped.{one_more_popped}
use Rattle.rule_verify.proofs.blocks.unbind.Goals as goal

pub loop-preserved : goal.loop-preserved
loop-preserved c = one_more_popped c.loop.counter c.args.variables.now c.loop.variables c.pop-newest.new.self c.pop-newest.result c.loop.invariant c.pop-newest.ensures
