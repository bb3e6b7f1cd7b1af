use Rattle.std.proofs.Common.{◌∙◌, ap, arith, Ok}
use Rattle.rule_desk.proofs.Advances.{over_is, advanced_left}
use Rattle.rule_desk.proofs.job.Job.grant.Goals as goal

pub returns-then-is_over-clause-granted : goal.returns-then-is_over-clause-granted
returns-then-is_over-clause-granted c =
    let before = c.loop-left.invariant in
    let moved = advanced_left c.loop-left.self.job c.advance.new.self.job c.loop-left.left c.in-Some.rest c.advance.result (c.in_ok-rest.was ∙ ap Ok c.in-Some.is) c.advance.ensures.moved in
    over_is c.args.self.now.job c.loop-left.self.job c.advance.new.self.job c.args.grant c.in-Some.rest before.same c.advance.ensures.same
    (c.is_over.ensures.over.0 c.if-is_over.true) c.is_over.ensures.within (omega (arith, moved.1, before.sum))
