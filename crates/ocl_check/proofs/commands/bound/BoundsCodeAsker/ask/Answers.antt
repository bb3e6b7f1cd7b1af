use Rattle.std.proofs.Common.{true, ap}
use Rattle.ocl_check.specs.Bound.{bound_lines, bounds_answer}
use Rattle.ocl_check.proofs.Said.{said_as}
use Rattle.ocl_check.proofs.commands.bound.BoundsCodeAsker.ask.Goals as goal

pub returns-in-Ok : goal.returns-in-Ok
returns-in-Ok g c =
    let p = c.args.population.now.content in
    let u = c.args.accepted.now.unit in
    c.answer.ensures true (bounds_answer p u)
    (said_as c.bounds_reply.result (bound_lines u c.in-Ok.sizes, 0) (bounds_answer p u) (ap (λ z. (bound_lines u z, 0)) c.in-Ok.ensures) c.bounds_reply.ensures)
