use Rattle.std.proofs.Common.{rules, tests, true, refl, []}
use Rattle.ocl_check.specs.Reply.{refused}
use Rattle.ocl_explain.proofs.formed.FormedReport.end_refused.Goals as goal

pub returns-in-Ok : goal.returns-in-Ok
returns-in-Ok g c =
    let line = refused c.args.refusal in
    let h = c.stop-stopped.ensures true line refl in
    let text = c.into_inner-text.ensures in
    (_, c.write_refusal.ensures line (let stopped = h.answered in search rules))

pub returns : goal.returns
returns g c = ([], search (rules, tests))
