use Rattle.std.proofs.Common.{◌<◌, ◌^◌, length, sym, ap, subst, arith, Some}
use Rattle.std.proofs.lemmas.Nat.{mul-le}
use Rattle.rule_report.proofs.ForAbove.{few_instances}
use Rattle.rule_desk.specs.Seen.{JobSeen}
use Rattle.rule_desk.specs.Held.{job_in}
use Rattle.rule_desk.proofs.job.Job.rule_bound.Goals as goal

pub returns-clause-small : goal.returns-clause-small
returns-clause-small c =
    let i = c.self.inside in
    let within : c.args.rule < length i.admitted.now.resolved.unit.rules = subst (λ (x : JobSeen). c.args.rule < length x.admission.resolved.unit.rules) (sym (ap job_in c.self.view_is)) c.requires in
    let small = c.admitted.ensures.below_limit c.args.rule within in
    let few = few_instances i.population.now.content (Some c.context-context.result) c.consistent.ensures in
    mul-le c.from.result (length c.instances-objects.result.now) (2 ^ 63) 1000000 (omega (arith, small, c.from.ensures, c.bound.ensures)) (omega (arith, few, ap length c.instances-objects.ensures.objects))
