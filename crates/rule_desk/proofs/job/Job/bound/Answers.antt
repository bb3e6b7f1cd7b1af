use Rattle.std.proofs.Common.{◌≡◌, ◌≤◌, length, ap, subst, arith, vec_capacity}
use Rattle.rule_desk.specs.Seen.{JobSeen}
use Rattle.rule_desk.specs.Held.{job_in}
use Rattle.rule_desk.specs.Job.{job_bound, bounds_of_rules}
use Rattle.rule_desk.proofs.Jobs.{spent_bounded}
use Rattle.rule_desk.proofs.job.Job.bound.Goals as goal

pub returns-clause-within : goal.returns-clause-within
returns-clause-within c =
    let i = c.self.inside in
    let within : c.args.self.now.job.spent ≤ job_bound c.args.self.now.job =
    subst (λ (x : JobSeen). x.spent ≤ job_bound x) (ap job_in c.self.view_is)
    (spent_bounded i.admitted.now i.population.now.content i.cursor i.machine i.begun i.lines.items (vec_capacity i.lines) i.spent c.self.invariant) in
    let unit = ap (λ l. length l.unit.rules) c.accepted-accepted.ensures in
    let rules : length i.admitted.now.resolved.unit.rules ≡ length c.args.self.now.job.admission.resolved.unit.rules = ap (λ (x : JobSeen). length x.admission.resolved.unit.rules) (ap job_in c.self.view_is) in
    let last : c.loop-rule.rule ≡ length c.args.self.now.job.admission.resolved.unit.rules = omega (arith, c.loop-rule-test.false, c.loop-rule.auto.rule-end, c.rules-rule-end.ensures, unit, rules) in
    let all = ap (bounds_of_rules c.args.self.now.job.admission.resolved.unit c.args.self.now.job.population) last in
    omega (arith, within, all, c.loop-rule.invariant.sum)
