use Rattle.std.proofs.Common.{◌≡◌, ◌+◌, ◌<◌, ◌∙◌, true, false, sum, sym, ap, subst, arith, vec_capacity, Ok}
use Rattle.ocl_base.proofs.ForAbove.{on_success, not_both}
use Rattle.rule_desk.specs.Seen.{JobSeen}
use Rattle.rule_desk.specs.Held.{JobHeld, job_in}
use Rattle.rule_desk.specs.Rooms.{NeedsNoMemory}
use Rattle.rule_desk.specs.Job.{costs_of, total_cost, spent_after}
use Rattle.rule_desk.specs.Stands.{Stands}
use Rattle.rule_desk.proofs.Jobs.{spent_whole, spent_within}
use Rattle.rule_desk.proofs.Advances.{advanced_err, not_refused, ready, count_is, used_within_grant, spent_fits, still_stands, paused_at, refused_at, below_cost, paused_pays, next_stands, begins, goes_on}
use Rattle.rule_desk.proofs.job.Job.advance.Goals as goal

-- src/job.rt: the pair can't be begun
pub returns-in_err-begin-clause-moved : goal.returns-in_err-begin-clause-moved
returns-in_err-begin-clause-moved c =
    let i = c.self.inside in
    let spent : i.spent ≡ c.args.self.now.job.spent = ap (λ (x : JobSeen). x.spent) (ap job_in c.self.view_is) in
    let whole = spent_whole i.admitted.now i.population.now.content i.cursor i.machine i.begun i.lines.items (vec_capacity i.lines) i.spent c.self.invariant in
    advanced_err c.args.self.now.job _ c.args.grant c.from_residual.result c.from_residual.ensures.0
    (omega (arith, spent)) (omega (arith, spent, c.requires.some)) (omega (arith, spent, c.requires.left)) whole

pub returns-in_err-begin-clause-succeeds : goal.returns-in_err-begin-clause-succeeds
returns-in_err-begin-clause-succeeds c = λ needs.
    let i = c.self.inside in
    let none = subst (λ (h : JobHeld). NeedsNoMemory h.job h.room) (sym c.self.view_is) needs in
    absurd (not_both c.begin.result _ c.in_err-begin.was (begins i.admitted.now i.population.now.content i.cursor i.machine i.begun i.lines.items (vec_capacity i.lines) i.spent c.begin.result c.self.invariant c.begin.ensures.succeeds none.1))

-- src/job.rt: the machine's count rises
pub overflow_sub-used : goal.overflow_sub-used
overflow_sub-used c =
    let i = c.self.inside in
    (count_is i.admitted.now i.population.now.content i.cursor i.machine c.begin.new.machine c.run-ran.new.self i.begun i.lines.items c.begin.new.lines.items (vec_capacity i.lines) (vec_capacity c.begin.new.lines) i.spent c.args.grant c.run-ran.result
    c.self.invariant c.begin.ensures.task c.run-ran.ensures.task c.begin.ensures.lines c.in_ok-begin.ensures.ready c.run-ran.ensures.ran c.steps-before.result c.steps.result c.steps-before.ensures.count c.steps.ensures.count).0

pub overflow_add-self : goal.overflow_add-self
overflow_add-self c =
    let i = c.self.inside in
    let used = c.from.ensures ∙ (count_is i.admitted.now i.population.now.content i.cursor i.machine c.begin.new.machine c.run-ran.new.self i.begun i.lines.items c.begin.new.lines.items (vec_capacity i.lines) (vec_capacity c.begin.new.lines) i.spent c.args.grant c.run-ran.result
    c.self.invariant c.begin.ensures.task c.run-ran.ensures.task c.begin.ensures.lines c.in_ok-begin.ensures.ready c.run-ran.ensures.ran c.steps-before.result c.steps.result c.steps-before.ensures.count c.steps.ensures.count).1 in
    let fits = spent_fits i.admitted.now i.population.now.content i.cursor i.machine c.begin.new.machine c.run-ran.new.self i.begun i.lines.items c.begin.new.lines.items (vec_capacity i.lines) (vec_capacity c.begin.new.lines) i.spent c.args.grant c.run-ran.result
    c.self.invariant c.begin.ensures.task c.run-ran.ensures.task c.begin.ensures.lines c.in_ok-begin.ensures.ready c.run-ran.ensures.ran in
    omega (arith, used, fits)

-- src/job.rt: memory ran out in the run
pub invariant_of-self-in_err-ran : goal.invariant_of-self-in_err-ran
invariant_of-self-in_err-ran c =
    let i = c.self.inside in
    let used = c.from.ensures ∙ (count_is i.admitted.now i.population.now.content i.cursor i.machine c.begin.new.machine c.run-ran.new.self i.begun i.lines.items c.begin.new.lines.items (vec_capacity i.lines) (vec_capacity c.begin.new.lines) i.spent c.args.grant c.run-ran.result
    c.self.invariant c.begin.ensures.task c.run-ran.ensures.task c.begin.ensures.lines c.in_ok-begin.ensures.ready c.run-ran.ensures.ran c.steps-before.result c.steps.result c.steps-before.ensures.count c.steps.ensures.count).1 in
    let open_run = refused_at i.admitted.now i.population.now.content i.cursor i.machine c.begin.new.machine c.run-ran.new.self i.begun i.lines.items c.begin.new.lines.items (vec_capacity i.lines) (vec_capacity c.begin.new.lines) i.spent c.args.grant c.run-ran.result
    c.self.invariant c.begin.ensures.task c.run-ran.ensures.task c.begin.ensures.lines c.in_ok-begin.ensures.ready c.run-ran.ensures.ran _ c.in_err-ran.was in
    let stands = still_stands i.admitted.now i.population.now.content i.cursor i.machine c.begin.new.machine c.run-ran.new.self i.begun i.lines.items c.begin.new.lines.items (vec_capacity i.lines) (vec_capacity c.begin.new.lines) i.spent c.args.grant c.run-ran.result
    c.self.invariant c.begin.ensures.task c.run-ran.ensures.task c.begin.ensures.lines c.in_ok-begin.ensures.ready c.run-ran.ensures.ran open_run.0 in
    subst (λ n. Stands i.admitted.now i.population.now.content i.cursor c.run-ran.new.self true c.begin.new.lines.items (vec_capacity c.begin.new.lines) (i.spent + n)) (sym used) stands

pub returns-in_err-ran-clause-moved : goal.returns-in_err-ran-clause-moved
returns-in_err-ran-clause-moved c =
    let i = c.self.inside in
    let spent : i.spent ≡ c.args.self.now.job.spent = ap (λ (x : JobSeen). x.spent) (ap job_in c.self.view_is) in
    let total : sum (costs_of i.admitted.now.resolved.unit i.population.now.content) ≡ total_cost c.args.self.now.job = ap total_cost (ap job_in c.self.view_is) in
    let used = c.from.ensures ∙ (count_is i.admitted.now i.population.now.content i.cursor i.machine c.begin.new.machine c.run-ran.new.self i.begun i.lines.items c.begin.new.lines.items (vec_capacity i.lines) (vec_capacity c.begin.new.lines) i.spent c.args.grant c.run-ran.result
    c.self.invariant c.begin.ensures.task c.run-ran.ensures.task c.begin.ensures.lines c.in_ok-begin.ensures.ready c.run-ran.ensures.ran c.steps-before.result c.steps.result c.steps-before.ensures.count c.steps.ensures.count).1 in
    let open_run = refused_at i.admitted.now i.population.now.content i.cursor i.machine c.begin.new.machine c.run-ran.new.self i.begun i.lines.items c.begin.new.lines.items (vec_capacity i.lines) (vec_capacity c.begin.new.lines) i.spent c.args.grant c.run-ran.result
    c.self.invariant c.begin.ensures.task c.run-ran.ensures.task c.begin.ensures.lines c.in_ok-begin.ensures.ready c.run-ran.ensures.ran _ c.in_err-ran.was in
    let below = below_cost i.admitted.now i.population.now.content i.cursor i.machine c.begin.new.machine c.run-ran.new.self i.begun i.lines.items c.begin.new.lines.items (vec_capacity i.lines) (vec_capacity c.begin.new.lines) i.spent c.args.grant c.run-ran.result
    c.self.invariant c.begin.ensures.task c.run-ran.ensures.task c.begin.ensures.lines c.in_ok-begin.ensures.ready c.run-ran.ensures.ran open_run.0 in
    let stands = invariant_of-self-in_err-ran c in
    let whole = spent_whole i.admitted.now i.population.now.content i.cursor c.run-ran.new.self true c.begin.new.lines.items (vec_capacity c.begin.new.lines) (i.spent + c.from.result) stands in
    advanced_err c.args.self.now.job _ c.args.grant c.from_residual-in_err-ran.result c.from_residual-in_err-ran.ensures.0
    (omega (arith, spent)) (omega (arith, spent, used, open_run.1)) (omega (arith, used, below, total)) whole

pub returns-in_err-ran-clause-succeeds : goal.returns-in_err-ran-clause-succeeds
returns-in_err-ran-clause-succeeds c = λ needs.
    let i = c.self.inside in
    let none = subst (λ (h : JobHeld). NeedsNoMemory h.job h.room) (sym c.self.view_is) needs in
    absurd (not_both c.run-ran.result _ c.in_err-ran.was
    (goes_on i.admitted.now i.population.now.content i.cursor i.machine c.begin.new.machine c.run-ran.new.self i.begun i.lines.items c.begin.new.lines.items (vec_capacity i.lines) (vec_capacity c.begin.new.lines) i.spent c.args.grant c.run-ran.result
    c.self.invariant c.begin.ensures.task c.run-ran.ensures.task c.begin.ensures.lines c.in_ok-begin.ensures.ready c.run-ran.ensures.ran none.0 c.run-ran.ensures.succeeds))

-- src/job.rt: the grant ends within the pair
pub invariant_of-self-in-Paused : goal.invariant_of-self-in-Paused
invariant_of-self-in-Paused c =
    let i = c.self.inside in
    let used = c.from.ensures ∙ (count_is i.admitted.now i.population.now.content i.cursor i.machine c.begin.new.machine c.run-ran.new.self i.begun i.lines.items c.begin.new.lines.items (vec_capacity i.lines) (vec_capacity c.begin.new.lines) i.spent c.args.grant c.run-ran.result
    c.self.invariant c.begin.ensures.task c.run-ran.ensures.task c.begin.ensures.lines c.in_ok-begin.ensures.ready c.run-ran.ensures.ran c.steps-before.result c.steps.result c.steps-before.ensures.count c.steps.ensures.count).1 in
    let none = paused_at i.admitted.now i.population.now.content i.cursor i.machine c.begin.new.machine c.run-ran.new.self i.begun i.lines.items c.begin.new.lines.items (vec_capacity i.lines) (vec_capacity c.begin.new.lines) i.spent c.args.grant c.run-ran.result
    c.self.invariant c.begin.ensures.task c.run-ran.ensures.task c.begin.ensures.lines c.in_ok-begin.ensures.ready c.run-ran.ensures.ran (c.in_ok-ran.was ∙ ap Ok c.in-Paused.is) in
    let stands = still_stands i.admitted.now i.population.now.content i.cursor i.machine c.begin.new.machine c.run-ran.new.self i.begun i.lines.items c.begin.new.lines.items (vec_capacity i.lines) (vec_capacity c.begin.new.lines) i.spent c.args.grant c.run-ran.result
    c.self.invariant c.begin.ensures.task c.run-ran.ensures.task c.begin.ensures.lines c.in_ok-begin.ensures.ready c.run-ran.ensures.ran none in
    subst (λ n. Stands i.admitted.now i.population.now.content i.cursor c.run-ran.new.self true c.begin.new.lines.items (vec_capacity c.begin.new.lines) (i.spent + n)) (sym used) stands

pub returns-in-Paused-clause-moved : goal.returns-in-Paused-clause-moved
returns-in-Paused-clause-moved c =
    let i = c.self.inside in
    let used = c.from.ensures ∙ (count_is i.admitted.now i.population.now.content i.cursor i.machine c.begin.new.machine c.run-ran.new.self i.begun i.lines.items c.begin.new.lines.items (vec_capacity i.lines) (vec_capacity c.begin.new.lines) i.spent c.args.grant c.run-ran.result
    c.self.invariant c.begin.ensures.task c.run-ran.ensures.task c.begin.ensures.lines c.in_ok-begin.ensures.ready c.run-ran.ensures.ran c.steps-before.result c.steps.result c.steps-before.ensures.count c.steps.ensures.count).1 in
    let paid = paused_pays i.admitted.now i.population.now.content i.cursor i.machine c.begin.new.machine c.run-ran.new.self i.begun i.lines.items c.begin.new.lines.items (vec_capacity i.lines) (vec_capacity c.begin.new.lines) i.spent c.args.grant c.run-ran.result
    c.self.invariant c.begin.ensures.task c.run-ran.ensures.task c.begin.ensures.lines c.in_ok-begin.ensures.ready c.run-ran.ensures.ran (c.in_ok-ran.was ∙ ap Ok c.in-Paused.is) in
    let P : JobSeen → Type 0 = λ x. (i.spent + c.from.result ≡ spent_after x c.args.grant) × (x.spent + c.args.grant < total_cost x) in
    subst P (ap job_in c.self.view_is) (ap (λ n. i.spent + n) used ∙ paid.0, paid.1)

-- src/job.rt: there is room for the line
pub unreachable-requires : goal.unreachable-requires
unreachable-requires c =
    let i = c.self.inside in
    let here = ready i.admitted.now i.population.now.content i.cursor i.machine c.begin.new.machine c.run-ran.new.self i.begun i.lines.items c.begin.new.lines.items (vec_capacity i.lines) (vec_capacity c.begin.new.lines) i.spent c.args.grant c.run-ran.result
    c.self.invariant c.begin.ensures.task c.run-ran.ensures.task c.begin.ensures.lines c.in_ok-begin.ensures.ready c.run-ran.ensures.ran in
    not_refused c.tell.result (c.tell.ensures.succeeds here.room) (sym c.is_err.ensures.value ∙ c.if-is_err.true)

-- src/job.rt: the pair's end
pub overflow_sub-result : goal.overflow_sub-result
overflow_sub-result c =
    let i = c.self.inside in
    let used = (count_is i.admitted.now i.population.now.content i.cursor i.machine c.begin.new.machine c.run-ran.new.self i.begun i.lines.items c.begin.new.lines.items (vec_capacity i.lines) (vec_capacity c.begin.new.lines) i.spent c.args.grant c.run-ran.result
    c.self.invariant c.begin.ensures.task c.run-ran.ensures.task c.begin.ensures.lines c.in_ok-begin.ensures.ready c.run-ran.ensures.ran c.steps-before.result c.steps.result c.steps-before.ensures.count c.steps.ensures.count).1 in
    let within = used_within_grant i.admitted.now i.population.now.content i.cursor i.machine c.begin.new.machine c.run-ran.new.self i.begun i.lines.items c.begin.new.lines.items (vec_capacity i.lines) (vec_capacity c.begin.new.lines) i.spent c.args.grant c.run-ran.result
    c.self.invariant c.begin.ensures.task c.run-ran.ensures.task c.begin.ensures.lines c.in_ok-begin.ensures.ready c.run-ran.ensures.ran in
    omega (arith, used, within)

pub invariant_of-self-in-Done : goal.invariant_of-self-in-Done
invariant_of-self-in-Done c =
    let i = c.self.inside in
    let used = c.from.ensures ∙ (count_is i.admitted.now i.population.now.content i.cursor i.machine c.begin.new.machine c.run-ran.new.self i.begun i.lines.items c.begin.new.lines.items (vec_capacity i.lines) (vec_capacity c.begin.new.lines) i.spent c.args.grant c.run-ran.result
    c.self.invariant c.begin.ensures.task c.run-ran.ensures.task c.begin.ensures.lines c.in_ok-begin.ensures.ready c.run-ran.ensures.ran c.steps-before.result c.steps.result c.steps-before.ensures.count c.steps.ensures.count).1 in
    let more = on_success c.tell.result _ (sym c.is_err.ensures.value ∙ c.if-is_err.false) c.tell.ensures.told in
    let next = next_stands i.admitted.now i.population.now.content i.cursor i.machine c.begin.new.machine c.run-ran.new.self i.begun i.lines.items c.begin.new.lines.items (vec_capacity i.lines) (vec_capacity c.begin.new.lines) i.spent c.args.grant c.run-ran.result
    c.self.invariant c.begin.ensures.task c.run-ran.ensures.task c.begin.ensures.lines c.in_ok-begin.ensures.ready c.run-ran.ensures.ran c.in-Done.verdict c.tell.new.self c.tell.new.out.items (vec_capacity c.tell.new.out) (c.in_ok-ran.was ∙ ap Ok c.in-Done.is) more in
    subst (λ n. Stands i.admitted.now i.population.now.content c.tell.new.self c.run-ran.new.self false c.tell.new.out.items (vec_capacity c.tell.new.out) (i.spent + n)) (sym used) next.1

pub returns-else-is_err-clause-moved : goal.returns-else-is_err-clause-moved
returns-else-is_err-clause-moved c =
    let i = c.self.inside in
    let spent : i.spent ≡ c.args.self.now.job.spent = ap (λ (x : JobSeen). x.spent) (ap job_in c.self.view_is) in
    let total : sum (costs_of i.admitted.now.resolved.unit i.population.now.content) ≡ total_cost c.args.self.now.job = ap total_cost (ap job_in c.self.view_is) in
    let count = (count_is i.admitted.now i.population.now.content i.cursor i.machine c.begin.new.machine c.run-ran.new.self i.begun i.lines.items c.begin.new.lines.items (vec_capacity i.lines) (vec_capacity c.begin.new.lines) i.spent c.args.grant c.run-ran.result
    c.self.invariant c.begin.ensures.task c.run-ran.ensures.task c.begin.ensures.lines c.in_ok-begin.ensures.ready c.run-ran.ensures.ran c.steps-before.result c.steps.result c.steps-before.ensures.count c.steps.ensures.count).1 in
    let more = on_success c.tell.result _ (sym c.is_err.ensures.value ∙ c.if-is_err.false) c.tell.ensures.told in
    let next = next_stands i.admitted.now i.population.now.content i.cursor i.machine c.begin.new.machine c.run-ran.new.self i.begun i.lines.items c.begin.new.lines.items (vec_capacity i.lines) (vec_capacity c.begin.new.lines) i.spent c.args.grant c.run-ran.result
    c.self.invariant c.begin.ensures.task c.run-ran.ensures.task c.begin.ensures.lines c.in_ok-begin.ensures.ready c.run-ran.ensures.ran c.in-Done.verdict c.tell.new.self c.tell.new.out.items (vec_capacity c.tell.new.out) (c.in_ok-ran.was ∙ ap Ok c.in-Done.is) more in
    let within = used_within_grant i.admitted.now i.population.now.content i.cursor i.machine c.begin.new.machine c.run-ran.new.self i.begun i.lines.items c.begin.new.lines.items (vec_capacity i.lines) (vec_capacity c.begin.new.lines) i.spent c.args.grant c.run-ran.result
    c.self.invariant c.begin.ensures.task c.run-ran.ensures.task c.begin.ensures.lines c.in_ok-begin.ensures.ready c.run-ran.ensures.ran in
    let stands = invariant_of-self-in-Done c in
    let below = spent_within i.admitted.now i.population.now.content c.tell.new.self c.run-ran.new.self false c.tell.new.out.items (vec_capacity c.tell.new.out) (i.spent + c.from.result) stands in
    let whole = spent_whole i.admitted.now i.population.now.content c.tell.new.self c.run-ran.new.self false c.tell.new.out.items (vec_capacity c.tell.new.out) (i.spent + c.from.result) stands in
    (omega (arith, count, next.0, within), omega (arith, spent, c.from.ensures, count, within), omega (arith, below, total), whole)
