use Rattle.std.proofs.Common.{arith, ◌+◌, ◌-◌, ◌^◌, ◌≡◌, ◌<◌, refl, subst}
use Rattle.std.proofs.lemmas.Result.{err_from_is_err_and}
use Rattle.rule_machine.specs.Shown.{depths_in}
use Rattle.rule_machine.proofs.Ran.{somewhere_goes, somewhere_same, somewhere_steps, somewhere_room, somewhere_next, some_charge, its_stand, counted, room_same, rooms_joined, Came, came_none, came_next, is_started, task_same, task_next, is_done, is_paused, is_refused}
use Rattle.rule_machine.proofs.state.State.run.Goals as goal

pub steps-init : goal.steps-init
steps-init c =
    let t = c.args.task in
    let m = c.args.self.now in
    let e : 0 ≡ c.args.grant - c.from-left.result = omega (arith, c.from-left.ensures) in
    record {
      left = omega (arith, c.from-left.ensures);
      rule = c.requires.rule;
      stands = its_stand t m c.requires.rule c.requires.stands;
      came = subst (λ n. Came t m n m) e (came_none t m);
      room = record { operands = refl; variables = refl; pieces = refl };
    }

pub verdict_at_end-requires-clause-place : goal.verdict_at_end-requires-clause-place
verdict_at_end-requires-clause-place c = c.steps.invariant.stands.3.stands.place

pub verdict_at_end-requires-clause-goes : goal.verdict_at_end-requires-clause-goes
verdict_at_end-requires-clause-goes c = somewhere_goes c.args.task c.steps.self c.steps.invariant.stands

pub returns-in-Some-clause-ran : goal.returns-in-Some-clause-ran
returns-in-Some-clause-ran c =
    is_done c.args.task c.args.self.now c.steps.self c.verdict_at_end.new.self c.args.grant (c.args.grant - c.steps.left) c.in-Some.verdict c.requires.rule (omega arith) c.in-Some.ensures.same c.in-Some.ensures.outcome c.steps.invariant.came

pub returns-in-Some-clause-stands : goal.returns-in-Some-clause-stands
returns-in-Some-clause-stands c = is_started c.args.task c.verdict_at_end.new.self (somewhere_same c.args.task c.steps.self c.verdict_at_end.new.self c.in-Some.ensures.same c.steps.invariant.stands)

pub returns-in-Some-clause-rule : goal.returns-in-Some-clause-rule
returns-in-Some-clause-rule c = task_same c.args.task c.steps.self c.verdict_at_end.new.self c.in-Some.ensures.same c.steps.invariant.rule

pub returns-in-Some-clause-room : goal.returns-in-Some-clause-room
returns-in-Some-clause-room c = rooms_joined c.args.task c.args.self.now c.steps.self c.verdict_at_end.new.self c.steps.invariant.room c.in-Some.ensures.same.kept.room

pub returns-then-charge-left-clause-ran : goal.returns-then-charge-left-clause-ran
returns-then-charge-left-clause-ran c =
    is_paused c.args.task c.args.self.now c.steps.self c.verdict_at_end.new.self c.args.grant (c.args.grant - c.steps.left) c.charge-charge.result c.requires.rule (omega arith) (omega (arith, c.steps.invariant.left, c.if-charge-left.true)) c.charge-charge.ensures c.in_default.ensures.front c.in_default.ensures.same c.steps.invariant.came

pub returns-then-charge-left-clause-stands : goal.returns-then-charge-left-clause-stands
returns-then-charge-left-clause-stands c = is_started c.args.task c.verdict_at_end.new.self (somewhere_same c.args.task c.steps.self c.verdict_at_end.new.self c.in_default.ensures.same c.steps.invariant.stands)

pub returns-then-charge-left-clause-rule : goal.returns-then-charge-left-clause-rule
returns-then-charge-left-clause-rule c = task_same c.args.task c.steps.self c.verdict_at_end.new.self c.in_default.ensures.same c.steps.invariant.rule

pub returns-then-charge-left-clause-room : goal.returns-then-charge-left-clause-room
returns-then-charge-left-clause-room c = rooms_joined c.args.task c.args.self.now c.steps.self c.verdict_at_end.new.self c.steps.invariant.room c.in_default.ensures.same.kept.room

pub step-requires-clause-goes : goal.step-requires-clause-goes
step-requires-clause-goes c =
    let s = somewhere_same c.args.task c.steps.self c.verdict_at_end.new.self c.in_default.ensures.same c.steps.invariant.stands in
    (s.1, s.3.stands.is, somewhere_steps c.args.task c.verdict_at_end.new.self c.in_default.ensures.front s)

pub step-requires-clause-room : goal.step-requires-clause-room
step-requires-clause-room c =
    let t = c.args.task in
    let s = somewhere_same t c.steps.self c.verdict_at_end.new.self c.in_default.ensures.same c.steps.invariant.stands in
    let room = rooms_joined t c.args.self.now c.steps.self c.verdict_at_end.new.self c.steps.invariant.room c.in_default.ensures.same.kept.room in
    somewhere_room t c.verdict_at_end.new.self c.in_default.ensures.front (room_same t (depths_in t) c.args.self.now c.verdict_at_end.new.self room c.requires.room) s

pub returns-in_err-step-clause-ran : goal.returns-in_err-step-clause-ran
returns-in_err-step-clause-ran c =
    let p = err_from_is_err_and c.from_residual.result c.from_residual.ensures.1 in
    let small : c.charge-charge.result < 2 ^ 128 - 1 = omega (arith, c.steps.invariant.left, c.if-charge-left.false, c.ranges.grant.fits) in
    rw p.1
    (is_refused c.args.task c.args.self.now c.steps.self c.verdict_at_end.new.self c.step.new.self c.args.grant (c.args.grant - c.steps.left) c.charge-charge.result c.requires.rule (omega (arith, c.steps.invariant.left, c.if-charge-left.false)) c.charge-charge.ensures small c.in_default.ensures.front c.in_default.ensures.same c.in_err-step.ensures.refused c.steps.invariant.came)

pub returns-in_err-step-clause-spare : goal.returns-in_err-step-clause-spare
returns-in_err-step-clause-spare c =
    let p = err_from_is_err_and c.from_residual.result c.from_residual.ensures.1 in
    let s = somewhere_same c.args.task c.steps.self c.verdict_at_end.new.self c.in_default.ensures.same c.steps.invariant.stands in
    rw p.1 (omega (arith, c.steps.invariant.left, c.if-charge-left.false, some_charge c.args.task c.verdict_at_end.new.self c.charge-charge.result c.charge-charge.ensures c.in_default.ensures.front s))

pub returns-in_err-step-clause-stands : goal.returns-in_err-step-clause-stands
returns-in_err-step-clause-stands c =
    is_started c.args.task c.step.new.self (somewhere_same c.args.task c.verdict_at_end.new.self c.step.new.self c.in_err-step.ensures.refused (somewhere_same c.args.task c.steps.self c.verdict_at_end.new.self c.in_default.ensures.same c.steps.invariant.stands))

pub returns-in_err-step-clause-rule : goal.returns-in_err-step-clause-rule
returns-in_err-step-clause-rule c =
    task_same c.args.task c.verdict_at_end.new.self c.step.new.self c.in_err-step.ensures.refused (task_same c.args.task c.steps.self c.verdict_at_end.new.self c.in_default.ensures.same c.steps.invariant.rule)

pub returns-in_err-step-clause-room : goal.returns-in_err-step-clause-room
returns-in_err-step-clause-room c =
    let t = c.args.task in
    rooms_joined t c.args.self.now c.verdict_at_end.new.self c.step.new.self (rooms_joined t c.args.self.now c.steps.self c.verdict_at_end.new.self c.steps.invariant.room c.in_default.ensures.same.kept.room) c.in_err-step.ensures.refused.kept.room

pub steps-smaller : goal.steps-smaller
steps-smaller c =
    let s = somewhere_same c.args.task c.steps.self c.verdict_at_end.new.self c.in_default.ensures.same c.steps.invariant.stands in
    omega (arith, c.if-charge-left.false, some_charge c.args.task c.verdict_at_end.new.self c.charge-charge.result c.charge-charge.ensures c.in_default.ensures.front s)

pub steps-preserved : goal.steps-preserved
steps-preserved c =
    let t = c.args.task in
    let i = c.steps.invariant in
    let m = c.steps.self in
    let m1 = c.verdict_at_end.new.self in
    let charge = c.charge-charge.result in
    let same = c.in_default.ensures.same in
    let front = c.in_default.ensures.front in
    let made = c.in_ok-step.ensures.made in
    let new = counted t c.step.new.self c.with_charge-self.result in
    let small : charge < 2 ^ 128 - 1 = omega (arith, i.left, c.if-charge-left.false, c.ranges.grant.fits) in
    let e : c.args.grant - c.steps.left + charge ≡ c.args.grant - (c.steps.left - charge) = omega (arith, i.left, c.if-charge-left.false) in
    let room = rooms_joined t c.args.self.now m1 c.step.new.self (rooms_joined t c.args.self.now m m1 i.room same.kept.room) made.kept.room in
    record {
      left = omega (arith, i.left);
      rule = task_next t m m1 c.step.new.self c.with_charge-self.result same made i.rule;
      stands = somewhere_next t m1 c.step.new.self c.with_charge-self.result charge c.charge-charge.ensures front made c.with_charge-self.ensures (somewhere_same t m m1 same i.stands);
      came = subst (λ n. Came t c.args.self.now n new) e (came_next t c.args.self.now m m1 c.step.new.self (c.args.grant - c.steps.left) c.with_charge-self.result charge same c.charge-charge.ensures small front made c.with_charge-self.ensures i.came);
      room = record { operands = room.operands; variables = room.variables; pieces = room.pieces };
    }
