use Rattle.std.proofs.Common.{◌+◌, ◌-◌, arith, subst, sym, ap, ◌∙◌}
use Rattle.std.specs.Prelude.{◌^◌, min}
use Rattle.std.proofs.lemmas.Result.{err_from_is_err_and}
use Rattle.rule_machine.specs.Shown.{depths_in}
use Rattle.rule_machine.proofs.Ran.{somewhere_goes, somewhere_steps, somewhere_room, room_same, rooms_joined, Standing, standing_begun, standing_somewhere, standing_same, standing_next, standing_below, is_judged, is_judge_refused, its_verdict, counted}
use Rattle.rule_machine.proofs.state.State.judge_counted.Goals as goal

pub steps-init : goal.steps-init
steps-init g c =
    let b = c.open-book.ensures in
    (omega (arith, b.parts, c.requires.whole), subst (Standing c.args.task c.args.object c.start.new.self) (sym b.total) (standing_begun c.args.task c.args.object c.start.new.self c.requires.accepted c.start.ensures.started), c.start.ensures.room)

pub verdict_at_end-requires-clause-place : goal.verdict_at_end-requires-clause-place
verdict_at_end-requires-clause-place g c = c.steps.invariant.1.2.stands.place

pub verdict_at_end-requires-clause-goes : goal.verdict_at_end-requires-clause-goes
verdict_at_end-requires-clause-goes g c = somewhere_goes c.args.task c.steps.self (standing_somewhere c.args.task c.args.object c.steps.self c.steps.book.total c.steps.invariant.1)

pub returns-in-Some-clause-judged : goal.returns-in-Some-clause-judged
returns-in-Some-clause-judged g c =
    is_judged c.args.task c.args.self.now c.args.object c.steps.self c.verdict_at_end.new.self c.steps.book.total c.in-Some.verdict c.in-Some.ensures.outcome c.in-Some.ensures.same c.steps.invariant.1

pub returns-in-Some-clause-verdict : goal.returns-in-Some-clause-verdict
returns-in-Some-clause-verdict g c =
    its_verdict c.args.task c.args.object c.steps.self c.steps.book.total c.in-Some.verdict c.in-Some.ensures.outcome c.steps.invariant.1

pub returns-in-Some-clause-room : goal.returns-in-Some-clause-room
returns-in-Some-clause-room g c = rooms_joined c.args.task c.args.self.now c.steps.self c.verdict_at_end.new.self c.steps.invariant.2 c.in-Some.ensures.same.kept.room

pub step-requires-clause-goes : goal.step-requires-clause-goes
step-requires-clause-goes g c =
    let t = c.args.task in
    let s = standing_somewhere t c.args.object c.verdict_at_end.new.self c.steps.book.total (standing_same t c.args.object c.steps.self c.verdict_at_end.new.self c.steps.book.total c.in_default.ensures.same c.steps.invariant.1) in
    (s.1, s.3.stands.is, somewhere_steps t c.verdict_at_end.new.self c.in_default.ensures.front s)

pub step-requires-clause-room : goal.step-requires-clause-room
step-requires-clause-room g c =
    let t = c.args.task in
    let s = standing_somewhere t c.args.object c.verdict_at_end.new.self c.steps.book.total (standing_same t c.args.object c.steps.self c.verdict_at_end.new.self c.steps.book.total c.in_default.ensures.same c.steps.invariant.1) in
    let room = rooms_joined t c.args.self.now c.steps.self c.verdict_at_end.new.self c.steps.invariant.2 c.in_default.ensures.same.kept.room in
    somewhere_room t c.verdict_at_end.new.self c.in_default.ensures.front (room_same t (depths_in t) c.args.self.now c.verdict_at_end.new.self room c.requires.room) s

pub returns-in_err-step-clause-judged : goal.returns-in_err-step-clause-judged
returns-in_err-step-clause-judged g c =
    let p = err_from_is_err_and c.from_residual.result c.from_residual.ensures.1 in
    let s = standing_same c.args.task c.args.object c.steps.self c.verdict_at_end.new.self c.steps.book.total c.in_default.ensures.same c.steps.invariant.1 in
    rw p.1 (is_judge_refused c.args.task c.args.self.now c.verdict_at_end.new.self c.step.new.self c.args.object c.steps.book.total _ c.in_default.ensures.front c.in_err-step.ensures.refused s)

pub returns-in_err-step-clause-room : goal.returns-in_err-step-clause-room
returns-in_err-step-clause-room g c =
    let t = c.args.task in
    rooms_joined t c.args.self.now c.verdict_at_end.new.self c.step.new.self (rooms_joined t c.args.self.now c.steps.self c.verdict_at_end.new.self c.steps.invariant.2 c.in_default.ensures.same.kept.room) c.in_err-step.ensures.refused.kept.room

pub steps-smaller : goal.steps-smaller
steps-smaller g c =
    let s = standing_same c.args.task c.args.object c.steps.self c.verdict_at_end.new.self c.steps.book.total c.in_default.ensures.same c.steps.invariant.1 in
    omega (arith, c.add.ensures.total, standing_below c.args.task c.args.object c.verdict_at_end.new.self c.steps.book.total c.in_default.ensures.front s)

pub steps-preserved : goal.steps-preserved
steps-preserved g c =
    let t = c.args.task in
    let m1 = c.verdict_at_end.new.self in
    let made = c.in_ok-step.ensures.made in
    let s = standing_same t c.args.object c.steps.self m1 c.steps.book.total c.in_default.ensures.same c.steps.invariant.1 in
    let charge = c.next_count-count.ensures.0 in
    let count = c.next_count-count.ensures.2 ∙ ap (λ n. min (n + charge) (2 ^ 64 - 1)) (sym made.kept.count) in
    let r = standing_next t c.args.object m1 c.step.new.self c.steps.book.total c.next_count-count.result charge c.next_count-count.ensures.1 c.in_default.ensures.front made count s in
    let room = rooms_joined t c.args.self.now m1 c.step.new.self (rooms_joined t c.args.self.now c.steps.self m1 c.steps.invariant.2 c.in_default.ensures.same.kept.room) made.kept.room in
    (omega (arith, c.steps.invariant.0, c.add.ensures.parts), subst (Standing t c.args.object (counted t c.step.new.self c.next_count-count.result)) (sym c.add.ensures.total) r, record { operands = room.operands; variables = room.variables; pieces = room.pieces })
