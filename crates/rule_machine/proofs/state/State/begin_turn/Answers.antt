use Rattle.std.proofs.Common.{◌≡◌, Some, arith, refl, sym, subst}
use Rattle.std.specs.Prelude.{slice_get}
use Rattle.rule_slots.specs.Slots.{held_slots, lists_in}
use Rattle.rule_machine.specs.StandFor.{following_turn}
use Rattle.rule_machine.specs.Shown.{code_in, setting_in, task_lists, IsTurnIn, ArePiecesIn}
use Rattle.rule_machine.proofs.MarkSteps.{turn_begins}
use Rattle.rule_machine.proofs.Lies.{is_with}
use Rattle.rule_machine.proofs.state.State.begin_turn.Goals as goal

pub returns : goal.returns
returns c =
    let m = c.args.self.now in
    let r = c.requires in
    let t = c.args.task in
    let u = c.args.turn in
    let s = setting_in t in
    let l = task_lists t in
    let code = code_in t in
    let e = c.element-next.result in
    let g : slice_get (held_slots l m.pool.items u.source) u.next ≡ Some e =
    subst (λ x. slice_get (held_slots x m.pool.items u.source) u.next ≡ Some e) c.lists.ensures (subst (λ q. slice_get (held_slots (lists_in c.lists.result) q u.source) u.next ≡ Some e) c.deref.ensures.value c.element-next.ensures) in
    let inside : IsTurnIn code (following_turn u) = record { iterates = r.turn.iterates; order = r.turn.order; within = r.turn.within; next = omega (arith, r.left); listed = r.turn.listed } in
    record {
      made = λ d b. is_with s l code m.pool.items _ _ _ _ _ _ _ _ d c.push.ensures.items c.bind_turn.ensures.items refl (turn_begins s l code m.pool.items u c.args.last m.pieces.0 m.variables.0 m.operands.0 d e b g);
      place = record { order = r.turn.order; within = r.turn.within; pending = subst (ArePiecesIn code) (sym c.push.ensures.items) (inside, r.place.pending) };
      kept = record { started = refl; count = refl; room = record { operands = refl; variables = c.bind_turn.ensures.room; pieces = c.push.ensures.room } };
    }
