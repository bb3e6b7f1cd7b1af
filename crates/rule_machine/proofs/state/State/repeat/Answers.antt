use Rattle.std.proofs.Common.{◌≡◌, Some, arith, refl, sym, subst}
use Rattle.std.specs.Prelude.{slice_get}
use Rattle.rule_slots.specs.Slots.{held_slots, lists_in}
use Rattle.rule_machine.specs.StandFor.{Between, following_turn}
use Rattle.rule_machine.specs.Shown.{code_in, setting_in, task_lists, IsTurnIn, ArePiecesIn}
use Rattle.rule_machine.proofs.MarkSteps.{turn_begins}
use Rattle.rule_machine.proofs.Lies.{is_with, same_turn, same_below}
use Rattle.rule_machine.proofs.state.State.repeat.Goals as goal

pub returns : goal.returns
returns c =
    let m = c.args.self.now in
    let r = c.requires in
    let o = r.on_top in
    let t = c.args.task in
    let u = c.top_turn-turn.result.now in
    let f = c.top_turn-turn.ensures in
    let s = setting_in t in
    let l = task_lists t in
    let code = code_in t in
    let p = m.pool.items in
    let last = c.args.last in
    let e = c.element-taken.result in
    let g : slice_get (held_slots l p u.source) u.next ≡ Some e =
    subst (λ x. slice_get (held_slots x p u.source) u.next ≡ Some e) c.lists.ensures (subst (λ q. slice_get (held_slots (lists_in c.lists.result) q u.source) u.next ≡ Some e) c.deref.ensures.value c.element-taken.ensures) in
    let turn = subst (IsTurnIn code) (same_turn m.pieces.0 o.after u o.below f.0 o.first f.1) o.turn in
    let pending = subst (ArePiecesIn code) (same_below m.pieces.0 o.after u o.below f.0 o.first f.1) o.place.pending in
    let inside : IsTurnIn code (following_turn u) = record { iterates = turn.iterates; order = turn.order; within = turn.within; next = omega (arith, r.left u f.0 f.1); listed = turn.listed } in
    let items = c.set_next.ensures.items u f.0 f.1 in
    record {
      made = λ after below d top b.
          let b1 = subst (λ k. Between s l code p k last below m.variables.0 m.operands.0 d) (same_turn m.pieces.0 after u below f.0 top f.1) b in
          let b2 = subst (λ k. Between s l code p u last k m.variables.0 m.operands.0 d) (same_below m.pieces.0 after u below f.0 top f.1) b1 in
          is_with s l code p _ _ _ _ _ _ _ _ d items c.bind_turn.ensures.items refl (turn_begins s l code p u last f.0 m.variables.0 m.operands.0 d e b2 g);
      place = record { order = turn.order; within = turn.within; pending = subst (ArePiecesIn code) (sym items) (inside, pending) };
      kept = record { started = refl; count = refl; room = record { operands = refl; variables = c.bind_turn.ensures.room; pieces = c.set_next.ensures.room } };
    }
