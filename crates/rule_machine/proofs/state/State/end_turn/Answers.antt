use Rattle.std.proofs.Common.{◌≡◌, ◌+◌, ◌-◌, ◌≤◌, ◌∷◌, ◌++◌, Some, length, take, drop, length-append, arith, refl, sym, subst, ap, ◌∙◌}
use Rattle.std.specs.Prelude.{slice_get}
use Rattle.std.proofs.lemmas.List.{length-take-le}
use Rattle.rule_verify.specs.InstrKinds.{bound_count}
use Rattle.rule_values.specs.Operations.{is_true, is_false, is_invalid}
use Rattle.rule_machine.specs.declared.piece.Piece.TheVariants as piece
use Rattle.rule_slots.specs.declared.slot.Slot.{Slot}
use Rattle.rule_slots.specs.Slots.{held_slots, invalid_mark, IsInHome}
use Rattle.rule_machine.specs.StandFor.{IsAt, kept_slots, turn_after, with_counts}
use Rattle.rule_machine.specs.Shown.{code_in, setting_in, task_lists, ArePiecesIn}
use Rattle.rule_machine.proofs.Keeps.{count_low}
use Rattle.rule_machine.proofs.MarkSteps.{Leaving, leaves}
use Rattle.rule_machine.proofs.TurnEnds.{end_of, source_within, turn_takes, turn_over, flat_within}
use Rattle.rule_machine.proofs.state.State.end_turn.Goals as goal

pub keep-requires-clause-begun : goal.keep-requires-clause-begun
keep-requires-clause-begun c =
    let m = c.args.self.now in
    let r = c.requires in
    let t = c.args.task in
    let u = c.top_turn-turn.result.now in
    let f = c.top_turn-turn.ensures in
    let s = setting_in t in
    let l = task_lists t in
    let code = code_in t in
    let p = m.pool.items in
    let e0 = end_of s l code p m.at m.end u f.0 m.variables.0 m.operands.0 r.goes.0 r.at_end (subst (λ x. IsAt s l code p m.at m.end x m.variables.0 m.operands.0 r.goes.0) f.1 r.goes.1) r.goes.2 in
    omega (arith, e0.leaving.turns)

pub keep-requires-clause-next : goal.keep-requires-clause-next
keep-requires-clause-next c =
    let lies = subst (ArePiecesIn (code_in c.args.task)) c.top_turn-turn.ensures.1 c.requires.place.pending in
    lies.0.next

pub keep-requires-clause-within : goal.keep-requires-clause-within
keep-requires-clause-within c =
    let m = c.args.self.now in
    let r = c.requires in
    let t = c.args.task in
    let u = c.top_turn-turn.result.now in
    let f = c.top_turn-turn.ensures in
    let s = setting_in t in
    let l = task_lists t in
    let code = code_in t in
    let p = m.pool.items in
    let e0 = end_of s l code p m.at m.end u f.0 m.variables.0 m.operands.0 r.goes.0 r.at_end (subst (λ x. IsAt s l code p m.at m.end x m.variables.0 m.operands.0 r.goes.0) f.1 r.goes.1) r.goes.2 in
    subst (λ q. IsInHome q (length p) u.source) (sym c.lists-lists.ensures) (source_within s l code p u f.0 (drop (bound_count u.instr) m.variables.0) e0.y e0.os1 r.goes.0 e0.leaving)

pub keep-requires-clause-there : goal.keep-requires-clause-there
keep-requires-clause-there c =
    let m = c.args.self.now in
    let r = c.requires in
    let t = c.args.task in
    let u = c.top_turn-turn.result.now in
    let f = c.top_turn-turn.ensures in
    let s = setting_in t in
    let l = task_lists t in
    let code = code_in t in
    let p = m.pool.items in
    let e0 = end_of s l code p m.at m.end u f.0 m.variables.0 m.operands.0 r.goes.0 r.at_end (subst (λ x. IsAt s l code p m.at m.end x m.variables.0 m.operands.0 r.goes.0) f.1 r.goes.1) r.goes.2 in
    let y : e0.y ≡ c.args.last = let a = e0.ops_are in let b = r.last.1 in cc (a, b) in
    λ n is no. subst (λ q. IsInHome q (length p) c.args.last) (sym c.lists-lists.ensures) (subst (λ x. IsInHome l (length p) x) y (flat_within s l code p p u f.0 (drop (bound_count u.instr) m.variables.0) e0.y e0.os1 r.goes.0 n e0.leaving is (ap (λ (x : Slot). invalid_mark x.mark) y ∙ no)))

pub counts_after-counts-requires-clause-kept : goal.counts_after-counts-requires-clause-kept
counts_after-counts-requires-clause-kept c =
    let m = c.args.self.now in
    let r = c.requires in
    let t = c.args.task in
    let u = c.top_turn-turn.result.now in
    let f = c.top_turn-turn.ensures in
    let s = setting_in t in
    let l = task_lists t in
    let code = code_in t in
    let p = m.pool.items in
    let e0 = end_of s l code p m.at m.end u f.0 m.variables.0 m.operands.0 r.goes.0 r.at_end (subst (λ x. IsAt s l code p m.at m.end x m.variables.0 m.operands.0 r.goes.0) f.1 r.goes.1) r.goes.2 in
    let y = c.args.last in
    let p2 = c.keep.new.pool.items in
    let more = c.in_ok-more.more in
    let lies = subst (ArePiecesIn code) f.1 r.place.pending in
    let taken = turn_takes s l code p u f.0 (drop (bound_count u.instr) m.variables.0) e0.y e0.os1 r.goes.0 e0.leaving lies.0.next in
    let kept : p2 ≡ take (u.opened + u.kept) p ++ kept_slots l p u.instr taken.0 y = (subst (λ x. (e : Slot) → slice_get (held_slots x p u.source) (u.next - 1) ≡ Some e → p2 ≡ take (u.opened + u.kept) p ++ kept_slots x p u.instr e y) c.lists-lists.ensures c.in_ok-more.ensures.kept) taken.0 taken.1 in
    let count : more ≡ length (kept_slots l p u.instr taken.0 y) = (subst (λ x. (e : Slot) → more ≡ length (kept_slots x p u.instr e y)) c.lists-lists.ensures c.in_ok-more.ensures.count) taken.0 in
    let above : u.opened + u.kept ≤ length p = e0.leaving.turn.above in
    let long : length p2 ≡ u.opened + u.kept + more = ap length kept ∙ omega (arith, length-append (take (u.opened + u.kept) p) (kept_slots l p u.instr taken.0 y), length-take-le (u.opened + u.kept) p above, count) in
    omega (arith, long)

pub counts_after-counts-requires-clause-trues : goal.counts_after-counts-requires-clause-trues
counts_after-counts-requires-clause-trues c =
    let m = c.args.self.now in
    let r = c.requires in
    let t = c.args.task in
    let u = c.top_turn-turn.result.now in
    let f = c.top_turn-turn.ensures in
    let s = setting_in t in
    let l = task_lists t in
    let code = code_in t in
    let p = m.pool.items in
    let e0 = end_of s l code p m.at m.end u f.0 m.variables.0 m.operands.0 r.goes.0 r.at_end (subst (λ x. IsAt s l code p m.at m.end x m.variables.0 m.operands.0 r.goes.0) f.1 r.goes.1) r.goes.2 in
    λ k. omega (arith, e0.leaving.turn.trues k, count_low is_true e0.leaving.bodies, e0.leaving.turns)

pub counts_after-counts-requires-clause-falses : goal.counts_after-counts-requires-clause-falses
counts_after-counts-requires-clause-falses c =
    let m = c.args.self.now in
    let r = c.requires in
    let t = c.args.task in
    let u = c.top_turn-turn.result.now in
    let f = c.top_turn-turn.ensures in
    let s = setting_in t in
    let l = task_lists t in
    let code = code_in t in
    let p = m.pool.items in
    let e0 = end_of s l code p m.at m.end u f.0 m.variables.0 m.operands.0 r.goes.0 r.at_end (subst (λ x. IsAt s l code p m.at m.end x m.variables.0 m.operands.0 r.goes.0) f.1 r.goes.1) r.goes.2 in
    λ k. omega (arith, e0.leaving.turn.falses k, count_low is_false e0.leaving.bodies, e0.leaving.turns)

pub counts_after-counts-requires-clause-invalids : goal.counts_after-counts-requires-clause-invalids
counts_after-counts-requires-clause-invalids c =
    let m = c.args.self.now in
    let r = c.requires in
    let t = c.args.task in
    let u = c.top_turn-turn.result.now in
    let f = c.top_turn-turn.ensures in
    let s = setting_in t in
    let l = task_lists t in
    let code = code_in t in
    let p = m.pool.items in
    let e0 = end_of s l code p m.at m.end u f.0 m.variables.0 m.operands.0 r.goes.0 r.at_end (subst (λ x. IsAt s l code p m.at m.end x m.variables.0 m.operands.0 r.goes.0) f.1 r.goes.1) r.goes.2 in
    omega (arith, e0.leaving.turn.invalids, count_low is_invalid e0.leaving.bodies, e0.leaving.turns)

pub returns-clause-over : goal.returns-clause-over
returns-clause-over c =
    let m = c.args.self.now in
    let r = c.requires in
    let t = c.args.task in
    let u = c.top_turn-turn.result.now in
    let f = c.top_turn-turn.ensures in
    let s = setting_in t in
    let l = task_lists t in
    let code = code_in t in
    let p = m.pool.items in
    let y = c.args.last in
    let vs = c.drop_top-2.new.self.0 in
    let os = c.drop_top.new.self.0 in
    let p2 = c.keep.new.pool.items in
    let more = c.in_ok-more.more in
    let e0 = end_of s l code p m.at m.end u f.0 m.variables.0 m.operands.0 r.goes.0 r.at_end (subst (λ x. IsAt s l code p m.at m.end x m.variables.0 m.operands.0 r.goes.0) f.1 r.goes.1) r.goes.2 in
    let lies = subst (ArePiecesIn code) f.1 r.place.pending in
    let taken = turn_takes s l code p u f.0 (drop (bound_count u.instr) m.variables.0) e0.y e0.os1 r.goes.0 e0.leaving lies.0.next in
    let left : os ≡ r.last.0 = c.drop_top.ensures.items ∙ ap (λ k. drop 1 k) r.last.1 in
    let eo : m.operands.0 ≡ y ∷ os = r.last.1 ∙ ap (λ k. y ∷ k) (sym left) in
    let kept = (subst (λ x. (e : Slot) → slice_get (held_slots x p u.source) (u.next - 1) ≡ Some e → p2 ≡ take (u.opened + u.kept) p ++ kept_slots x p u.instr e y) c.lists-lists.ensures c.in_ok-more.ensures.kept) taken.0 taken.1 in
    let count = (subst (λ x. (e : Slot) → more ≡ length (kept_slots x p u.instr e y)) c.lists-lists.ensures c.in_ok-more.ensures.count) taken.0 in
    record {
      after = turn_after u more y;
      below = f.0;
      first = c.set_counts.ensures.items u f.0 f.1 ∙ ap (λ k. piece.Turning (with_counts u k) ∷ f.0) c.counts_after-counts.ensures;
      turn = record { iterates = lies.0.iterates; order = lies.0.order; within = lies.0.within; next = lies.0.next; listed = lies.0.listed };
      place = record { order = r.place.order; within = r.place.within; pending = lies.1 };
      made = λ x i n.
          let i1 = subst (λ k. IsAt s l code p m.at m.end k m.variables.0 m.operands.0 x) f.1 i in
          let i2 = subst (λ k. IsAt s l code p m.at m.end (piece.Turning u ∷ f.0) m.variables.0 k x) eo i1 in
          let count_is = c.drop_top-2.ensures.items ∙ ap (λ k. drop k m.variables.0) c.bound_count.ensures in
          turn_over s l code p p2 u f.0 vs y os x taken.0 more (subst (λ k. Leaving s l code p u f.0 k y os x) (sym count_is) (leaves s l code p m.at m.end u f.0 m.variables.0 y os x r.at_end i2 n)) taken.1 kept count;
      kept = record { started = refl; count = refl; room = record { operands = c.drop_top.ensures.room; variables = c.drop_top-2.ensures.room; pieces = c.set_counts.ensures.room } };
    }
