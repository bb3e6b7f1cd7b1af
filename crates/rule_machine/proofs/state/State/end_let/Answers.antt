use Rattle.std.proofs.Common.{◌≡◌, ◌∷◌, List, refl, subst, ap, ◌∙◌}
use Rattle.rule_machine.specs.declared.piece.Piece.{Piece as Pending}
use Rattle.rule_machine.specs.declared.piece.Piece.TheVariants as piece
use Rattle.rule_machine.specs.StandFor.{IsAt}
use Rattle.rule_machine.specs.Shown.{code_in, setting_in, task_lists, ArePiecesIn}
use Rattle.rule_machine.proofs.MarkSteps.{let_end_steps, let_end_has_variable}
use Rattle.rule_machine.proofs.state.State.end_let.Goals as goal

same_tail : (all cs : List Pending) (x y : Pending) (rest : List Pending) → all ≡ x ∷ cs → all ≡ y ∷ rest → all ≡ x ∷ rest
same_tail all cs x y rest e f = let q : cs ≡ rest = cc in e ∙ ap (λ l. x ∷ l) q

pub unreachable-requires-in_default-pop : goal.unreachable-requires-in_default-pop
unreachable-requires-in_default-pop c =
    let m = c.args.self.now in
    let r = c.requires in
    let t = c.args.task in
    let s = setting_in t in
    let l = task_lists t in
    let code = code_in t in
    let ec = same_tail m.pieces.0 r.top.0 piece.LetEnd c.in-Some.field-0 c.pop.new.self.0 r.top.1 c.in-Some.ensures.items in
    let h = subst (λ x. IsAt s l code m.pool.items m.at m.end x m.variables.0 m.operands.0 r.goes.0) ec r.goes.1 in
    let_end_has_variable s l code m.pool.items m.at m.end c.pop.new.self.0 m.operands.0 r.goes.0 r.at_end (subst (λ x. IsAt s l code m.pool.items m.at m.end (piece.LetEnd ∷ c.pop.new.self.0) x m.operands.0 r.goes.0) c.in_default-pop.ensures.items.0 h) r.goes.2

pub returns : goal.returns
returns c =
    let m = c.args.self.now in
    let r = c.requires in
    let t = c.args.task in
    let s = setting_in t in
    let l = task_lists t in
    let code = code_in t in
    let ec = same_tail m.pieces.0 r.top.0 piece.LetEnd c.in-Some.field-0 c.pop.new.self.0 r.top.1 c.in-Some.ensures.items in
    record {
      made = λ x i n.
          let h = subst (λ y. IsAt s l code m.pool.items m.at m.end y m.variables.0 m.operands.0 x) ec i in
          let st = let_end_steps s l code m.pool.items m.at m.end c.pop.new.self.0 c.in-Some-pop.field-0 c.pop-2.new.self.0 m.operands.0 x r.at_end (subst (λ y. IsAt s l code m.pool.items m.at m.end (piece.LetEnd ∷ c.pop.new.self.0) y m.operands.0 x) c.in-Some-pop.ensures.items h) in
          (st.next, st.made, st.stands);
      place = record { order = r.place.order; within = r.place.within; pending = (subst (ArePiecesIn code) ec r.place.pending).1 };
      kept = record { started = refl; count = refl; room = record { operands = refl; variables = c.in-Some-pop.ensures.room; pieces = c.in-Some.ensures.room } };
    }
