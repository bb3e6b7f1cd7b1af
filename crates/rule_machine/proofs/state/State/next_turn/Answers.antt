use Rattle.std.proofs.Common.{◌≡◌, ◌<◌, arith, sym, subst}
use Rattle.rule_machine.specs.StandFor.{IsAt}
use Rattle.rule_machine.specs.Shown.{code_in, setting_in, task_lists, IsTurnIn}
use Rattle.rule_machine.proofs.TurnEnds.{end_of}
use Rattle.rule_machine.specs.declared.piece.Turn.{Turn}
use Rattle.rule_machine.proofs.Lies.{on_top, turn_went, same_turn}
use Rattle.rule_machine.proofs.state.State.next_turn.Goals as goal

pub unreachable-requires : goal.unreachable-requires
unreachable-requires c =
    let m = c.args.self.now in
    let r = c.requires in
    let t = c.args.task in
    let s = setting_in t in
    let l = task_lists t in
    let code = code_in t in
    let p = m.pool.items in
    let e0 = end_of s l code p m.at m.end r.turning.0 r.turning.1 m.variables.0 m.operands.0 r.goes.0 r.at_end (subst (λ x. IsAt s l code p m.at m.end x m.variables.0 m.operands.0 r.goes.0) r.turning.2 r.goes.1) r.goes.2 in
    let none = c.in_default.ensures in
    let there = e0.ops_are in
    cc (none, there)

pub repeat-requires-clause-on_top : goal.repeat-requires-clause-on_top
repeat-requires-clause-on_top c = on_top c.args.task c.in-Some.last.now c.args.self.now c.end_turn.new.self c.requires.goes c.in_ok-end_turn.ensures.over

pub repeat-requires-clause-left : goal.repeat-requires-clause-left
repeat-requires-clause-left c = λ t below e.
    let f = c.top_turn-turn.ensures in
    subst (λ (k : Turn). k.next < k.source.count) (sym (same_turn c.end_turn.new.self.pieces.0 t c.top_turn-turn.result.now below f.0 e f.1)) c.if-turn.true

pub finish-requires-clause-on_top : goal.finish-requires-clause-on_top
finish-requires-clause-on_top c = on_top c.args.task c.in-Some.last.now c.args.self.now c.end_turn.new.self c.requires.goes c.in_ok-end_turn.ensures.over

pub finish-requires-clause-all : goal.finish-requires-clause-all
finish-requires-clause-all c = λ t below e.
    let f = c.top_turn-turn.ensures in
    let u = c.top_turn-turn.result.now in
    let over = c.in_ok-end_turn.ensures.over in
    let ps = c.end_turn.new.self.pieces.0 in
    let turn : IsTurnIn (code_in c.args.task) u = subst (IsTurnIn (code_in c.args.task)) (same_turn ps over.after u over.below f.0 over.first f.1) over.turn in
    let all : u.next ≡ u.source.count = omega (arith, turn.next, c.if-turn.false) in
    subst (λ (k : Turn). k.next ≡ k.source.count) (sym (same_turn ps t u below f.0 e f.1)) all

pub returns-then-turn-clause-made : goal.returns-then-turn-clause-made
returns-then-turn-clause-made c = turn_went c.args.task c.in-Some.last.now c.args.self.now c.end_turn.new.self c.repeat.new.self c.in_ok-end_turn.ensures.over c.repeat.ensures

pub returns-else-turn-clause-made : goal.returns-else-turn-clause-made
returns-else-turn-clause-made c = turn_went c.args.task c.in-Some.last.now c.args.self.now c.end_turn.new.self c.finish.new.self c.in_ok-end_turn.ensures.over c.finish.ensures
