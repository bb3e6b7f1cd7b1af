use Rattle.std.proofs.Common.{◌∙◌, arith, refl}
use Rattle.rule_machine.specs.Shown.{code_in, setting_in, task_lists}
use Rattle.rule_machine.proofs.EndSlots.{decided_low}
use Rattle.rule_machine.proofs.TurnEnds.{end_gives}
use Rattle.rule_machine.proofs.Lies.{is_with, is_under}
use Rattle.rule_machine.proofs.state.State.end_turns.Goals as goal

pub iteration_result-gives-requires : goal.iteration_result-gives-requires
iteration_result-gives-requires c =
    let b = c.requires.between.1 in
    λ k. omega (arith, decided_low (setting_in c.args.task) (task_lists c.args.task) (code_in c.args.task) c.args.self.now.pool.items c.args.turn b.i b.body b.source b.left b.bodies b.turn b.turns k)

pub returns : goal.returns
returns c =
    let m = c.args.self.now in
    let r = c.requires in
    let t = c.args.task in
    let u = c.args.turn in
    let s = setting_in t in
    let l = task_lists t in
    let code = code_in t in
    let p = m.pool.items in
    let pool = c.cut_to_given.ensures ∙ c.keeps_distinct-distinct.ensures.given c.iteration_result-gives.result in
    let tells = c.keeps_distinct-distinct.ensures.told in
    record {
      made = λ d b.
          let e = end_gives s l code p m.at m.end u c.args.last m.pieces.0 m.variables.0 m.operands.0 d c.keeps_distinct-distinct.result c.iteration_result-gives.result r.at_end b r.all tells c.iteration_result-gives.ensures in
          is_under s l code _ _ m.at m.end m.pieces.0 m.variables.0 _ d pool (is_with s l code _ _ _ _ _ _ _ _ _ d refl refl c.push.ensures.items e);
      place = r.place;
      kept = record { started = refl; count = refl; room = record { operands = c.push.ensures.room; variables = refl; pieces = refl } };
    }
