use Rattle.std.proofs.Common.{rules, ◌∙◌}
use Rattle.embedding.proofs.judging.judge_rule.Goals as goal

pub loop-object-preserved : goal.loop-object-preserved
loop-object-preserved c =
    let invariant = c.loop-object.invariant in
    let machine = c.args.machine.now in
    record {
      unit = c.judge.ensures.task.unit ∙ invariant.unit;
      population = c.judge.ensures.task.population ∙ invariant.population;
      broken = c.in_ok-note.ensures machine.unit machine.population (search rules) invariant.broken;
    }
