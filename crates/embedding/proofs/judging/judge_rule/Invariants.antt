use Rattle.std.proofs.Common.{◌≡◌, All}
use Rattle.embedding.specs.Breaks.{Breaks}
use Rattle.embedding.proofs.judging.judge_rule.Given as goal

abbrev pub invariant-loop-object : goal.invariant-loop-object
invariant-loop-object l = record {
  unit : l.machine.unit ≡ l.initial.machine.unit;
  population : l.machine.population ≡ l.initial.machine.population;
  broken : All (Breaks l.initial.machine.unit l.initial.machine.population) l.broken.items;
}
