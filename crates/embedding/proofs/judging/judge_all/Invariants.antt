use Rattle.std.proofs.Common.{◌≡◌, All}
use Rattle.embedding.specs.Breaks.{Breaks}
use Rattle.embedding.proofs.judging.judge_all.Given as goal

abbrev pub invariant-loop-rule : goal.invariant-loop-rule
invariant-loop-rule l = record {
  unit : l.machine.unit ≡ l.fn.accepted.unit;
  population : l.machine.population ≡ l.fn.population.content;
  broken : All (Breaks l.fn.accepted.unit l.fn.population.content) l.broken.items;
}
