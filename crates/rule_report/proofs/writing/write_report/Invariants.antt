use Rattle.std.proofs.Common.{◌≡◌, ◌-◌, length, false}
use Rattle.rule_machine.specs.Laws.{verdict_at}
use Rattle.rule_report.specs.Sink.{IsWrittenSoFar}
use Rattle.rule_report.specs.Cursor.{told_pairs, all_pairs, IsToldBy, report_until}
use Rattle.rule_report.proofs.writing.write_report.Given as goal

abbrev pub invariant-loop-pair : goal.invariant-loop-pair
invariant-loop-pair g l = record {
  unit : l.cursor.unit ≡ l.fn.admitted.resolved.unit;
  population : l.cursor.population ≡ l.fn.population.content;
  machine_unit : l.machine.unit ≡ l.fn.admitted.resolved.unit;
  machine_population : l.machine.population ≡ l.fn.population.content;
  told : IsToldBy l.cursor (verdict_at l.fn.admitted.resolved.unit l.fn.population.content);
  written : IsWrittenSoFar (g.S.Sink.contents l.initial.sink) (g.S.Sink.contents l.sink) l.text.items (report_until l.fn.admitted.resolved.unit l.fn.population.content (verdict_at l.fn.admitted.resolved.unit l.fn.population.content) (told_pairs l.cursor));
  well : g.S.Sink.has_failed l.sink ≡ false;
  flushes : g.S.Sink.flushes l.sink ≡ g.S.Sink.flushes l.initial.sink;
}

abbrev pub decreases-loop-pair : goal.decreases-loop-pair
decreases-loop-pair g l = length (all_pairs l.cursor.unit l.cursor.population) - told_pairs l.cursor
