use Rattle.std.proofs.Common.{length, ◌-◌, ◌≡◌, ◌≤◌, false, take}
use Rattle.std.specs.Io.KnownBytes.{Appends}
use Rattle.rule_report.proofs.put.write_whole.Given as goal

abbrev pub invariant-loop-at : goal.invariant-loop-at
invariant-loop-at g l = record {
  within : l.at ≤ length l.bytes;
  written : Appends (g.S.Sink.contents l.initial.sink) (g.S.Sink.contents l.sink) (take l.at l.bytes);
  well : g.S.Sink.has_failed l.sink ≡ false;
  flushes : g.S.Sink.flushes l.sink ≡ g.S.Sink.flushes l.initial.sink;
}

abbrev pub decreases-loop-at : goal.decreases-loop-at
decreases-loop-at g l = length l.bytes - l.at
