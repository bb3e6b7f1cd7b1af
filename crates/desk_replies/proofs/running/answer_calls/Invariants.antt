use Rattle.std.proofs.Common.{◌≡◌, false}
use Rattle.desk_replies.proofs.Writes.{IsAt}
use Rattle.desk_replies.proofs.running.answer_calls.Given as goal

abbrev pub invariant-loop-call : goal.invariant-loop-call
invariant-loop-call g l = record {
  at : IsAt l.fn.admitted l.fn.population.content l.calls l.call-index l.desk.jobs (g.S.Sink.contents l.initial.sink) (g.S.Sink.contents l.sink) l.text.items;
  well : g.S.Sink.has_failed l.sink ≡ false;
  flushes : g.S.Sink.flushes l.sink ≡ g.S.Sink.flushes l.initial.sink;
}
