use Rattle.std.proofs.Common.{refl, ◌∙◌}
use Rattle.ocl_base.proofs.ForAbove.{anyway_on_err}
use Rattle.desk_replies.proofs.Writes.{at_next, stops_after, stops_at, nothing_more, at_last}
use Rattle.desk_replies.proofs.running.answer_calls.Goals as goal

pub returns-in_err-reply-clause-prefix : goal.returns-in_err-reply-clause-prefix
returns-in_err-reply-clause-prefix g c =
    let now = g.S.Sink.contents c.loop-call.sink in
    anyway_on_err _ _ (stops_at _ _ _ _ _ _ now now _ c.loop-call.invariant.at (nothing_more now c.loop-call.text.items))

pub returns-in_err-write_piece-clause-prefix : goal.returns-in_err-write_piece-clause-prefix
returns-in_err-write_piece-clause-prefix g c =
    anyway_on_err _ _ (stops_after _ _ _ _ _ _ _ _ _ _ _ c.loop-call-test.true refl c.loop-call.invariant.at c.in_ok-reply.ensures _ c.in_err-write_piece.ensures.err)

pub loop-call-preserved : goal.loop-call-preserved
loop-call-preserved g c = record {
  at = at_next _ _ _ _ _ _ _ _ _ _ _ c.loop-call-test.true refl c.loop-call.invariant.at c.in_ok-reply.ensures _ _ c.in_ok-write_piece.ensures.ok;
  well = c.in_ok-write_piece.ensures.failed;
  flushes = c.write_piece.ensures.flushes ∙ c.loop-call.invariant.flushes;
}

pub returns-in_err-write_and_flush-clause-prefix : goal.returns-in_err-write_and_flush-clause-prefix
returns-in_err-write_and_flush-clause-prefix g c =
    anyway_on_err _ _ (stops_at _ _ _ _ _ _ _ _ _ c.loop-call.invariant.at (rw c.deref.ensures.value at c.in_err-write_and_flush.ensures.err))

pub returns-clause-replies : goal.returns-clause-replies
returns-clause-replies g c =
    at_last _ _ _ _ _ _ _ _ _ c.loop-call-test.false c.loop-call.invariant.at (rw c.deref.ensures.value at c.in_ok-write_and_flush.ensures.ok)
