use Rattle.std.proofs.lemmas.Result.{on_ok_weaker}
use Rattle.explain_why.proofs.Left.{three_put}
use Rattle.explain_why.proofs.values.put_note.Goals as goal

pub returns : goal.returns
returns c = on_ok_weaker c.put-2.result (three_put _ _ _ _ _ _ _ c.in_ok-put.ensures c.in_ok-put_count.ensures) c.put-2.ensures
