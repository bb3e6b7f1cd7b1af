use Rattle.std.proofs.Common.{◌∙◌}
use Rattle.desk_replies.proofs.Calls.{no_lines}
use Rattle.desk_replies.proofs.reply.lines.Goals as goal

pub returns-in_ok-put-in-Err : goal.returns-in_ok-put-in-Err
returns-in_ok-put-in-Err c =
    no_lines c.args.desk.now.jobs c.args.job c.in-Err.fault c.args.text.now.items c.put.new.text.items c.deref.result.now (rw c.new.ensures at c.in-Err.ensures.0) c.in-Err.ensures.1
    (c.deref.ensures ∙ c.in_ok-line-in-Err.ensures.said c.args.job) c.in_ok-put-in-Err.ensures
