use Rattle.desk_replies.proofs.Calls.{as_any}
use Rattle.desk_replies.proofs.reply.reply.Goals as goal

pub returns-in-Grant : goal.returns-in-Grant
returns-in-Grant c =
    as_any c.grant.result c.args.admitted.now c.args.population.now.content c.args.call _ c.args.desk.now.jobs c.grant.new.desk.jobs c.args.text.now.items c.grant.new.text.items
    c.in-Grant.is c.grant.ensures

pub returns-in-Withdraw : goal.returns-in-Withdraw
returns-in-Withdraw c =
    as_any c.withdraw.result c.args.admitted.now c.args.population.now.content c.args.call _ c.args.desk.now.jobs c.withdraw.new.desk.jobs c.args.text.now.items c.withdraw.new.text.items
    c.in-Withdraw.is c.withdraw.ensures

pub returns-in-Lines : goal.returns-in-Lines
returns-in-Lines c =
    as_any c.lines.result c.args.admitted.now c.args.population.now.content c.args.call _ c.args.desk.now.jobs c.args.desk.now.jobs c.args.text.now.items c.lines.new.text.items
    c.in-Lines.is c.lines.ensures
