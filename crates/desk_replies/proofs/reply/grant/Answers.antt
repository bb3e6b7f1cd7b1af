use Rattle.std.proofs.Common.{ℕ, sym, ◌∙◌, subst}
use Rattle.std.proofs.lemmas.Result.{on_ok_weaker}
use Rattle.rule_desk.specs.World.{job_at}
use Rattle.rule_desk.specs.Calls.{IsGranted}
use Rattle.desk_replies.proofs.Calls.{granted, grant_replied}
use Rattle.desk_replies.proofs.reply.grant.Goals as goal

pub returns : goal.returns
returns c =
    let d = c.args.desk.now.jobs in
    let e = c.grant-granted.new.self.jobs in
    let k = c.args.job in
    let n = c.args.charges in
    let r = c.grant-granted.result in
    let did = granted c.grants_are_events.ensures d e k n r (subst (λ (i : ℕ). IsGranted d i n r e) c.new.ensures c.grant-granted.ensures.granted) c.in_ok-line.ensures.memory in
    on_ok_weaker c.put.result (grant_replied d e k n r c.args.text.now.items c.put.new.text.items c.deref.result.now did (c.deref.ensures ∙ c.in_ok-line.ensures.said (job_at e k) (sym c.spent-spent.ensures)))
    c.put.ensures
