use Rattle.std.proofs.Common.{◌<◌, ◌∙◌, length, None, sym, rules}
use Rattle.std.proofs.lemmas.List.{get_or_default}
use Rattle.rule_desk.proofs.Rooms.{is_granted, rooms_kept}
use Rattle.rule_desk.proofs.desk.Desk.grant.Goals as goal

pub returns-clause-granted : goal.returns-clause-granted
returns-clause-granted c =
    let jobs = c.self.inside.jobs.items in
    let n = c.job.inside.index in
    let there : n < length jobs = search rules in
    let at = get_or_default jobs n None c.index_mut.result.now there ∙ sym c.index_mut.ensures.value in
    is_granted c.args.self.now jobs n c.args.job c.index_mut.result.now c.grant_at.new.place c.self.view_is c.job.view_is at c.args.grant c.grant_at.result c.grant_at.ensures.granted

pub returns-clause-rooms : goal.returns-clause-rooms
returns-clause-rooms c =
    let jobs = c.self.inside.jobs.items in
    let n = c.job.inside.index in
    let there : n < length jobs = search rules in
    let at = get_or_default jobs n None c.index_mut.result.now there ∙ sym c.index_mut.ensures.value in
    rooms_kept c.args.self.now jobs n c.args.job c.index_mut.result.now c.grant_at.new.place c.self.view_is c.job.view_is at there c.grant_at.ensures.room
