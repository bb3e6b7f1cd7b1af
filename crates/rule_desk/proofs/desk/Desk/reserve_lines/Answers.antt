use Rattle.std.proofs.Common.{◌<◌, ◌∙◌, length, None, sym, rules}
use Rattle.std.proofs.lemmas.List.{get_or_default}
use Rattle.rule_desk.proofs.Rooms.{jobs_kept, rooms_kept, is_reserved}
use Rattle.rule_desk.proofs.desk.Desk.reserve_lines.Goals as goal

pub returns-clause-jobs : goal.returns-clause-jobs
returns-clause-jobs c =
    let jobs = c.self.inside.jobs.items in
    let n = c.job.inside.index in
    let there : n < length jobs = search rules in
    let at = get_or_default jobs n None c.index_mut.result.now there ∙ sym c.index_mut.ensures.value in
    jobs_kept c.args.self.now jobs n c.args.job c.index_mut.result.now c.reserve_at.new.place c.self.view_is c.job.view_is at c.reserve_at.ensures.job

pub returns-clause-rooms : goal.returns-clause-rooms
returns-clause-rooms c =
    let jobs = c.self.inside.jobs.items in
    let n = c.job.inside.index in
    let there : n < length jobs = search rules in
    let at = get_or_default jobs n None c.index_mut.result.now there ∙ sym c.index_mut.ensures.value in
    rooms_kept c.args.self.now jobs n c.args.job c.index_mut.result.now c.reserve_at.new.place c.self.view_is c.job.view_is at there c.reserve_at.ensures.room

pub returns-clause-reserved : goal.returns-clause-reserved
returns-clause-reserved c =
    let jobs = c.self.inside.jobs.items in
    let n = c.job.inside.index in
    let there : n < length jobs = search rules in
    let at = get_or_default jobs n None c.index_mut.result.now there ∙ sym c.index_mut.ensures.value in
    is_reserved c.args.self.now jobs n c.args.job c.index_mut.result.now c.reserve_at.new.place c.self.view_is c.job.view_is at c.reserve_at.result there c.reserve_at.ensures.reserved
