use Rattle.std.proofs.Common.{◌≡◌, ◌∙◌, ◌<◌, length, set, None, sym, ap, subst, rules}
use Rattle.std.proofs.lemmas.List.{get_or_default}
use Rattle.std.specs.Option.{option_map}
use Rattle.rule_desk.specs.Held.{job_in}
use Rattle.rule_desk.specs.Calls.{IsGivenUp}
use Rattle.rule_desk.proofs.Rooms.{seen_at, set_at, other_rooms_kept}
use Rattle.rule_desk.proofs.desk.Desk.withdraw.Goals as goal

pub returns-clause-withdrawn : goal.returns-clause-withdrawn
returns-clause-withdrawn c =
    let d = c.args.self.now in
    let jobs = c.self.inside.jobs.items in
    let n = c.job.inside.index in
    let there : n < length jobs = search rules in
    let at = get_or_default jobs n None c.index_mut.result.now there ∙ sym c.index_mut.ensures.value ∙ sym c.take.ensures.value in
    let gone : c.take.new.self ≡ None = search rules in
    let given_up : IsGivenUp (option_map job_in c.take.result) c.match-take.result = search rules in (
      set_at d jobs n c.args.job c.take.result c.take.new.self c.self.view_is c.job.view_is at ∙ ap (λ q. set d.jobs c.args.job (option_map job_in q)) gone,
      subst (λ q. IsGivenUp q c.match-take.result) (sym (seen_at d jobs n c.args.job c.take.result c.take.new.self c.self.view_is c.job.view_is at)) given_up,
    )

pub returns-clause-rooms : goal.returns-clause-rooms
returns-clause-rooms c =
    let jobs = c.self.inside.jobs.items in
    let n = c.job.inside.index in
    let there : n < length jobs = search rules in
    let at = get_or_default jobs n None c.index_mut.result.now there ∙ sym c.index_mut.ensures.value ∙ sym c.take.ensures.value in
    other_rooms_kept c.args.self.now jobs n c.args.job c.take.result c.take.new.self c.self.view_is c.job.view_is at
