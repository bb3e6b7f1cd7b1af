use Rattle.std.proofs.Common.{◌≡◌, length, [], ◌∷◌, ◌++◌, Some, ap, ◌∙◌, rules}
use Rattle.std.specs.Prelude.{is_ok}
use Rattle.rule_desk.proofs.Rooms.{rooms_after, entered_behind, number_behind}
use Rattle.rule_desk.proofs.desk.Desk.enter.Goals as goal
use Rattle.rule_desk.proofs.desk.Desk.enter.Goals.{in-Ok, in-Err}

pub returns-clause-rooms : goal.returns-clause-rooms
returns-clause-rooms c =
    rooms_after c.args.self.now c.self.inside.jobs.items c.push.new.self.items (Some c.in_ok-job.job) (is_ok c.push.result) c.self.view_is c.push.ensures.items

pub returns-clause-entered : goal.returns-clause-entered
returns-clause-entered c =
    let hs = c.self.inside.jobs.items in
    let number : c.len-number.result ≡ length hs = search rules in
    elim c.match-push.branch [
      | in-Ok w ↦
          let items = rw w.in-Ok.is at c.push.ensures.items in
          let job = entered_behind c.args.self.now hs c.push.new.self.items c.in_ok-job.job c.self.view_is items in
          rw w.result-is (number ∙ number_behind c.args.self.now hs c.self.view_is, job ∙ ap (λ j. c.args.self.now.jobs ++ Some j ∷ []) c.in_ok-job.ensures)
      | in-Err w ↦ search rules
    ]
