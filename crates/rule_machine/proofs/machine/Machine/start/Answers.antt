use Rattle.std.proofs.Common.{ap, sym, subst, ◌∙◌}
use Rattle.rule_machine.specs.Machine.{start}
use Rattle.rule_machine.specs.Laws.{tree_of_rule}
use Rattle.rule_machine.specs.Shown.{lists_of}
use Rattle.rule_machine.specs.Seen.{seen, Represents}
use Rattle.rule_machine.proofs.Ran.{begun_for}
use Rattle.rule_machine.proofs.machine.Machine.start.Goals as goal

pub returns-clause-begun : goal.returns-clause-begun
returns-clause-begun c =
    let u = c.self.inside.accepted.now.unit in
    let q = c.self.inside.population.now in
    let l = lists_of u q in
    let r = c.args.rule in
    let o = c.args.object in
    let m = c.start.new.self in
    let same_unit = c.task-task.ensures.unit ∙ sym (ap (λ v. v.unit) c.self.view_is) in
    let same_population = c.task-task.ensures.population ∙ sym (ap (λ v. v.population) c.self.view_is) in
    let same_lists = c.task-task.ensures.lists ∙ sym (ap (λ v. v.lists) c.self.view_is) in
    subst (λ v. Represents (seen u q.content l m) r o (start (tree_of_rule v r) o) 0) (ap (λ v. v.unit) c.self.view_is)
    (begun_for c.task-task.result u q.content l r o m same_unit same_population same_lists c.task-task.ensures.rule (c.task-task.ensures.runs o c.requires.object) c.start.ensures.started)
