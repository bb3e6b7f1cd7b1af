use Rattle.std.proofs.Common.{◌≡◌, ◌∙◌, All, List, ℕ, ap, subst, sym, length}
use Rattle.imkl_population.specs.FinishedPopulation.{FinishedPopulation}
use Rattle.imkl_population.specs.Population.{instances, is_instance, IsInstance}
use Rattle.imkl_population.proofs.Places.{places-pass}
use Rattle.imkl_population.proofs.population.Population.instances.Goals as goal
use Rattle.imkl_population.proofs.population.Population.instances.Goals.{After-part_of}

are : (c : After-part_of) → c.part_of.result.now ≡ instances c.args.self.now.content c.args.class
are c =
    let list = c.deref.ensures.value ∙ ap (λ (p : FinishedPopulation). p.instance_list) c.self.view_is in
    (rw (list, c.class_range.ensures) at c.part_of.ensures) ∙ (c.ranges-2.ensures.instances c.args.class c.requires).picked

pub returns-clause-objects : goal.returns-clause-objects
returns-clause-objects c = are c

pub returns-clause-each : goal.returns-clause-each
returns-clause-each c =
    let p = c.args.self.now.content in
    let P : List ℕ → Type 0 = λ os. All (IsInstance p c.args.class) os in
    subst P (sym (are c)) (places-pass (is_instance p c.args.class) (length p.objects))
