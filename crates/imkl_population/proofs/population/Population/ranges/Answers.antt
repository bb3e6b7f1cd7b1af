use Rattle.imkl_population.proofs.Parts.{value_ranges, instance_ranges}
use Rattle.imkl_population.proofs.population.Population.ranges.Goals as goal

pub returns-clause-values : goal.returns-clause-values
returns-clause-values c =
    let i = c.self.inside in
    value_ranges i.model.now i.heads.items i.scalars.items i.written.items i.ends.items i.instances.items i.ranges.items c.self.invariant c.args.self.now c.self.view_is

pub returns-clause-instances : goal.returns-clause-instances
returns-clause-instances c =
    let i = c.self.inside in
    instance_ranges i.model.now i.heads.items i.scalars.items i.written.items i.ends.items i.instances.items i.ranges.items c.self.invariant c.args.self.now c.self.view_is
