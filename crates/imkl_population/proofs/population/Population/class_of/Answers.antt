use Rattle.std.proofs.Common.{ap, sym, subst, arith, length}
use Rattle.imkl_population.specs.declared.object.Object.{Object}
use Rattle.imkl_population.specs.Population.{Population}
use Rattle.imkl_population.specs.Consistency.{IsConsistent}
use Rattle.imkl_population.specs.Store.{maps_in}
use Rattle.imkl_population.proofs.Layouts.{content-is, length-content, head-at}
use Rattle.imkl_population.proofs.population.Population.class_of.Goals as goal

pub index-head-requires : goal.index-head-requires
index-head-requires c = omega (arith, c.requires, c.index.ensures, length-content c.self.inside.model.now c.self.inside.heads.items (maps_in c.self.inside.scalars.items c.self.inside.written.items), ap (λ (p : Population). length p.objects) (content-is c.self.view_is))

pub returns-clause-class : goal.returns-clause-class
returns-clause-class c =
    let i = c.self.inside in
    sym (ap (λ (x : Object). x.class) (head-at i.model.now i.heads.items (maps_in i.scalars.items i.written.items) c.args.self.now.content c.args.object c.index.result c.index-head.result.now (content-is c.self.view_is) c.requires c.index.ensures c.index-head.ensures))

pub returns-clause-known : goal.returns-clause-known
returns-clause-known c =
    let consistent : IsConsistent c.args.self.now.content = subst IsConsistent (content-is c.self.view_is) c.self.invariant.consistent in
    rw (returns-clause-class c) (consistent.classed c.args.object c.requires)
