use Rattle.std.proofs.Common.{◌<◌, ap, sym, subst, arith, length}
use Rattle.imkl_population.specs.declared.object.Object.{Object}
use Rattle.imkl_population.specs.Population.{Population, class_of}
use Rattle.imkl_population.specs.Store.{maps_of}
use Rattle.imkl_population.proofs.Layouts.{length-content, head-at}
use Rattle.imkl_population.proofs.builder.PopulationBuilder.class_of.Goals as goal

pub index-head-requires : goal.index-head-requires
index-head-requires c = omega (arith, c.requires, c.index.ensures, length-content c.self.inside.model.now c.self.inside.heads.items (maps_of c.self.inside.written), ap (λ (p : Population). length p.objects) c.self.view_is)

pub returns-clause-class : goal.returns-clause-class
returns-clause-class c =
    let i = c.self.inside in
    sym (ap (λ (x : Object). x.class) (head-at i.model.now i.heads.items (maps_of i.written) c.args.self.now c.args.object c.index.result c.index-head.result.now c.self.view_is c.requires c.index.ensures c.index-head.ensures))

pub returns-clause-known : goal.returns-clause-known
returns-clause-known c =
    let o = c.args.object in
    let all = subst (λ (p : Population). o < length p.objects → class_of p o < length p.model.classes) c.self.view_is (c.self.invariant.draft.classed o) in
    rw (returns-clause-class c) (all c.requires)
