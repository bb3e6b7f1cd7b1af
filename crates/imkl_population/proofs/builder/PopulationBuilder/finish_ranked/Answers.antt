use Rattle.std.proofs.Common.{◌∙◌, sym, subst}
use Rattle.std.specs.BTreeMap.{get_by_text}
use Rattle.imkl_population.specs.IdIndex.{number_found}
use Rattle.imkl_model.specs.WellFormed.{IsClassModel}
use Rattle.imkl_population.specs.Population.{Population}
use Rattle.imkl_population.specs.Draft.{IsDraft}
use Rattle.imkl_population.proofs.ConsistencyLaws.{consistent}
use Rattle.imkl_population.proofs.builder.PopulationBuilder.finish_ranked.Goals as goal

pub lay_out-requires-clause-consistent : goal.lay_out-requires-clause-consistent
lay_out-requires-clause-consistent c =
    let draft : IsDraft c.args.self (number_found c.self.inside.ids.slots.items (get_by_text c.self.inside.ids.others) c.self.inside.heads.items) = subst (λ (p : Population). IsDraft p (number_found c.self.inside.ids.slots.items (get_by_text c.self.inside.ids.others) c.self.inside.heads.items)) c.self.view_is c.self.invariant.draft in
    consistent c.args.self (number_found c.self.inside.ids.slots.items (get_by_text c.self.inside.ids.others) c.self.inside.heads.items) draft (subst (λ (p : Population). IsClassModel p.model) c.self.view_is c.well_formed-2.ensures) (sym c.in_ok-fault.ensures ∙ c.in_default.is) (sym c.in_ok-fault-2.ensures ∙ c.in_default-2.is)
