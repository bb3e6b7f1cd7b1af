use Rattle.std.proofs.Common.{◌∙◌, sym, ap, subst}
use Rattle.std.specs.BTreeMap.{get_by_text}
use Rattle.imkl_population.specs.IdIndex.{number_found}
use Rattle.imkl_population.specs.Layout.{stored_content, IsInMaking}
use Rattle.imkl_population.proofs.Layouts.{Maps}
use Rattle.imkl_population.proofs.builder.PopulationBuilder.give_back.Goals as goal

pub invariant_of-self : goal.invariant_of-self
invariant_of-self c =
    let i = c.self.inside in
    subst (λ (maps : Maps). IsInMaking i.model.now i.heads.items maps (number_found i.ids.slots.items (get_by_text i.ids.others) i.heads.items)) (sym c.give_back.ensures.same) c.self.invariant

pub returns : goal.returns
returns c =
    let i = c.self.inside in
    ap (stored_content i.model.now i.heads.items) c.give_back.ensures.same ∙ c.self.view_is
