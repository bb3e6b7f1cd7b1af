use Rattle.std.proofs.Common.{◌∙◌, ap, arith, List}
use Rattle.std.specs.BTreeMap.{get_by_text}
use Rattle.imkl_population.specs.declared.object.Head.{Head}
use Rattle.imkl_population.specs.IdIndex.{number_found}
use Rattle.imkl_population.specs.Population.{Population}
use Rattle.imkl_population.specs.Store.{maps_of}
use Rattle.imkl_population.specs.Layout.{stored_content}
use Rattle.imkl_population.proofs.Ids.{found-inside}
use Rattle.imkl_population.proofs.builder.PopulationBuilder.object_of.Goals as goal

pub new-requires : goal.new-requires
new-requires c =
    let i = c.self.inside in
    let p : Population = stored_content i.model.now i.heads.items (maps_of i.written) in
    let found = c.find.ensures ∙ ap (λ (hs : List Head). number_found i.ids.slots.items (get_by_text i.ids.others) hs c.args.id.text.now) c.deref.ensures.value ∙ c.self.invariant.draft.found c.args.id.text.now in
    omega (arith, found-inside p c.args.self.now c.args.id.text.now c.find.result c.in_ok-number.number c.self.view_is found c.in_ok-number.was, c.within_limit.ensures)

pub returns-clause-known : goal.returns-clause-known
returns-clause-known c =
    let i = c.self.inside in
    let p : Population = stored_content i.model.now i.heads.items (maps_of i.written) in
    let found = c.find.ensures ∙ ap (λ (hs : List Head). number_found i.ids.slots.items (get_by_text i.ids.others) hs c.args.id.text.now) c.deref.ensures.value ∙ c.self.invariant.draft.found c.args.id.text.now in
    omega (arith, found-inside p c.args.self.now c.args.id.text.now c.find.result c.in_ok-number.number c.self.view_is found c.in_ok-number.was, c.new.ensures)
