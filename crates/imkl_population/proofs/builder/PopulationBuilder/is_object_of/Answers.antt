use Rattle.std.proofs.Common.{◌∙◌, ◌<◌, sym, ap, subst, length, List}
use Rattle.std.specs.BTreeMap.{get_by_text}
use Rattle.imkl_population.specs.IdIndex.{number_found, has_id}
use Rattle.imkl_population.specs.declared.object.Head.{Head}
use Rattle.imkl_population.specs.Population.{Population, object_number}
use Rattle.imkl_population.specs.Store.{maps_of}
use Rattle.imkl_population.proofs.Guessed.{number-of}
use Rattle.imkl_population.proofs.builder.PopulationBuilder.is_object_of.Goals as goal

pub returns-clause-number : goal.returns-clause-number
returns-clause-number c = λ is.
    let i = c.self.inside in
    let has = sym (c.has_id.ensures ∙ ap (λ (hs : List Head). has_id hs c.args.number c.args.id.now) c.deref.ensures.value) ∙ is in
    ap (λ (p : Population). object_number p c.args.id.now) (sym c.self.view_is)
    ∙ (number-of i.model.now i.heads.items (maps_of i.written) (number_found i.ids.slots.items (get_by_text i.ids.others) i.heads.items) c.args.number c.args.id.now c.self.invariant.draft has).0

pub returns-clause-known : goal.returns-clause-known
returns-clause-known c = λ is.
    let i = c.self.inside in
    let has = sym (c.has_id.ensures ∙ ap (λ (hs : List Head). has_id hs c.args.number c.args.id.now) c.deref.ensures.value) ∙ is in
    subst (λ (p : Population). c.args.number < length p.objects) c.self.view_is
    (number-of i.model.now i.heads.items (maps_of i.written) (number_found i.ids.slots.items (get_by_text i.ids.others) i.heads.items) c.args.number c.args.id.now c.self.invariant.draft has).1
