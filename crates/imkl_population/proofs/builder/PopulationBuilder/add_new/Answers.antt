use Rattle.std.proofs.Common.{◌≡◌, ◌∙◌, sym, ap, ◌++◌, [], ◌∷◌, List, ℕ, None, arith, length}
use Rattle.std.specs.BTreeMap.{get_by_text}
use Rattle.imkl_population.specs.IdIndex.{number_found}
use Rattle.imkl_population.specs.declared.object.Head.{Head}
use Rattle.imkl_population.specs.Population.{Population, object_number}
use Rattle.imkl_population.specs.Building.{with_object}
use Rattle.imkl_model.specs.ClassModel.{class_at}
use Rattle.imkl_population.specs.Store.{maps_of}
use Rattle.imkl_population.specs.Layout.{stored_content}
use Rattle.imkl_population.proofs.Layouts.{Maps, length-content}
use Rattle.imkl_population.proofs.Making.{making-added, content-added, object-open, making-unchanged}
use Rattle.imkl_population.proofs.builder.PopulationBuilder.add_new.Goals as goal
use Rattle.imkl_population.proofs.builder.PopulationBuilder.add_new.Goals.{After-new}

-- the object's id is the text that was given
named : (c : After-new) → c.new-id.result ≡ c.args.id.text.now
named c = c.new-id.ensures ∙ c.in_ok-text.ensures.ok

pub invariant_of-self-2 : goal.invariant_of-self-2
invariant_of-self-2 c =
    let i = c.self.inside in
    let maps : Maps = maps_of i.written in
    let id = c.args.id.text.now in
    let h : Head = record { id = c.new-id.result; class = c.args.class } in
    let count = length-content i.model.now i.heads.items maps in
    let sound = object-open c.args.self.now id c.args.class c.requires.sound in
    let before = number_found i.ids.slots.items (get_by_text i.ids.others) in
    let after = number_found c.add.new.self.slots.items (get_by_text c.add.new.self.others) in
    let grows = c.push_reserved.ensures.items ∙ ap (λ (l : List Head). l ++ h ∷ []) c.in_ok-reserve.ensures.items in
    let next = c.objects-number.ensures ∙ ap (λ (p : Population). length p.objects) (sym c.self.view_is) ∙ count in
    let absent : before i.heads.items id ≡ None =
    c.self.invariant.draft.found id ∙ ap (λ (p : Population). object_number p id) c.self.view_is ∙ sound.absent in
    making-added i.model.now i.heads.items c.push_reserved.new.self.items maps h id c.objects-number.result (before i.heads.items) (after c.push_reserved.new.self.items)
    c.self.invariant (omega (arith, sound.room, c.objects-number.ensures)) grows (named c) next absent sound.formed
    (omega (arith, ap (λ (p : Population). length p.model.classes) c.self.view_is, c.requires.class)) (ap (λ (p : Population). (class_at p.model c.args.class).is_abstract) c.self.view_is ∙ sound.concrete)
    (λ q. ap (λ (l : List Head). after l q) grows ∙ c.in_ok-add.ensures i.heads.items h next absent (named c) q)

pub returns : goal.returns
returns c =
    let i = c.self.inside in
    let maps : Maps = maps_of i.written in
    let h : Head = record { id = c.new-id.result; class = c.args.class } in
    let grown =
    content-added i.model.now i.heads.items c.push_reserved.new.self.items maps h
    (c.push_reserved.ensures.items ∙ ap (λ (l : List Head). l ++ h ∷ []) c.in_ok-reserve.ensures.items) (c.self.invariant.idle (length i.heads.items) (omega arith))
    ∙ ap (λ (id : List ℕ). with_object (stored_content i.model.now i.heads.items maps) id c.args.class) (named c)
    ∙ ap (λ (p : Population). with_object p c.args.id.text.now c.args.class) c.self.view_is in
    (c.new.ensures ∙ c.objects-number.ensures, grown)

pub invariant_of-self-in_err-add : goal.invariant_of-self-in_err-add
invariant_of-self-in_err-add c =
    let i = c.self.inside in
    making-unchanged i.model.now i.heads.items c.reserve.new.self.items (maps_of i.written) (number_found i.ids.slots.items (get_by_text i.ids.others)) (number_found c.add.new.self.slots.items (get_by_text c.add.new.self.others))
    c.self.invariant c.in_ok-reserve.ensures.items c.in_err-add.ensures
