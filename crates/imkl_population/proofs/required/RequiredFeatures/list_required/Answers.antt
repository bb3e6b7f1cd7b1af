use Rattle.std.proofs.Common.{ℕ, List, ap, inr, length, ◌∙◌}
use Rattle.imkl_population.specs.Required.{Requirements, required}
use Rattle.imkl_population.specs.Owners.{inherited}
use Rattle.imkl_population.proofs.Owners.{inherited-required}
use Rattle.imkl_population.proofs.required.RequiredFeatures.list_required.Goals as goal

pub invariant_of-self-in_err-features : goal.invariant_of-self-in_err-features
invariant_of-self-in_err-features c = (c.self.invariant.0, inr c.in_ok-fill_owned.ensures.filled, c.self.invariant.2)

pub invariant_of-self-2 : goal.invariant_of-self-2
invariant_of-self-2 c = (c.self.invariant.0, inr c.in_ok-fill_owned.ensures.filled, c.self.invariant.2)

pub returns-clause-list : goal.returns-clause-list
returns-clause-list c =
    let r : Requirements = record { model = c.self.inside.model.now; side = c.self.inside.side } in
    let class : ℕ = c.args.class in
    inherited-required r c.fill_owned.new.owned.items class c.in_ok-features.features.items c.in_order.result.items c.well_formed-2.ensures.known_owners c.in_ok-fill_owned.ensures.filled
    (c.in_ok-features.ensures ∙ ap (λ (lists : List (List ℕ)). inherited r.model class lists (length r.model.classes)) c.deref.ensures.value) c.in_order.ensures
    ∙ ap (λ (q : Requirements). required q class) c.self.view_is
