use Rattle.std.proofs.Common.{◌≡◌, ◌∙◌, ℕ, List, ◌++◌, length, ◌||◌, ap}
use Rattle.imkl_population.specs.Required.{Requirements, is_required, is_one_of, with_required}
use Rattle.imkl_population.proofs.Orders.{places-small}
use Rattle.imkl_population.proofs.required.RequiredFeatures.with_required.Goals as goal

pub returns-clause-list : goal.returns-clause-list
returns-clause-list c =
    let r : Requirements = record { model = c.self.inside.model.now; side = c.self.inside.side } in
    let came : c.in-Some.all.now ≡ with_required r c.args.class c.args.features.items = c.in-Some.ensures r c.self.invariant.2 ∙ ap (with_required r c.args.class) c.deref.ensures.value in
    c.in_ok-extend_from_slice.ensures.items ∙ ap (λ (l : List ℕ). l ++ c.in-Some.all.now) c.clear.ensures.items
    ∙ came ∙ ap (λ (q : Requirements). with_required q c.args.class c.args.features.items) c.self.view_is

pub returns-clause-known : goal.returns-clause-known
returns-clause-known c =
    let r = c.args.self.now in
    places-small (λ f. is_required r c.args.class f || is_one_of c.args.features.items f) (length r.model.features) c.extend_from_slice.new.self.items (returns-clause-list c)
