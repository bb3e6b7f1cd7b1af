use Rattle.std.proofs.Common.{◌≡◌, ◌∙◌, ℕ, List, ◌++◌, ◌<◌, length, ◌||◌, All, eqb, sym, ap}
use Rattle.std.specs.Ordering.{nat_cmp}
use Rattle.imkl_population.specs.Order.{AreInOrder}
use Rattle.imkl_population.specs.Required.{Requirements, is_required, is_one_of, required, with_required}
use Rattle.imkl_population.proofs.Orders.{ordered_with, places-small}
use Rattle.imkl_population.proofs.required.RequiredFeatures.find_required.Goals as goal

-- what features and those that a class requires come to, where the requirements q are known as r before these are added
come_to : (q r : Requirements) (class : ℕ) (features added all : List ℕ) → q ≡ r → All (λ f. f < length r.model.features) features → added ≡ features ++ required q class → AreInOrder nat_cmp eqb added all
    → all ≡ with_required r class features
come_to q r class features added all same small joined order =
    ordered_with (is_required r class) (length r.model.features) features added all small (joined ∙ ap (λ (p : Requirements). features ++ required p class) same) order

-- the same at another name of the requirements, of the features and of the list
same_answer : (q r : Requirements) (class : ℕ) (features named all list : List ℕ) → q ≡ r → named ≡ features → list ≡ all → all ≡ with_required r class features → list ≡ with_required q class named
same_answer q r class features named all list same one here answer =
    here ∙ answer ∙ ap (λ (p : Requirements). with_required p class features) (sym same) ∙ ap (with_required q class) (sym one)

pub returns-clause-list : goal.returns-clause-list
returns-clause-list c =
    come_to (record { model = c.self.inside.model.now; side = c.self.inside.side }) c.args.self.now c.args.class c.args.features.items c.add_required.new.features.items c.in_order-all.result.items
    c.self.view_is c.requires.features c.in_ok-add_required.ensures.added c.in_order-all.ensures

pub returns-clause-known : goal.returns-clause-known
returns-clause-known c =
    let r = c.args.self.now in
    places-small (λ f. is_required r c.args.class f || is_one_of c.args.features.items f) (length r.model.features) c.in_order-all.result.items (returns-clause-list c)

pub invariant_of-self-in_err-keep : goal.invariant_of-self-in_err-keep
invariant_of-self-in_err-keep c =
    let r : Requirements = record { model = c.self-2.inside.model.now; side = c.self-2.inside.side } in
    let all = c.in_order-all.result.items in
    let answer = come_to (record { model = c.self.inside.model.now; side = c.self.inside.side }) c.args.self.now c.args.class c.args.features.items c.add_required.new.features.items all
    c.self.view_is c.requires.features c.in_ok-add_required.ensures.added c.in_order-all.ensures in (
      c.self-2.invariant.0,
      c.self-2.invariant.1,
      c.keep.ensures r
          (same_answer r c.args.self.now c.args.class c.args.features.items c.in_ok-named.named.items all c.deref-2.result.now (c.self-2.view_is ∙ c.in_ok-add_required.ensures.same ∙ c.self.view_is)
          (c.in_ok-named.ensures.list ∙ c.deref.ensures.value) c.deref-2.ensures.value answer) c.self-2.invariant.2,
    )

pub invariant_of-self-3 : goal.invariant_of-self-3
invariant_of-self-3 c =
    let r : Requirements = record { model = c.self-2.inside.model.now; side = c.self-2.inside.side } in (
      c.self-2.invariant.0,
      c.self-2.invariant.1,
      c.keep.ensures r
          (same_answer r c.args.self.now c.args.class c.args.features.items c.in_ok-named.named.items c.in_order-all.result.items c.deref-2.result.now
          (c.self-2.view_is ∙ c.in_ok-add_required.ensures.same ∙ c.self.view_is) (c.in_ok-named.ensures.list ∙ c.deref.ensures.value) c.deref-2.ensures.value (returns-clause-list c)) c.self-2.invariant.2,
    )
