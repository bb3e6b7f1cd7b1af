use Rattle.std.proofs.Common.{List, ℕ, Option, ◌≡◌, None, refl}
use Rattle.std.specs.BTreeMap.{get_by_text}
use Rattle.imkl_population.proofs.IdIndex.{found-fresh}
use Rattle.imkl_population.proofs.id_index.IdIndex.with_capacity.Goals as goal

pub returns : goal.returns
returns c =
    let none : (q : List ℕ) → get_by_text c.new.result q ≡ None = λ q. rw c.new.ensures.empty refl in
    found-fresh c.in_ok-slots.slots.items c.saturating_mul.result (get_by_text c.new.result) (c.in_ok-slots.ensures.items_if_clones_equal (λ y same. same)) none
