use Rattle.std.proofs.Common.{◌≡◌, ◌≤◌, ◌<◌, ℕ}
use Rattle.imkl_population.specs.IdIndex.{IsEmpty}
use Rattle.imkl_population.proofs.id_index.IdIndex.first_empty.Given as goal

-- none of the slots that were passed is empty
abbrev pub invariant-loop-slot : goal.invariant-loop-slot
invariant-loop-slot l = (j : ℕ) → l.first ≤ j → j < l.slot → IsEmpty l.self.slots.items j → ⊥
