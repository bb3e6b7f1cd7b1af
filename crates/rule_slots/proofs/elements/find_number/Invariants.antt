use Rattle.std.proofs.Common.{◌≡◌, ◌*◌, ℕ, drop}
use Rattle.rule_slots.specs.Slots.{lists_in, scalar_slots}
use Rattle.rule_code.specs.declared.kind.WrittenScalar.TheVariants as written
use Rattle.ocl_base.specs.Lists.{is_among}
use Rattle.rule_slots.specs.Compared.{same_slots}
use Rattle.rule_slots.proofs.elements.find_number.Given as goal

-- what is among all is among those that are left, after each four
abbrev pub invariant-loop-four : goal.invariant-loop-four
invariant-loop-four l = (start : ℕ) →
    is_among (same_slots (lists_in l.lists) written.Integer) (scalar_slots start l.scalars) l.slot ≡ is_among (same_slots (lists_in l.lists) written.Integer) (drop (4 * l.four) (scalar_slots start l.scalars)) l.slot

-- and after each one
abbrev pub invariant-loop-index : goal.invariant-loop-index
invariant-loop-index l = (start : ℕ) →
    is_among (same_slots (lists_in l.lists) written.Integer) (scalar_slots start l.scalars) l.slot ≡ is_among (same_slots (lists_in l.lists) written.Integer) (drop l.index (scalar_slots start l.scalars)) l.slot
