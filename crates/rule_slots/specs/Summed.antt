-- Sums of whole numbers.
use Rattle.std.specs.Prelude.{◌≤◌, ◌*◌, ◌^◌, ℕ, ℤ, pos, ◌+ℤ◌, List, [], ◌∷◌, Option, Some, None, if◌then◌else◌}
use Rattle.std.specs.Int.Signed.{mag}
use Rattle.std.specs.Option.{option_map}
use Rattle.rule_slots.specs.declared.slot.Slot.{Slot}
use Rattle.rule_slots.specs.Slots.{plain_mark, invalid_slot}
use Rattle.rule_slots.specs.Operands.{integer_slot}

-- the sum of the numbers of slots; there is none where one is null
abbrev pub sum_of_slots : List Slot → Option ℤ
sum_of_slots [] = Some (pos 0)
sum_of_slots (s ∷ ss) = if plain_mark s.mark then option_map (λ m. s.number +ℤ m) (sum_of_slots ss) else None

-- a sum, invalid where there is none or it is out of range
abbrev pub summed_slot : Option ℤ → Slot
summed_slot None = invalid_slot
summed_slot (Some n) = integer_slot n

-- the size that the sum of `count` numbers of 64 bits may have
abbrev pub IsSumOf : ℕ → ℤ → Type 0
IsSumOf count total = mag total ≤ count * 2 ^ 63
