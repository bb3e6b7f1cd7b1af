-- Which values operands are, and what slots make of operands: what an operation makes of whatever values they stand for.
use Rattle.std.specs.Prelude.{◌≡◌, ℤ, ◌&&◌, ◌<◌, ℕ, Bool, true, false, List, length, Option, Some, None, if◌then◌else◌}
use Rattle.std.specs.Ordering.{int_eq}
use Rattle.imkl_model.specs.ClassModel.{belongs}
use Rattle.imkl_population.specs.declared.scalar.Scalar.TheVariants as scalar
use Rattle.imkl_population.specs.Population.{Population, class_of}
use Rattle.imkl_population.specs.Values.{is_integer}
use Rattle.ocl_kinds.specs.declared.kind.ScalarKind.{ScalarKind}
use Rattle.rule_values.specs.Value.{Value, Invalid, Single, Collection, is_collection_in}
use Rattle.rule_slots.specs.declared.slot.Slot.{Slot}
use Rattle.rule_slots.specs.Slots.{Lists, SlotIs, plain_mark, number_slot, truth_slot, invalid_slot}

-- ---- operands

-- a truth value, null or invalid
abbrev pub is_truth_operand : Value → Bool
is_truth_operand (Single (scalar.Bool b)) = true
is_truth_operand (Single v) = false
is_truth_operand (Collection c es) = false
is_truth_operand v = true

-- a whole number, null or invalid
abbrev pub is_number_operand : Value → Bool
is_number_operand (Single (scalar.Int n)) = true
is_number_operand (Single v) = false
is_number_operand (Collection c es) = false
is_number_operand v = true

-- a text, null or invalid
abbrev pub is_text_operand : Value → Bool
is_text_operand (Single (scalar.Text t)) = true
is_text_operand (Single v) = false
is_text_operand (Collection c es) = false
is_text_operand v = true

-- an object, null or invalid
abbrev pub is_object_operand : Value → Bool
is_object_operand (Single (scalar.Object o)) = true
is_object_operand (Single v) = false
is_object_operand (Collection c es) = false
is_object_operand v = true

-- no collection
abbrev pub is_single_operand : Value → Bool
is_single_operand (Collection c es) = false
is_single_operand v = true

-- a collection, null or invalid
abbrev pub is_many_operand : Value → Bool
is_many_operand (Single v) = false
is_many_operand v = true

-- a collection of elements of a kind, or invalid
abbrev pub is_elements_operand : Population → ScalarKind → Value → Bool
is_elements_operand p k (Collection c es) = is_collection_in p c es k
is_elements_operand p k Invalid = true
is_elements_operand p k v = false

-- any value
abbrev pub is_any_operand : Value → Bool
is_any_operand v = true

-- ---- results

-- a slot stands for what an operation makes of one operand, whatever value that stands for
abbrev pub MakesOfOne : Lists → List Slot → (Value → Bool) → (Value → Value) → Slot → Slot → Type 0
MakesOfOne l pool test f x r =
    (v : Value) → SlotIs l pool (length pool) x v → test v ≡ true → SlotIs l pool (length pool) r (f v)

-- and of two
abbrev pub MakesOfTwo : Lists → List Slot → (Value → Bool) → (Value → Bool) → (Value → Value → Value) → Slot → Slot → Slot → Type 0
MakesOfTwo l pool test other f x y r =
    (v w : Value) → SlotIs l pool (length pool) x v → SlotIs l pool (length pool) y w → test v ≡ true → other w ≡ true → SlotIs l pool (length pool) r (f v w)

-- a slot stands, under the pool as it has grown, for what an operation makes of one operand
abbrev pub MadeInPool : Lists → List Slot → List Slot → (Value → Bool) → (Value → Value) → Slot → Slot → Type 0
MadeInPool l pool grown test f x r =
    (v : Value) → SlotIs l pool (length pool) x v → test v ≡ true → SlotIs l grown (length grown) r (f v)

-- ---- what is computed of slots

-- a result, invalid where an operand is null or invalid
abbrev pub if_plain : Slot → Slot → Slot
if_plain x r = if plain_mark x.mark then r else invalid_slot

-- and of two operands
abbrev pub if_both_plain : Slot → Slot → Slot → Slot
if_both_plain x y r = if plain_mark x.mark && plain_mark y.mark then r else invalid_slot

-- a whole number, invalid where it is out of range
abbrev pub integer_slot : ℤ → Slot
integer_slot n = if is_integer n then number_slot n else invalid_slot

-- what a checked operation gives
abbrev pub checked_slot : Option ℤ → Slot
checked_slot (Some n) = number_slot n
checked_slot None = invalid_slot

-- it has a value, which is this number
abbrev pub is_number : Slot → ℤ → Bool
is_number s n = plain_mark s.mark && int_eq s.number n

-- true where it is known to be so, false where it is known not to be so, else invalid
abbrev pub known_slot : Bool → Bool → Slot
known_slot is_so is_not = if is_so then truth_slot true else (if is_not then truth_slot false else invalid_slot)

-- ---- objects

-- a slot that has a value is an object of the population
abbrev pub IsObjectOf : Population → Slot → Type 0
IsObjectOf p s = plain_mark s.mark ≡ true → s.index < length p.objects

-- and the feature belongs to its class
abbrev pub HasFeature : Population → ℕ → Slot → Type 0
HasFeature p f s = plain_mark s.mark ≡ true → (s.index < length p.objects) × (belongs p.model (class_of p s.index) f ≡ true)
