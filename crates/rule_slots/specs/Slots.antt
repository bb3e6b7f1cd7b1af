-- Slots, and the values that they stand for. A slot has no kind: what its words mean is told by the value.
use Rattle.std.specs.Prelude.{◌≡◌, ℕ, ◌+◌, ◌≤◌, ◌==◌, ℤ, pos, Bool, true, false, List, [], ◌∷◌, ◌++◌, map, length, slice_get, slice_range, Some, None, encode_utf8_all, if◌then◌else◌}
use Rattle.imkl_population.specs.declared.scalar.Scalar.{Scalar}
use Rattle.imkl_population.specs.declared.scalar.Scalar.TheVariants as scalar
use Rattle.rule_code.specs.View.{content}
use Rattle.rule_values.specs.Value.{Element, Value, Invalid, Null, Single, Collection}
use Rattle.rule_slots.specs.declared.lists.Lists as borrowed
use Rattle.rule_slots.specs.declared.slot.Mark.{Mark}
use Rattle.rule_slots.specs.declared.slot.Mark.TheVariants as mark
use Rattle.rule_slots.specs.declared.slot.Home.{Home}
use Rattle.rule_slots.specs.declared.slot.Home.TheVariants as home
use Rattle.rule_slots.specs.declared.slot.Slot.{Slot}

-- the lists that slots index, beside the pool: the bytes of the unit's texts, the values of the population, and the
-- instances of its classes
pub record Lists : Type 0 where
  pub texts : List (List ℕ)
  pub scalars : List Scalar
  pub instances : List ℕ

-- the lists of a unit and a population
abbrev pub lists_in : borrowed.Lists → Lists
lists_in l = record { texts = (content l.unit.now).texts; scalars = l.population.now.scalars; instances = l.population.now.instance_list }

-- neither null nor invalid
abbrev pub plain_mark : Mark → Bool
plain_mark mark.Plain = true
plain_mark m = false

-- null
abbrev pub null_mark : Mark → Bool
null_mark mark.Null = true
null_mark m = false

-- invalid
abbrev pub invalid_mark : Mark → Bool
invalid_mark mark.Invalid = true
invalid_mark m = false

-- the list that a word names
abbrev pub home_named : ℕ → Home
home_named n = if n == 0 then home.Scalars else (if n == 1 then home.Instances else home.Pool)

-- the word of the list of the population's values
abbrev pub SCALARS : ℕ
SCALARS = 0

-- of the instances
abbrev pub INSTANCES : ℕ
INSTANCES = 1

-- of the pool
abbrev pub POOL : ℕ
POOL = 2

-- the word of a text of the unit; each other text is a value of the population
abbrev pub UNIT_TEXT : ℕ
UNIT_TEXT = 1

-- ---- slots of values

-- a slot of these words
abbrev pub slot : Mark → ℕ → ℤ → ℕ → ℕ → ℕ → Slot
slot m l n i s c = record { mark = m; list = l; number = n; index = i; start = s; count = c }

-- invalid
abbrev pub invalid_slot : Slot
invalid_slot = slot mark.Invalid 0 (pos 0) 0 0 0

-- null
abbrev pub null_slot : Slot
null_slot = slot mark.Null 0 (pos 0) 0 0 0

-- 1 for true, 0 for false
abbrev pub truth_number : Bool → ℤ
truth_number true = pos 1
truth_number false = pos 0

-- a whole number
abbrev pub number_slot : ℤ → Slot
number_slot n = slot mark.Plain 0 n 0 0 0

-- a truth value
abbrev pub truth_slot : Bool → Slot
truth_slot b = number_slot (truth_number b)

-- an object, or a literal
abbrev pub index_slot : ℕ → Slot
index_slot o = slot mark.Plain 0 (pos 0) o 0 0

-- a text: its list, its index there, and the range of its bytes
abbrev pub text_slot : ℕ → ℕ → ℕ → ℕ → Slot
text_slot l i s c = slot mark.Plain l (pos 0) i s c

-- a collection: its list, and its range there
abbrev pub part_slot : ℕ → ℕ → ℕ → Slot
part_slot l s c = slot mark.Plain l (pos 0) 0 s c

-- the value of the population that has this index
abbrev pub scalar_slot : ℕ → Scalar → Slot
scalar_slot i (scalar.Bool b) = truth_slot b
scalar_slot i (scalar.Int n) = number_slot n
scalar_slot i (scalar.Text t) = text_slot 0 i 0 (length (encode_utf8_all t))
scalar_slot i (scalar.Literal e l) = index_slot l
scalar_slot i (scalar.Object o) = index_slot o

-- values of the population from an index on
abbrev pub scalar_slots : ℕ → List Scalar → List Slot
scalar_slots i [] = []
scalar_slots i (v ∷ vs) = scalar_slot i v ∷ scalar_slots (i + 1) vs

-- ---- texts

-- these are the characters of the text at an index: of a value of the population, or of a text of the unit
abbrev pub IsTextAt : Bool → Lists → ℕ → List ℕ → Type 0
IsTextAt true l i t = slice_get l.scalars i ≡ Some (scalar.Text t)
IsTextAt false l i t = slice_get l.texts i ≡ Some (encode_utf8_all t)

-- the characters t stand there at the slot's bytes
pub record TextIs (l : Lists) (s : Slot) (t : List ℕ) : Type 0 where
  pub front : List ℕ
  pub rest : List ℕ
  pub there : IsTextAt (s.list == 0) l s.index (front ++ (t ++ rest))
  pub start : s.start ≡ length (encode_utf8_all front)
  pub count : s.count ≡ length (encode_utf8_all t)

-- ---- single values

-- what a slot that has a value must be to stand for a single value
abbrev pub ScalarIs : Lists → Slot → Scalar → Type 0
ScalarIs l s (scalar.Bool b) = s.number ≡ truth_number b
ScalarIs l s (scalar.Int n) = s.number ≡ n
ScalarIs l s (scalar.Text t) = TextIs l s t
ScalarIs l s (scalar.Literal e x) = s.index ≡ x
ScalarIs l s (scalar.Object o) = s.index ≡ o

-- a slot stands for an element
abbrev pub ElementIs : Lists → Slot → Element → Type 0
ElementIs l s None = s.mark ≡ mark.Null
ElementIs l s (Some v) = (s.mark ≡ mark.Plain) × ScalarIs l s v

-- slots stand for elements, one by one
abbrev pub ElementsAre : Lists → List Slot → List Element → Type 0
ElementsAre l [] [] = Unit {0}
ElementsAre l [] (e ∷ es) = ⊥
ElementsAre l (s ∷ ss) [] = ⊥
ElementsAre l (s ∷ ss) (e ∷ es) = ElementIs l s e × ElementsAre l ss es

-- objects as elements
abbrev pub object_elements : List ℕ → List Element
object_elements os = map (λ o. Some (scalar.Object o)) os

-- ---- collections

-- the slots of a part of a list
abbrev pub part_slots : Home → Lists → List Slot → ℕ → ℕ → List Slot
part_slots home.Scalars l pool a n = scalar_slots a (slice_range l.scalars a (a + n))
part_slots home.Instances l pool a n = map index_slot (slice_range l.instances a (a + n))
part_slots home.Pool l pool a n = slice_range pool a (a + n)

-- how long the list is, where the pool counts up to a bound
abbrev pub home_length : Home → Lists → ℕ → ℕ
home_length home.Scalars l hi = length l.scalars
home_length home.Instances l hi = length l.instances
home_length home.Pool l hi = hi

-- the elements of a collection
abbrev pub held_slots : Lists → List Slot → Slot → List Slot
held_slots l pool s = part_slots (home_named s.list) l pool s.start s.count

-- a range lies in its list, no part of it past the pool's bound
abbrev pub IsInHome : Lists → ℕ → Slot → Type 0
IsInHome l hi s = s.start + s.count ≤ home_length (home_named s.list) l hi

-- one that has a value does
abbrev pub LiesInHome : Lists → ℕ → Slot → Type 0
LiesInHome l hi s = plain_mark s.mark ≡ true → IsInHome l hi s

-- the collection lies in its list, no part of it past the bound, and these are its elements
pub record PartIs (l : Lists) (pool : List Slot) (hi : ℕ) (s : Slot) (es : List Element) : Type 0 where
  pub within : IsInHome l hi s
  pub elements : ElementsAre l (held_slots l pool s) es

-- ---- values

-- a slot stands for a value, with no part of the pool past the bound
abbrev pub SlotIs : Lists → List Slot → ℕ → Slot → Value → Type 0
SlotIs l pool hi s Invalid = s.mark ≡ mark.Invalid
SlotIs l pool hi s Null = s.mark ≡ mark.Null
SlotIs l pool hi s (Single v) = (s.mark ≡ mark.Plain) × ScalarIs l s v
SlotIs l pool hi s (Collection c es) = (s.mark ≡ mark.Plain) × PartIs l pool hi s es

-- slots stand for values, one by one
abbrev pub SlotsAre : Lists → List Slot → ℕ → List Slot → List Value → Type 0
SlotsAre l pool hi [] [] = Unit {0}
SlotsAre l pool hi [] (v ∷ vs) = ⊥
SlotsAre l pool hi (s ∷ ss) [] = ⊥
SlotsAre l pool hi (s ∷ ss) (v ∷ vs) = SlotIs l pool hi s v × SlotsAre l pool hi ss vs
