-- Slots stand for what operations on truth values and numbers give.
use Rattle.std.proofs.Common.{◌≡◌, ℕ, Bool, true, false, List, length, refl, sym, ap, ◌∙◌, subst, arith}
use Rattle.std.specs.Prelude.{ℤ, pos, ◌==◌, ◌&&◌, if◌then◌else◌}
use Rattle.std.specs.Ordering.{int_eq}
use Rattle.imkl_population.specs.declared.scalar.Scalar.TheVariants as scalar
use Rattle.imkl_population.specs.Values.{is_integer}
use Rattle.rule_values.specs.Value as value
use Rattle.rule_values.specs.Value.{Value, truth_value}
use Rattle.rule_values.specs.Operations.{on_integers, on_integer, integer_value, collection_size, emptiness, is_true, is_false, is_invalid, truth_known}
use Rattle.rule_slots.specs.declared.slot.Slot.{Slot}
use Rattle.rule_slots.specs.Slots.{Lists, SlotIs, plain_mark, invalid_mark, number_slot, truth_slot, invalid_slot}
use Rattle.rule_slots.specs.Operands.{MakesOfOne, MakesOfTwo, is_number_operand, is_truth_operand, is_many_operand, if_plain, if_both_plain, integer_slot, is_number, known_slot}
use Rattle.rule_slots.proofs.Stood.{as_many}

-- ---- whole numbers

-- a whole number, invalid where it is out of range
pub integer_is : (l : Lists) (p : List Slot) (hi : ℕ) (n : ℤ) → SlotIs l p hi (integer_slot n) (integer_value n)
integer_is l p hi n = by_test (is_integer n)
  where
    by_test : (b : Bool) → SlotIs l p hi (if b then number_slot n else invalid_slot) (if b then value.Single (scalar.Int n) else value.Invalid)
    by_test true = (refl, refl)
    by_test false = refl

-- a count is the one that is meant
pub integer_same : (l : Lists) (p : List Slot) (hi : ℕ) (n m : ℕ) → n ≡ m → SlotIs l p hi (integer_slot (pos n)) (integer_value (pos m))
integer_same l p hi n m e = subst (λ z. SlotIs l p hi (integer_slot (pos n)) (integer_value (pos z))) e (integer_is l p hi (pos n))

-- the same, where a test makes it invalid
integer_unless : (l : Lists) (p : List Slot) (hi : ℕ) (b : Bool) (n : ℤ) → SlotIs l p hi (if b then invalid_slot else integer_slot n) (if b then value.Invalid else integer_value n)
integer_unless l p hi true n = refl
integer_unless l p hi false n = integer_is l p hi n

numbers_are : (l : Lists) (p : List Slot) (hi : ℕ) (f : ℤ → ℤ → Value) (x y r : Slot) → SlotIs l p hi r (f x.number y.number) → (v w : Value) → SlotIs l p hi x v → SlotIs l p hi y w → is_number_operand v ≡ true → is_number_operand w ≡ true
    → SlotIs l p hi (if_both_plain x y r) (on_integers f v w)
numbers_are l p hi f x y r are (value.Single (scalar.Int a)) (value.Single (scalar.Int b)) h k i j =
    rw (h.0, k.0) (subst (λ n. SlotIs l p hi r (f n b)) h.1 (subst (λ m. SlotIs l p hi r (f x.number m)) k.1 are))
numbers_are l p hi f x y r are (value.Single (scalar.Int a)) value.Null h k i j = rw (h.0, k) refl
numbers_are l p hi f x y r are (value.Single (scalar.Int a)) value.Invalid h k i j = rw (h.0, k) refl
numbers_are l p hi f x y r are value.Null w h k i j = rw h refl
numbers_are l p hi f x y r are value.Invalid w h k i j = rw h refl
numbers_are l p hi f x y r are v w h k i j = cc

-- what an operation makes of two whole numbers
numbers_made : (f : ℤ → ℤ → Value) (x y made r : Slot) → r ≡ if_both_plain x y made → ((l : Lists) (p : List Slot) (hi : ℕ) → SlotIs l p hi made (f x.number y.number)) → (l : Lists) (p : List Slot)
    → MakesOfTwo l p is_number_operand is_number_operand (on_integers f) x y r
numbers_made f x y made r e are l p v w h k i j =
    subst (λ z. SlotIs l p (length p) z (on_integers f v w)) (sym e) (numbers_are l p (length p) f x y made (are l p (length p)) v w h k i j)

number_is : (l : Lists) (p : List Slot) (hi : ℕ) (f : ℤ → Value) (x r : Slot) → SlotIs l p hi r (f x.number) → (v : Value) → SlotIs l p hi x v → is_number_operand v ≡ true → SlotIs l p hi (if_plain x r) (on_integer f v)
number_is l p hi f x r are (value.Single (scalar.Int a)) h i = rw h.0 (subst (λ n. SlotIs l p hi r (f n)) h.1 are)
number_is l p hi f x r are value.Null h i = rw h refl
number_is l p hi f x r are value.Invalid h i = rw h refl
number_is l p hi f x r are v h i = cc

-- what an operation makes of a whole number
number_made : (f : ℤ → Value) (x made r : Slot) → r ≡ if_plain x made → ((l : Lists) (p : List Slot) (hi : ℕ) → SlotIs l p hi made (f x.number)) → (l : Lists) (p : List Slot) → MakesOfOne l p is_number_operand (on_integer f) x r
number_made f x made r e are l p v h i =
    subst (λ z. SlotIs l p (length p) z (on_integer f v)) (sym e) (number_is l p (length p) f x made (are l p (length p)) v h i)

-- ---- whole numbers, by what is computed

-- a number that is computed of two
pub integers_made : (f : ℤ → ℤ → ℤ) (x y made r : Slot) → r ≡ if_both_plain x y made → made ≡ integer_slot (f x.number y.number) → (l : Lists) (p : List Slot)
    → MakesOfTwo l p is_number_operand is_number_operand (on_integers (λ a b. integer_value (f a b))) x y r
integers_made f x y made r e g =
    numbers_made (λ a b. integer_value (f a b)) x y made r e (λ l p hi. subst (λ z. SlotIs l p hi z (integer_value (f x.number y.number))) (sym g) (integer_is l p hi (f x.number y.number)))

-- one that is not computed where a test passes
pub integers_unless : (t : ℤ → ℤ → Bool) (f : ℤ → ℤ → ℤ) (x y made r : Slot) → r ≡ if_both_plain x y made → made ≡ (if t x.number y.number then invalid_slot else integer_slot (f x.number y.number)) → (l : Lists) (p : List Slot)
    → MakesOfTwo l p is_number_operand is_number_operand (on_integers (λ a b. if t a b then value.Invalid else integer_value (f a b))) x y r
integers_unless t f x y made r e g =
    numbers_made (λ a b. if t a b then value.Invalid else integer_value (f a b)) x y made r e
    (λ l p hi. subst (λ z. SlotIs l p hi z (if t x.number y.number then value.Invalid else integer_value (f x.number y.number))) (sym g) (integer_unless l p hi (t x.number y.number) (f x.number y.number)))

-- a test of two
pub tests_made : (t : ℤ → ℤ → Bool) (x y made r : Slot) → r ≡ if_both_plain x y made → made ≡ truth_slot (t x.number y.number) → (l : Lists) (p : List Slot)
    → MakesOfTwo l p is_number_operand is_number_operand (on_integers (λ a b. truth_value (t a b))) x y r
tests_made t x y made r e g =
    numbers_made (λ a b. truth_value (t a b)) x y made r e (λ l p hi. subst (λ z. SlotIs l p hi z (truth_value (t x.number y.number))) (sym g) (refl, refl))

-- a number that is computed of one
pub integer_made : (f : ℤ → ℤ) (x made r : Slot) → r ≡ if_plain x made → made ≡ integer_slot (f x.number) → (l : Lists) (p : List Slot)
    → MakesOfOne l p is_number_operand (on_integer (λ a. integer_value (f a))) x r
integer_made f x made r e g =
    number_made (λ a. integer_value (f a)) x made r e (λ l p hi. subst (λ z. SlotIs l p hi z (integer_value (f x.number))) (sym g) (integer_is l p hi (f x.number)))

-- ---- truth values

-- a slot is the number 1 where it stands for true, and 0 where it stands for false
pub truth_by : (l : Lists) (p : List Slot) (hi : ℕ) (y : Slot) (b : Value) → SlotIs l p hi y b → is_truth_operand b ≡ true → (is_number y (pos 1) ≡ is_true b) × (is_number y (pos 0) ≡ is_false b)
truth_by l p hi y (value.Single (scalar.Bool true)) h k =
    (ap (λ m. plain_mark m && int_eq y.number (pos 1)) h.0 ∙ ap (λ z. int_eq z (pos 1)) h.1, ap (λ m. plain_mark m && int_eq y.number (pos 0)) h.0 ∙ ap (λ z. int_eq z (pos 0)) h.1)
truth_by l p hi y (value.Single (scalar.Bool false)) h k =
    (ap (λ m. plain_mark m && int_eq y.number (pos 1)) h.0 ∙ ap (λ z. int_eq z (pos 1)) h.1, ap (λ m. plain_mark m && int_eq y.number (pos 0)) h.0 ∙ ap (λ z. int_eq z (pos 0)) h.1)
truth_by l p hi y value.Null h k = (ap (λ m. plain_mark m && int_eq y.number (pos 1)) h, ap (λ m. plain_mark m && int_eq y.number (pos 0)) h)
truth_by l p hi y value.Invalid h k = (ap (λ m. plain_mark m && int_eq y.number (pos 1)) h, ap (λ m. plain_mark m && int_eq y.number (pos 0)) h)
truth_by l p hi y b h k = cc

-- what is known of truth
pub known_is : (l : Lists) (p : List Slot) (hi : ℕ) (a b a' b' : Bool) → a ≡ a' → b ≡ b' → SlotIs l p hi (known_slot a b) (truth_known a' b')
known_is l p hi true b true b' e f = (refl, refl)
known_is l p hi false true false true e f = (refl, refl)
known_is l p hi false false false false e f = refl
known_is l p hi a b a' b' e f = cc

-- ---- marks

-- a slot's mark tells whether its value is invalid
pub invalid_by : (l : Lists) (p : List Slot) (hi : ℕ) (y : Slot) (b : Value) → SlotIs l p hi y b → invalid_mark y.mark ≡ is_invalid b
invalid_by l p hi y value.Invalid h = ap invalid_mark h
invalid_by l p hi y value.Null h = ap invalid_mark h
invalid_by l p hi y (value.Single v) h = ap invalid_mark h.0
invalid_by l p hi y (value.Collection c es) h = ap invalid_mark h.0

-- a truth value is the one that is meant
pub truth_is : (l : Lists) (p : List Slot) (hi : ℕ) (a b : Bool) → a ≡ b → SlotIs l p hi (truth_slot a) (truth_value b)
truth_is l p hi a b e = subst (λ z. SlotIs l p hi (truth_slot a) (truth_value z)) e (refl, refl)

-- a test of values of which neither is invalid
pub unless_is : (l : Lists) (p : List Slot) (hi : ℕ) (a a' b b' : Bool) → a ≡ a' → b ≡ b' → SlotIs l p hi (if a then invalid_slot else truth_slot b) (if a' then value.Invalid else truth_value b')
unless_is l p hi true true b b' e f = refl
unless_is l p hi false false b b' e f = truth_is l p hi b b' f
unless_is l p hi true false b b' e f = cc
unless_is l p hi false true b b' e f = cc

-- ---- how long collections are

-- a size
pub size_made : (x made r : Slot) → r ≡ if_plain x made → made ≡ integer_slot (pos x.count) → (l : Lists) (p : List Slot) → MakesOfOne l p is_many_operand collection_size x r
size_made x made r e g l p (value.Collection c es) h i =
    let n : x.count ≡ length es = sym (as_many l p (length p) x es (omega arith) h.1) in
    subst (λ z. SlotIs l p (length p) z (integer_value (pos (length es)))) (sym (e ∙ ap (λ m. if plain_mark m then made else invalid_slot) h.0 ∙ g)) (integer_same l p (length p) x.count (length es) n)
size_made x made r e g l p value.Null h i = ap (λ z. z.mark) (e ∙ ap (λ m. if plain_mark m then made else invalid_slot) h)
size_made x made r e g l p value.Invalid h i = ap (λ z. z.mark) (e ∙ ap (λ m. if plain_mark m then made else invalid_slot) h)
size_made x made r e g l p (value.Single v) h i = cc

-- whether there is no element
pub empty_made : (x made r : Slot) → r ≡ if_plain x made → made ≡ truth_slot (x.count == 0) → (l : Lists) (p : List Slot) → MakesOfOne l p is_many_operand emptiness x r
empty_made x made r e g l p (value.Collection c es) h i =
    let n : x.count ≡ length es = sym (as_many l p (length p) x es (omega arith) h.1) in
    subst (λ z. SlotIs l p (length p) z (truth_value (length es == 0))) (sym (e ∙ ap (λ m. if plain_mark m then made else invalid_slot) h.0 ∙ g)) (truth_is l p (length p) (x.count == 0) (length es == 0) (ap (λ k. k == 0) n))
empty_made x made r e g l p value.Null h i = ap (λ z. z.mark) (e ∙ ap (λ m. if plain_mark m then made else invalid_slot) h)
empty_made x made r e g l p value.Invalid h i = ap (λ z. z.mark) (e ∙ ap (λ m. if plain_mark m then made else invalid_slot) h)
empty_made x made r e g l p (value.Single v) h i = cc
