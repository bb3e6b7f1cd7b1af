-- Slots keep their meaning under a pool that is the same below their ends.
use Rattle.std.proofs.Common.{◌≡◌, ℕ, ◌+◌, ◌-◌, ◌≤◌, Bool, true, false, List, [], ◌∷◌, ◌++◌, length, take, drop, refl, sym, ap, ◌∙◌, subst, arith, length-append}
use Rattle.std.specs.Prelude.{nat_le, slice_range}
use Rattle.std.proofs.lemmas.List.{take-append-le, drop-append-le, length-drop, take_all, take-take, drop-take, length-take-le}
use Rattle.std.proofs.lemmas.Bool.{leb-true, leb-false}
use Rattle.rule_values.specs.Value as value
use Rattle.rule_values.specs.Value.{Element, Value}
use Rattle.rule_slots.specs.declared.slot.Home.{Home}
use Rattle.rule_slots.specs.declared.slot.Home.TheVariants as home
use Rattle.rule_slots.specs.declared.slot.Slot.{Slot}
use Rattle.rule_slots.specs.Slots.{Lists, ElementsAre, PartIs, SlotIs, SlotsAre, part_slots, home_length, home_named, held_slots, IsInHome}

-- a range below a bound is that of a list that is the same below it
pub range_same : {A : Type 0} (l m : List A) (hi a b : ℕ) → take hi l ≡ take hi m → b ≤ hi → slice_range l a b ≡ slice_range m a b
range_same {A} l m hi a b same le = by_order (nat_le a b) refl
  where
    empty : (xs ys : List A) → b - a ≡ 0 → take (b - a) xs ≡ take (b - a) ys
    empty xs ys e = rw e refl

    by_order : (t : Bool) → nat_le a b ≡ t → slice_range l a b ≡ slice_range m a b
    by_order true e =
        let h : a + (b - a) ≤ hi = omega (arith, leb-true a b e) in
        sym (drop-take a (b - a) l) ∙ ap (drop a) (sym (take-take (a + (b - a)) hi l h) ∙ ap (take (a + (b - a))) same ∙ take-take (a + (b - a)) hi m h) ∙ drop-take a (b - a) m
    by_order false e = empty _ _ (omega (arith, leb-false a b e))

-- ---- the same below a bound, and a higher bound

module _ (l : Lists) (p q : List Slot) (hi hi' : ℕ) (le : hi ≤ hi') (same : take hi p ≡ take hi q) where
  within_same : (h : Home) (a : ℕ) → a ≤ home_length h l hi → a ≤ home_length h l hi'
  within_same home.Scalars a w = w
  within_same home.Instances a w = w
  within_same home.Pool a w = omega (arith, w, le)

  slots_at_same : (h : Home) (a n : ℕ) → a + n ≤ home_length h l hi → part_slots h l p a n ≡ part_slots h l q a n
  slots_at_same home.Scalars a n w = refl
  slots_at_same home.Instances a n w = refl
  slots_at_same home.Pool a n w = range_same p q hi a (a + n) same w

  -- what lies in its list below a bound does so below a higher one
  pub within_grown : (s : Slot) → IsInHome l hi s → IsInHome l hi' s
  within_grown s w = within_same (home_named s.list) (s.start + s.count) w

  -- the elements of a part stay the same
  pub held_same : (s : Slot) → IsInHome l hi s → held_slots l p s ≡ held_slots l q s
  held_same s w = slots_at_same (home_named s.list) s.start s.count w

  -- a part stays the same
  pub part_same : (s : Slot) (es : List Element) → PartIs l p hi s es → PartIs l q hi' s es
  part_same s es h =
      record {
        within = within_same (home_named s.list) (s.start + s.count) h.within;
        elements = subst (λ ss. ElementsAre l ss es) (slots_at_same (home_named s.list) s.start s.count h.within) h.elements;
      }

  -- a slot stands for the same value
  pub slot_same : (s : Slot) (v : Value) → SlotIs l p hi s v → SlotIs l q hi' s v
  slot_same s value.Invalid h = h
  slot_same s value.Null h = h
  slot_same s (value.Single v) h = h
  slot_same s (value.Collection c es) h = (h.0, part_same s es h.1)

  -- slots stand for the same values
  pub slots_same : (ss : List Slot) (vs : List Value) → SlotsAre l p hi ss vs → SlotsAre l q hi' ss vs
  slots_same [] [] h = h
  slots_same [] (v ∷ vs) h = h
  slots_same (s ∷ ss) [] h = h
  slots_same (s ∷ ss) (v ∷ vs) h = (slot_same s v h.0, slots_same ss vs h.1)

-- what is the same below a bound is so below a lower one
pub less : {A : Type 0} (l m : List A) (hi lo : ℕ) → lo ≤ hi → take hi l ≡ take hi m → take lo l ≡ take lo m
less l m hi lo le same = sym (take-take lo hi l le) ∙ ap (take lo) same ∙ take-take lo hi m le

-- ---- how the pool changes: it grows, it is cut, it is cut and grows

-- a pool that grows is the same below its length
pub grows : {A : Type 0} (l more : List A) (hi : ℕ) → hi ≤ length l → take hi l ≡ take hi (l ++ more)
grows l more hi le = sym (take-append-le hi l more le)

-- a pool that is cut is the same below where it is cut
pub is_cut : {A : Type 0} (l : List A) (hi n : ℕ) → hi ≤ n → take hi l ≡ take hi (take n l)
is_cut l hi n le = sym (take-take hi n l le)

-- and so is one that then grows
pub is_replaced : {A : Type 0} (l more : List A) (hi n : ℕ) → hi ≤ n → n ≤ length l → take hi l ≡ take hi (take n l ++ more)
is_replaced l more hi n le le' = is_cut l hi n le ∙ grows (take n l) more hi (omega (arith, length-take-le n l le'))

-- what a turn's end leaves from where the pool was opened: what was kept, and what is added
pub kept_more : {A : Type 0} (l more : List A) (a k : ℕ) → a + k ≤ length l → slice_range (take (a + k) l ++ more) a (a + (k + length more)) ≡ slice_range l a (a + k) ++ more
kept_more l more a k le =
    let n : a + (k + length more) - a ≡ k + length more = omega arith in
    let m : a + k - a ≡ k = omega arith in
    let d : drop a (take (a + k) l ++ more) ≡ take k (drop a l) ++ more = drop-append-le a (take (a + k) l) more (omega (arith, length-take-le (a + k) l le)) ∙ ap (λ x. x ++ more) (drop-take a k l) in
    let f : length (take k (drop a l)) ≡ k = length-take-le k (drop a l) (omega (arith, length-drop a l, le)) in
    ap (λ x. take x (drop a (take (a + k) l ++ more))) n ∙ ap (take (k + length more)) d
    ∙ take_all (k + length more) (take k (drop a l) ++ more) (omega (arith, f, length-append (take k (drop a l)) more))
    ∙ ap (λ x. take x (drop a l) ++ more) (sym m)
