-- Copies of collections behind the pool as it was, and what is chosen by them.
use Rattle.std.specs.Prelude.{◌≡◌, ℕ, ◌+◌, ◌-◌, ◌<◌, ◌≤◌, Bool, true, false, List, [], ◌++◌, length, take, drop, slice_get, Some}
use Rattle.std.specs.List.Sorted.{IsPermutation}
use Rattle.ocl_base.specs.Lists.{is_among, repeats}
use Rattle.rule_slots.specs.declared.slot.Slot.{Slot}
use Rattle.rule_slots.specs.Slots.{Lists, held_slots, IsInHome}
use Rattle.rule_slots.specs.Compared.{first_ones}

-- The pool has grown, and is as it was below; the copy lies in it, and has the elements of the source in some order.
pub record IsCopyOf (l : Lists) (old : List Slot) (source : Slot) (new : List Slot) (copy : Slot) : Type 0 where
  pub grown : length old ≤ length new
  pub below : take (length old) new ≡ old
  pub within : IsInHome l (length new) copy
  pub moved : IsPermutation (held_slots l old source) (held_slots l new copy)

-- Items of a room are as they were, and behind them are the elements of a source in some order: its copy.
pub record IsCopyIn (l : Lists) (pool : List Slot) (source : Slot) (old new : List Slot) (copy : Slot) : Type 0 where
  pub grown : length old ≤ length new
  pub below : take (length old) new ≡ old
  pub within : IsInHome l (length new) copy
  pub moved : IsPermutation (held_slots l pool source) (held_slots l new copy)

-- a room has copies of two collections of the pool
pub record AreCopies (l : Lists) (pool : List Slot) (left right : Slot) (room : List Slot) (one other : Slot) : Type 0 where
  pub one_within : IsInHome l (length room) one
  pub other_within : IsInHome l (length room) other
  pub one_moved : IsPermutation (held_slots l pool left) (held_slots l room one)
  pub other_moved : IsPermutation (held_slots l pool right) (held_slots l room other)

-- an item of a list stands before another, and is the same
pub record IsSameBefore {A : Type 0} (same : A → A → Bool) (all : List A) (index place : ℕ) : Type 0 where
  pub before : place < index
  pub here : A
  pub there : A
  pub here_is : slice_get all index ≡ Some here
  pub there_is : slice_get all place ≡ Some there
  pub alike : same here there ≡ true

-- Items of a list were put behind others, in its order. If all of them differ, they are the first ones of their like.
pub record IsChoice {A : Type 0} (same : A → A → Bool) (all old new : List A) : Type 0 where
  pub taken : List A
  pub put : new ≡ old ++ taken
  pub first : repeats same taken ≡ false → taken ≡ first_ones same [] all

-- Going through a list up to an index, items were put behind others: what is among those that were passed is among these.
-- If all of them differ, they are the first ones of those that were passed. There is room for all that are left.
pub record Choosing {A : Type 0} (same : A → A → Bool) (all old new : List A) (index count room_for : ℕ) : Type 0 where
  pub taken : List A
  pub put : new ≡ old ++ taken
  pub known : (z : A) → is_among same (take index all) z ≡ true → is_among same taken z ≡ true
  pub first : repeats same taken ≡ false → taken ++ first_ones same taken (drop index all) ≡ first_ones same [] all
  pub room : length new + (count - index) ≤ room_for
  pub long : length taken ≤ index
