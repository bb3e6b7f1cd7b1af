-- What collections are compared by: elements as a comparer has them, and what is asked of them.
use Rattle.std.specs.Prelude.{◌≡◌, Bool, true, false, not, List, length}
use Rattle.std.specs.List.{list_all}
use Rattle.ocl_base.specs.Lists.{is_among}
use Rattle.rule_slots.specs.declared.slot.Slot.{Slot}
use Rattle.rule_slots.specs.declared.comparer.Comparer.{Comparer}
use Rattle.rule_slots.specs.declared.comparer.Quantifier.{Quantifier}
use Rattle.rule_slots.specs.declared.comparer.Quantifier.TheVariants as quantifier
use Rattle.rule_slots.specs.declared.comparer.Order.{Order}
use Rattle.rule_slots.specs.declared.comparer.Order.TheVariants as order
use Rattle.rule_slots.specs.declared.comparer.Search.{Search}
use Rattle.rule_slots.specs.declared.comparer.Search.TheVariants as search
use Rattle.rule_slots.specs.declared.comparer.Repeats.{Repeats}
use Rattle.rule_slots.specs.declared.comparer.Repeats.TheVariants as repeats
use Rattle.rule_slots.specs.Slots.{lists_in, held_slots, IsInHome}
use Rattle.rule_slots.specs.Compared.{same_slots, same_unordered}
use Rattle.rule_slots.specs.Ordered.{compare_slots, is_defined, may_precede, rises}

-- two elements are the same
abbrev pub same_by : Comparer → Slot → Slot → Bool
same_by c = same_slots (lists_in c.lists) c.kind

-- the elements of a collection
abbrev pub slots_by : Comparer → Slot → List Slot
slots_by c s = held_slots (lists_in c.lists) c.pool.now s

-- it lies in its list
abbrev pub IsHeldBy : Comparer → Slot → Type 0
IsHeldBy c s = IsInHome (lists_in c.lists) (length c.pool.now) s

-- ---- order

-- none may be beside one that equals it
abbrev pub is_strict : Order → Bool
is_strict order.Strict = true
is_strict order.Weak = false

-- the elements of a collection are in order
abbrev pub is_ordered : Comparer → Order → Slot → Bool
is_ordered c o s = rises is_defined (λ a b. may_precede (is_strict o) (compare_slots (lists_in c.lists) c.kind a b)) (slots_by c s)

-- a collection that is searched by halves is in weak order
abbrev pub IsSearchable : Comparer → Search → Slot → Type 0
IsSearchable c way s = way ≡ search.Binary → is_ordered c order.Weak s ≡ true

-- ---- elements of one collection in another

-- an element that is there, or is not, is as it is to be
abbrev pub admits : Quantifier → Bool → Bool
admits quantifier.All there = there
admits quantifier.None there = not there

-- an element is in a collection, or is not, as it is to be
abbrev pub is_held : Comparer → Quantifier → Slot → Slot → Bool
is_held c q source x = admits q (is_among (same_by c) (slots_by c source) x)

-- all elements of the second collection are in the first, or none is
abbrev pub are_held : Comparer → Quantifier → Slot → Slot → Bool
are_held c q source others = list_all (is_held c q source) (slots_by c others)

-- ---- Sets and Bags

-- each element counts once
abbrev pub ignores_repeats : Repeats → Bool
ignores_repeats repeats.Counted = false
ignores_repeats repeats.Ignored = true

-- two collections have the same elements, or as many of each
abbrev pub are_same : Comparer → Repeats → Slot → Slot → Bool
are_same c r left right = same_unordered (same_by c) (ignores_repeats r) (slots_by c left) (slots_by c right)
