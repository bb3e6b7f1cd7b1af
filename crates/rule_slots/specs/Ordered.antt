-- The order of slots, as elements of a kind that an instruction names, and lists in it.
use Rattle.std.specs.Prelude.{◌&&◌, Bool, true, not, List, [], ◌∷◌}
use Rattle.std.specs.declared.cmp.Ordering.{Ordering}
use Rattle.std.specs.declared.cmp.Ordering.TheVariants.{Less, Equal, Greater}
use Rattle.std.specs.Ordering.{is_lt, is_gt, int_cmp, nat_cmp}
use Rattle.std.specs.Cmp.Lexicographic.{slice_cmp}
use Rattle.rule_code.specs.declared.kind.WrittenScalar.{WrittenScalar}
use Rattle.rule_code.specs.declared.kind.WrittenScalar.TheVariants as written
use Rattle.rule_slots.specs.declared.slot.Mark.{Mark}
use Rattle.rule_slots.specs.declared.slot.Mark.TheVariants as mark
use Rattle.rule_slots.specs.declared.slot.Slot.{Slot}
use Rattle.rule_slots.specs.Slots.{Lists, invalid_mark}
use Rattle.rule_slots.specs.Compared.{slot_bytes}

-- two slots that have values, of one kind: numbers, texts by their bytes, literals and objects by their indices
abbrev pub compare_words : Lists → WrittenScalar → Slot → Slot → Ordering
compare_words l written.Void a b = int_cmp a.number b.number
compare_words l written.Boolean a b = int_cmp a.number b.number
compare_words l written.Integer a b = int_cmp a.number b.number
compare_words l written.String a b = slice_cmp nat_cmp (slot_bytes l a) (slot_bytes l b)
compare_words l (written.Enumeration s) a b = nat_cmp a.index b.index
compare_words l (written.Class s) a b = nat_cmp a.index b.index
compare_words l written.AnyObject a b = nat_cmp a.index b.index

-- null stands before what has a value, and that before invalid
abbrev pub compare_marked : Mark → Mark → Ordering → Ordering
compare_marked mark.Null mark.Null o = Equal
compare_marked mark.Null mark.Plain o = Less
compare_marked mark.Null mark.Invalid o = Less
compare_marked mark.Plain mark.Null o = Greater
compare_marked mark.Plain mark.Plain o = o
compare_marked mark.Plain mark.Invalid o = Less
compare_marked mark.Invalid mark.Null o = Greater
compare_marked mark.Invalid mark.Plain o = Greater
compare_marked mark.Invalid mark.Invalid o = Equal

-- two elements of one kind
abbrev pub compare_slots : Lists → WrittenScalar → Slot → Slot → Ordering
compare_slots l w a b = compare_marked a.mark b.mark (compare_words l w a b)

-- what may stand in a collection
abbrev pub is_defined : Slot → Bool
is_defined s = not (invalid_mark s.mark)

-- ---- lists in order

-- the first of a list passes a test beside an item, if there is one
abbrev pub begins_after : {A : Type 0} → (A → A → Bool) → A → List A → Bool
begins_after before x [] = true
begins_after before x (y ∷ ys) = before x y

-- each item passes one test, and another beside the one behind it
abbrev pub rises : {A : Type 0} → (A → Bool) → (A → A → Bool) → List A → Bool
rises valid before [] = true
rises valid before (x ∷ xs) = (valid x && begins_after before x xs) && rises valid before xs

-- one item may stand before another: strictly, where none may stand twice
abbrev pub may_precede : Bool → Ordering → Bool
may_precede true o = is_lt o
may_precede b o = not (is_gt o)
