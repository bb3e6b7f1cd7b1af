-- How slots are compared: as elements of a kind that an instruction names.
use Rattle.std.specs.Prelude.{◌≡◌, ℕ, zero, suc, ◌+◌, ◌-◌, ◌≤◌, ◌==◌, ◌&&◌, ◌++◌, drop, Bool, true, false, List, [], ◌∷◌, Option, Some, length, nat_le, slice_get, slice_range, slice_index_or, bytes_eq, encode_utf8_all, if◌then◌else◌}
use Rattle.std.specs.List.{list_all}
use Rattle.std.specs.Ordering.{int_eq}
use Rattle.ocl_base.specs.Lists.{is_among}
use Rattle.ocl_base.specs.declared.collection_kind.CollectionKind.{CollectionKind}
use Rattle.ocl_base.specs.declared.collection_kind.CollectionKind.TheVariants as collection
use Rattle.imkl_population.specs.declared.scalar.Scalar.{Scalar}
use Rattle.imkl_population.specs.declared.scalar.Scalar.TheVariants as scalar
use Rattle.ocl_kinds.specs.declared.kind.ScalarKind.{ScalarKind}
use Rattle.ocl_kinds.specs.declared.kind.ScalarKind.TheVariants as element
use Rattle.ocl_kinds.specs.declared.kind.Kind.{Kind}
use Rattle.ocl_kinds.specs.declared.kind.Kind.TheVariants as kind
use Rattle.ocl_kinds.specs.Kinds.{is_same_collection}
use Rattle.rule_code.specs.declared.kind.WrittenScalar.{WrittenScalar}
use Rattle.rule_code.specs.declared.kind.WrittenScalar.TheVariants as written
use Rattle.rule_code.specs.declared.kind.WrittenKind.{WrittenKind}
use Rattle.rule_code.specs.declared.kind.WrittenKind.TheVariants as kinds
use Rattle.rule_slots.specs.declared.slot.Mark.{Mark}
use Rattle.rule_slots.specs.declared.slot.Mark.TheVariants as mark
use Rattle.rule_slots.specs.declared.slot.Slot.{Slot}
use Rattle.rule_slots.specs.Slots.{Lists, plain_mark, held_slots, LiesInHome}

-- ---- kinds

-- elements of a kind are compared as a kind of the file says; there are none of Void
abbrev pub covers : WrittenScalar → ScalarKind → Bool
covers w element.Void = true
covers written.Boolean element.Boolean = true
covers written.Integer element.Integer = true
covers written.String element.String = true
covers (written.Enumeration s) (element.Enumeration e) = true
covers (written.Class s) (element.Class c) = true
covers written.AnyObject element.AnyObject = true
covers w k = false

-- and so are collections, with their elements
abbrev pub covers_kind : WrittenKind → Kind → Bool
covers_kind (kinds.Scalar w) (kind.Scalar k) = covers w k
covers_kind (kinds.Collection c w) (kind.Collection d k) = is_same_collection c d && covers w k
covers_kind w k = false

-- ---- texts

-- the bytes of a value, if it is a text
abbrev pub text_bytes : Option Scalar → List ℕ
text_bytes (Some (scalar.Text t)) = encode_utf8_all t
text_bytes v = []

-- the bytes of the text at an index: of a value of the population, or of a text of the unit
abbrev pub bytes_at : Bool → Lists → ℕ → List ℕ
bytes_at true l i = text_bytes (slice_get l.scalars i)
bytes_at false l i = slice_index_or l.texts i []

-- the bytes of a range, none where it doesn't lie within them
abbrev pub bytes_within : List ℕ → ℕ → ℕ → List ℕ
bytes_within bs start count = if nat_le (start + count) (length bs) then slice_range bs start (start + count) else []

-- the bytes of the text that a slot stands for
abbrev pub slot_bytes : Lists → Slot → List ℕ
slot_bytes l s = bytes_within (bytes_at (s.list == 0) l s.index) s.start s.count

-- ---- slots

-- two slots that have values, of one kind
abbrev pub same_words : Lists → WrittenScalar → Slot → Slot → Bool
same_words l written.Void a b = int_eq a.number b.number
same_words l written.Boolean a b = int_eq a.number b.number
same_words l written.Integer a b = int_eq a.number b.number
same_words l written.String a b = bytes_eq (slot_bytes l a) (slot_bytes l b)
same_words l (written.Enumeration s) a b = a.index == b.index
same_words l (written.Class s) a b = a.index == b.index
same_words l written.AnyObject a b = a.index == b.index

-- by their marks: two nulls are the same, and two that have values where these are
abbrev pub same_marked : Mark → Mark → Bool → Bool
same_marked mark.Null mark.Null same = true
same_marked mark.Plain mark.Plain same = same
same_marked m n same = false

-- two elements of one kind
abbrev pub same_slots : Lists → WrittenScalar → Slot → Slot → Bool
same_slots l w a b = same_marked a.mark b.mark (same_words l w a b)

-- ---- lists of slots, by a test of equality

-- how often an element stands in a list
abbrev pub times_among : {A : Type 0} → (A → A → Bool) → List A → A → ℕ
times_among same [] x = zero
times_among same (y ∷ ys) x = if same y x then suc (times_among same ys x) else times_among same ys x

-- each element of the first stands as often in the second
abbrev pub stand_as_often : {A : Type 0} → (A → A → Bool) → List A → List A → Bool
stand_as_often same xs ys = list_all (λ x. times_among same xs x == times_among same ys x) xs

-- one by one
abbrev pub pairwise_same : {A : Type 0} → (A → A → Bool) → List A → List A → Bool
pairwise_same same [] [] = true
pairwise_same same (x ∷ xs) (y ∷ ys) = same x y && pairwise_same same xs ys
pairwise_same same xs ys = false

-- Sets by members, Bags by counts, the ordered ones by list
abbrev pub same_collections : {A : Type 0} → (A → A → Bool) → CollectionKind → List A → List A → Bool
same_collections same collection.Set xs ys = list_all (is_among same ys) xs && list_all (is_among same xs) ys
same_collections same collection.OrderedSet xs ys = pairwise_same same xs ys
same_collections same collection.Bag xs ys = stand_as_often same xs ys && stand_as_often same ys xs
same_collections same collection.Sequence xs ys = pairwise_same same xs ys

-- Sets, of which each element stands once, or Bags
abbrev pub same_unordered : {A : Type 0} → (A → A → Bool) → Bool → List A → List A → Bool
same_unordered same true xs ys = same_collections same collection.Set xs ys
same_unordered same unique xs ys = same_collections same collection.Bag xs ys

-- each element once, where it first stands, that is not among those before
abbrev pub first_ones : {A : Type 0} → (A → A → Bool) → List A → List A → List A
first_ones same before [] = []
first_ones same before (x ∷ xs) = if is_among same before x then first_ones same before xs else x ∷ first_ones same (before ++ x ∷ []) xs

-- Going through a list up to an index, each element that wasn't there yet was put behind what stood before: these were
-- taken, and there is room for all that are left.
pub record Taking {A : Type 0} (same : A → A → Bool) (all old new : List A) (opened index count room_for : ℕ) : Type 0 where
  pub taken : List A
  pub put : new ≡ old ++ taken
  pub first : taken ++ first_ones same taken (drop index all) ≡ first_ones same [] all
  pub opened_at : opened ≡ length old
  pub room : length new + (count - index) ≤ room_for

-- ---- values

-- two values of one kind, of which none is invalid
abbrev pub same_values : Lists → List Slot → WrittenKind → Slot → Slot → Bool
same_values l pool (kinds.Scalar w) a b = same_slots l w a b
same_values l pool (kinds.Collection c w) a b =
    (plain_mark a.mark && plain_mark b.mark) && same_collections (same_slots l w) c (held_slots l pool a) (held_slots l pool b)

-- a collection that is compared lies in its list
abbrev pub ComparesWithin : Lists → ℕ → WrittenKind → Slot → Type 0
ComparesWithin l hi (kinds.Scalar w) s = Unit {0}
ComparesWithin l hi (kinds.Collection c w) s = LiesInHome l hi s
