-- Slots stand in a total order, and two that may stand in a collection are the same where it doesn't tell them apart.
use Rattle.std.proofs.Common.{◌≡◌, ◌∙◌, Bool, true, false, List, [], Ordering, Less, Equal, is_eq, refl, sym}
use Rattle.std.specs.Prelude.{◌&&◌, not}
use Rattle.std.specs.Ordering.{ordering_reverse}
use Rattle.std.specs.List.Sorted.{IsPermutation}
use Rattle.std.proofs.lemmas.Bool.{and_from}
use Rattle.std.specs.Cmp.{IsTotalOrder, on_total, nat_cmp_total, int_cmp_total, unsigned_ties}
use Rattle.std.specs.Cmp.Lexicographic.{nat_list_cmp_total, texts_ties}
use Rattle.rule_code.specs.declared.kind.WrittenScalar.{WrittenScalar}
use Rattle.rule_code.specs.declared.kind.WrittenScalar.TheVariants as written
use Rattle.rule_slots.specs.declared.slot.Mark.{Mark}
use Rattle.rule_slots.specs.declared.slot.Mark.TheVariants as mark
use Rattle.rule_slots.specs.declared.slot.Slot.{Slot}
use Rattle.rule_slots.specs.Slots.{Lists, invalid_mark}
use Rattle.ocl_base.specs.Lists.{repeats}
use Rattle.rule_slots.specs.Compared.{slot_bytes, same_marked, same_words, same_slots, pairwise_same, first_ones, same_unordered}
use Rattle.rule_slots.specs.Ordered.{compare_words, compare_marked, compare_slots, is_defined, may_precede, rises}
use Rattle.rule_slots.proofs.InOrder.{IsRising, same_back, same_alike, none_twice, some_twice, first_are_all, pairs_among, pairs_often, sets_differ, bags_differ}
use Rattle.rule_slots.proofs.Moved.{repeats_moved}

-- ---- words

words_total : (l : Lists) (w : WrittenScalar) → IsTotalOrder (compare_words l w)
words_total l written.Void = on_total (λ (s : Slot). s.number) int_cmp_total
words_total l written.Boolean = on_total (λ (s : Slot). s.number) int_cmp_total
words_total l written.Integer = on_total (λ (s : Slot). s.number) int_cmp_total
words_total l written.String = on_total (slot_bytes l) nat_list_cmp_total
words_total l (written.Enumeration e) = on_total (λ (s : Slot). s.index) nat_cmp_total
words_total l (written.Class c) = on_total (λ (s : Slot). s.index) nat_cmp_total
words_total l written.AnyObject = on_total (λ (s : Slot). s.index) nat_cmp_total

words_tie : (l : Lists) (w : WrittenScalar) (a b : Slot) → same_words l w a b ≡ is_eq (compare_words l w a b)
words_tie l written.Void a b = refl
words_tie l written.Boolean a b = refl
words_tie l written.Integer a b = refl
words_tie l written.String a b = texts_ties (slot_bytes l a) (slot_bytes l b)
words_tie l (written.Enumeration e) a b = unsigned_ties a.index b.index
words_tie l (written.Class c) a b = unsigned_ties a.index b.index
words_tie l written.AnyObject a b = unsigned_ties a.index b.index

-- ---- marks

marks_turn : (m n : Mark) (r s : Ordering) → r ≡ ordering_reverse s → compare_marked m n r ≡ ordering_reverse (compare_marked n m s)
marks_turn mark.Plain mark.Plain r s e = e
marks_turn mark.Null mark.Null r s e = refl
marks_turn mark.Null mark.Plain r s e = refl
marks_turn mark.Null mark.Invalid r s e = refl
marks_turn mark.Plain mark.Null r s e = refl
marks_turn mark.Plain mark.Invalid r s e = refl
marks_turn mark.Invalid mark.Null r s e = refl
marks_turn mark.Invalid mark.Plain r s e = refl
marks_turn mark.Invalid mark.Invalid r s e = refl

marks_chain : (m n o : Mark) (r s t : Ordering) → (r ≡ Less → s ≡ Less → t ≡ Less) → compare_marked m n r ≡ Less → compare_marked n o s ≡ Less → compare_marked m o t ≡ Less
marks_chain mark.Plain mark.Plain mark.Plain r s t f e g = f e g
marks_chain mark.Null n mark.Plain r s t f e g = refl
marks_chain mark.Null n mark.Invalid r s t f e g = refl
marks_chain mark.Plain n mark.Invalid r s t f e g = refl
marks_chain mark.Null mark.Null mark.Null r s t f e g = cc
marks_chain mark.Null mark.Plain mark.Null r s t f e g = cc
marks_chain mark.Null mark.Invalid mark.Null r s t f e g = cc
marks_chain mark.Plain mark.Null o r s t f e g = cc
marks_chain mark.Plain mark.Plain mark.Null r s t f e g = cc
marks_chain mark.Plain mark.Invalid mark.Null r s t f e g = cc
marks_chain mark.Plain mark.Invalid mark.Plain r s t f e g = cc
marks_chain mark.Invalid mark.Null o r s t f e g = cc
marks_chain mark.Invalid mark.Plain o r s t f e g = cc
marks_chain mark.Invalid mark.Invalid o r s t f e g = cc

marks_alike : (m n o : Mark) (r s t : Ordering) → (r ≡ Equal → s ≡ t) → compare_marked m n r ≡ Equal → compare_marked m o s ≡ compare_marked n o t
marks_alike mark.Plain mark.Plain mark.Plain r s t f e = f e
marks_alike mark.Plain mark.Plain mark.Null r s t f e = refl
marks_alike mark.Plain mark.Plain mark.Invalid r s t f e = refl
marks_alike mark.Null mark.Null mark.Null r s t f e = refl
marks_alike mark.Null mark.Null mark.Plain r s t f e = refl
marks_alike mark.Null mark.Null mark.Invalid r s t f e = refl
marks_alike mark.Invalid mark.Invalid mark.Null r s t f e = refl
marks_alike mark.Invalid mark.Invalid mark.Plain r s t f e = refl
marks_alike mark.Invalid mark.Invalid mark.Invalid r s t f e = refl
marks_alike mark.Null mark.Plain o r s t f e = cc
marks_alike mark.Null mark.Invalid o r s t f e = cc
marks_alike mark.Plain mark.Null o r s t f e = cc
marks_alike mark.Plain mark.Invalid o r s t f e = cc
marks_alike mark.Invalid mark.Null o r s t f e = cc
marks_alike mark.Invalid mark.Plain o r s t f e = cc

marks_tie : (m n : Mark) (same : Bool) (r : Ordering) → same ≡ is_eq r → same_marked m n same ≡ (is_eq (compare_marked m n r) && not (invalid_mark m))
marks_tie mark.Plain mark.Plain same r e = e ∙ plain_and (is_eq r)
  where
    plain_and : (b : Bool) → b ≡ (b && true)
    plain_and true = refl
    plain_and false = refl
marks_tie mark.Null mark.Null same r e = refl
marks_tie mark.Null mark.Plain same r e = refl
marks_tie mark.Null mark.Invalid same r e = refl
marks_tie mark.Plain mark.Null same r e = refl
marks_tie mark.Plain mark.Invalid same r e = refl
marks_tie mark.Invalid mark.Null same r e = refl
marks_tie mark.Invalid mark.Plain same r e = refl
marks_tie mark.Invalid mark.Invalid same r e = refl

marks_like : (m n : Mark) (r : Ordering) → compare_marked m n r ≡ Equal → not (invalid_mark m) ≡ not (invalid_mark n)
marks_like mark.Null mark.Null r e = refl
marks_like mark.Plain mark.Plain r e = refl
marks_like mark.Invalid mark.Invalid r e = refl
marks_like mark.Null mark.Plain r e = refl
marks_like mark.Plain mark.Null r e = refl
marks_like mark.Null mark.Invalid r e = cc
marks_like mark.Plain mark.Invalid r e = cc
marks_like mark.Invalid mark.Null r e = cc
marks_like mark.Invalid mark.Plain r e = cc

-- ---- slots

module _ (l : Lists) (w : WrittenScalar) where
  -- they stand in a total order
  pub slots_total : IsTotalOrder (compare_slots l w)
  slots_total =
      let o = words_total l w in
      record {
        antisymm = λ a b. marks_turn a.mark b.mark (compare_words l w a b) (compare_words l w b a) (o.antisymm a b);
        trans = λ a b c. marks_chain a.mark b.mark c.mark (compare_words l w a b) (compare_words l w b c) (compare_words l w a c) (o.trans a b c);
        congr = λ a b c. marks_alike a.mark b.mark c.mark (compare_words l w a b) (compare_words l w a c) (compare_words l w b c) (o.congr a b c);
      }

  -- two are the same where it doesn't tell them apart, and they may stand in a collection
  pub slots_tie : (a b : Slot) → same_slots l w a b ≡ (is_eq (compare_slots l w a b) && is_defined a)
  slots_tie a b = marks_tie a.mark b.mark (same_words l w a b) (compare_words l w a b) (words_tie l w a b)

  -- both may, or neither
  pub slots_like : (a b : Slot) → compare_slots l w a b ≡ Equal → is_defined a ≡ is_defined b
  slots_like a b = marks_like a.mark b.mark (compare_words l w a b)

  -- ---- lists of slots

  -- none stands twice in a list that rises strictly
  pub distinct_in_order : (xs : List Slot) → IsRising (compare_slots l w) is_defined true xs → repeats (same_slots l w) xs ≡ false
  distinct_in_order xs up = none_twice (compare_slots l w) slots_total (same_slots l w) is_defined slots_tie slots_like xs up

  -- one does in a list that rises, but not strictly
  pub twice_in_order : (xs : List Slot) → IsRising (compare_slots l w) is_defined false xs → rises is_defined (λ a b. may_precede true (compare_slots l w a b)) xs ≡ false → repeats (same_slots l w) xs ≡ true
  twice_in_order xs up n = some_twice (compare_slots l w) slots_total (same_slots l w) is_defined slots_tie slots_like xs up n

  -- the Set of a list in which none stands twice is the list
  pub set_of_all : (xs : List Slot) → repeats (same_slots l w) xs ≡ false → first_ones (same_slots l w) [] xs ≡ xs
  set_of_all xs e = first_are_all (compare_slots l w) slots_total (same_slots l w) is_defined slots_tie slots_like xs e

  -- slots are the same both ways
  pub same_both_ways : (a b : Slot) → same_slots l w a b ≡ same_slots l w b a
  same_both_ways a b = by (same_slots l w a b) refl (same_slots l w b a) refl
    where
      by : (x : Bool) → same_slots l w a b ≡ x → (y : Bool) → same_slots l w b a ≡ y → same_slots l w a b ≡ same_slots l w b a
      by true e true f = e ∙ sym f
      by false e false f = e ∙ sym f
      by true e false f = e ∙ sym (same_back (compare_slots l w) slots_total (same_slots l w) is_defined slots_tie slots_like a b e)
      by false e true f = same_back (compare_slots l w) slots_total (same_slots l w) is_defined slots_tie slots_like b a f ∙ sym f

  pub same_as_same : (a b c : Slot) → same_slots l w a b ≡ true → same_slots l w a c ≡ same_slots l w b c
  same_as_same a b c e = same_alike (compare_slots l w) slots_total (same_slots l w) is_defined slots_tie slots_like a b c e

  -- one stands twice in a list wherever it does in another order of it
  pub repeats_slots_moved : (xs ys : List Slot) → IsPermutation xs ys → repeats (same_slots l w) xs ≡ repeats (same_slots l w) ys
  repeats_slots_moved xs ys m = repeats_moved (same_slots l w) same_both_ways xs ys m

  -- Sets and Bags whose lists are the same one by one
  pub same_listed : (unique : Bool) (xs ys : List Slot) → pairwise_same (same_slots l w) xs ys ≡ true → same_unordered (same_slots l w) unique xs ys ≡ true
  same_listed true xs ys e =
      let both = pairs_among (compare_slots l w) slots_total (same_slots l w) is_defined slots_tie slots_like xs ys e in
      and_from _ _ both.0 both.1
  same_listed false xs ys e =
      let both = pairs_often (compare_slots l w) slots_total (same_slots l w) is_defined slots_tie slots_like xs ys e in
      and_from _ _ both.0 both.1

  -- and those whose lists stand in order, and differ
  pub other_in_order : (unique : Bool) (xs ys : List Slot) → IsRising (compare_slots l w) is_defined unique xs → IsRising (compare_slots l w) is_defined unique ys → pairwise_same (same_slots l w) xs ys ≡ false → same_unordered (same_slots l w) unique xs ys ≡ false
  other_in_order true xs ys h g e = sets_differ (compare_slots l w) slots_total (same_slots l w) is_defined slots_tie slots_like xs ys h g e
  other_in_order false xs ys h g e = bags_differ (compare_slots l w) slots_total (same_slots l w) is_defined slots_tie slots_like xs ys h g e
