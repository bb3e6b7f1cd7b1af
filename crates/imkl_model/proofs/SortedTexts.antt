-- Texts in order, searched for a name.
use Rattle.std.proofs.Common.{◌≡◌, ◌∙◌, ◌<◌, ◌≤◌, ◌+◌, ℕ, zero, suc, Bool, true, false, eqb, List, [], ◌∷◌, length, map, get_or, Some, None, String, string_bytes, string_cmp, bytes_eq, Ordering, Less, Equal, Greater, is_lt, is_eq, nat_cmp, Global, IsSorted, sym, refl, ap, arith, inl, inr, lt-ltb, le-ltb}
use Rattle.std.proofs.lemmas.Bool.{false≢true, ne_eqb, cases_Bool}
use Rattle.std.specs.List.{position_or_len}
use Rattle.std.specs.List.Sorted.{IsPartitionedBy, IsPartitionPoint, IsNonDecreasingBy}
use Rattle.std.specs.Ordering.{ordering_index}
use Rattle.std.specs.Cmp.Lexicographic.{slice_cmp, nat_list_cmp_total, nat_list_eq_equiv, texts_ties}
use Rattle.std.proofs.lemmas.Bool.Decides.{leb_tells}
use Rattle.std.proofs.lemmas.List.{get_or_default}
use Rattle.std.proofs.lemmas.List.Sorted.{searchable_from_sorted}
use Rattle.std.proofs.lemmas.List.Sums.{position_or_len_is}
use Rattle.imkl_model.specs.Ranks.{rank_in, is_before}
use Rattle.imkl_model.proofs.Positions.{position-map}

-- where a text stands beside a name: 0 before it, 1 with it, 2 after it
abbrev side : List ℕ → String Global → ℕ
side name text = ordering_index (slice_cmp nat_cmp (string_bytes text) name)

abbrev is_name : List ℕ → String Global → Bool
is_name name text = bytes_eq name (string_bytes text)

before_index : (o : Ordering) → is_lt o ≡ true → ordering_index o ≡ 0
before_index Less e = refl
before_index Equal e = absurd (false≢true e)
before_index Greater e = absurd (false≢true e)

index_before : (o : Ordering) → ordering_index o ≡ 0 → is_lt o ≡ true
index_before Less e = refl
index_before Equal e = absurd (omega (arith, e))
index_before Greater e = absurd (omega (arith, e))

index_with : (o : Ordering) → is_eq o ≡ eqb (ordering_index o) 1
index_with Less = refl
index_with Equal = refl
index_with Greater = refl

not_before : (o : Ordering) → is_lt o ≡ false → 0 < ordering_index o
not_before Less e = absurd (false≢true (sym e))
not_before Equal e = omega arith
not_before Greater e = omega arith

not_with : (n : ℕ) → eqb n 1 ≡ false → 0 < n → 2 ≤ n
not_with zero e lt = absurd (omega (arith, lt))
not_with (suc zero) e lt = absurd (false≢true (sym e))
not_with (suc (suc n)) e lt = omega arith

with_two : (n : ℕ) → 2 ≤ n → eqb n 1 ≡ false
with_two n le = ne_eqb n 1 (λ e. absurd (omega (arith, e, le)))

is_with : (name : List ℕ) (text : String Global) → is_name name text ≡ eqb (side name text) 1
is_with name text =
    nat_list_eq_equiv.symm name (string_bytes text) ∙ texts_ties (string_bytes text) name ∙ index_with (slice_cmp nat_cmp (string_bytes text) name)

before_apart : (o : Ordering) → is_lt o ≡ true → eqb (ordering_index o) 1 ≡ false
before_apart Less e = refl
before_apart Equal e = absurd (false≢true e)
before_apart Greater e = absurd (false≢true e)

-- the name's place is from low to high
pub record IsNarrowed (texts : List (String Global)) (name : List ℕ) (low high : ℕ) : Type 0 where
  pub ordered : low ≤ high
  pub within : high ≤ length texts
  pub before : (k : ℕ) (d : String Global) → k < low → is_before name (get_or texts k d) ≡ true
  pub after : (k : ℕ) (d : String Global) → high ≤ k → k < length texts → is_before name (get_or texts k d) ≡ false

module _ (texts : List (String Global)) (name : List ℕ) (up : IsSorted string_cmp texts) where
  rises : IsNonDecreasingBy (side name) texts
  rises = searchable_from_sorted nat_list_cmp_total string_bytes texts name up

  -- the texts before the name stand first
  pub before_first : IsPartitionedBy (is_before name) texts
  before_first i j d le lt before =
      let here = before_index (slice_cmp nat_cmp (string_bytes (get_or texts j d)) name) before in
      let less = rises i j d le lt in
      index_before (slice_cmp nat_cmp (string_bytes (get_or texts i d)) name) (omega (arith, here, less))

  pub raised : (low high middle : ℕ) (x : String Global) → IsNarrowed texts name low high → middle < high → x ≡ get_or texts middle x → is_before name x ≡ true → IsNarrowed texts name (middle + 1) high
  raised low high middle x h lt is here =
      record {
        ordered = omega (arith, lt);
        within = h.within;
        before = λ k d less. before_first k middle d (omega (arith, less)) (omega (arith, lt, h.within)) (ap (is_before name) (get_or_default texts middle d x (omega (arith, lt, h.within)) ∙ sym is) ∙ here);
        after = h.after;
      }

  pub lowered : (low high middle : ℕ) (x : String Global) → IsNarrowed texts name low high → low ≤ middle → middle < high → x ≡ get_or texts middle x → is_before name x ≡ false → IsNarrowed texts name low middle
  lowered low high middle x h le lt is here =
      record {
        ordered = le;
        within = omega (arith, lt, h.within);
        before = h.before;
        after = λ k d from less. elim (cases_Bool (is_before name (get_or texts k d))) [
          | inl there ↦ absurd (false≢true (sym here ∙ ap (is_before name) (is ∙ get_or_default texts middle x d (omega (arith, lt, h.within))) ∙ before_first middle k d from less there))
          | inr not_there ↦ not_there
        ];
      }

  pub narrowed_to : (low high : ℕ) → IsNarrowed texts name low high → high ≤ low → IsPartitionPoint (λ y. is_before name y ≡ true) (λ y. is_before name y ≡ false) texts low
  narrowed_to low high h le = (λ k d from less. h.before k d less, λ k d from less. h.after k d (omega (arith, le, from)) less)

  module _ (i : ℕ) (point : IsPartitionPoint (λ y. is_before name y ≡ true) (λ y. is_before name y ≡ false) texts i) (within : i ≤ length texts) where
    none_before : (d : String Global) (k : ℕ) → k < i → is_name name (get_or texts k d) ≡ false
    none_before d k lt = is_with name (get_or texts k d) ∙ before_apart (slice_cmp nat_cmp (string_bytes (get_or texts k d)) name) (point.0 k d (omega arith) lt)

    -- the name stands at the first text that isn't before it
    pub stands_there : (text : String Global) → i < length texts → text ≡ get_or texts i text → is_name name text ≡ true → rank_in (map string_bytes texts) name ≡ Some i
    stands_there text lt is same =
        let first : position_or_len (is_name name) texts ≡ i = position_or_len_is (is_name name) texts i text within (none_before text) (λ _. ap (is_name name) (sym is) ∙ same) in
        position-map (bytes_eq name) string_bytes texts ∙ rw (first, lt-ltb i (length texts) lt) refl

    none_after : (d : String Global) → (i < length texts → is_name name (get_or texts i d) ≡ false) → (k : ℕ) → k < length texts → is_name name (get_or texts k d) ≡ false
    none_after d apart k lt =
        elim (leb_tells i k) [
          | inl le ↦
              let here = not_before (slice_cmp nat_cmp (string_bytes (get_or texts i d)) name) (point.1 i d (omega arith) (omega (arith, le.1, lt))) in
              let past = not_with (side name (get_or texts i d)) (sym (is_with name (get_or texts i d)) ∙ apart (omega (arith, le.1, lt))) here in
              let less = rises i k d le.1 lt in
              is_with name (get_or texts k d) ∙ with_two (side name (get_or texts k d)) (omega (arith, past, less))
          | inr less ↦ none_before d k less.1
        ]

    absent : (d : String Global) → (i < length texts → is_name name (get_or texts i d) ≡ false) → rank_in (map string_bytes texts) name ≡ None
    absent d apart =
        let n = length texts in
        let last : position_or_len (is_name name) texts ≡ n = position_or_len_is (is_name name) texts n d (omega arith) (none_after d apart) (λ lt. absurd (omega (arith, lt))) in
        position-map (bytes_eq name) string_bytes texts ∙ rw (last, le-ltb n n (omega arith)) refl

  -- else it stands nowhere
  pub stands_nowhere : (i : ℕ) → IsPartitionPoint (λ y. is_before name y ≡ true) (λ y. is_before name y ≡ false) texts i → i ≤ length texts → ((d : String Global) → i < length texts → is_name name (get_or texts i d) ≡ false) → rank_in (map string_bytes texts) name ≡ None
  stands_nowhere i point within apart = by texts refl
    where
      by : (ts : List (String Global)) → texts ≡ ts → rank_in (map string_bytes texts) name ≡ None
      by [] e = rw e refl
      by (t ∷ ts) e = absent i point within t (apart t)
