-- Copies of collections behind the pool.
use Rattle.std.proofs.Common.{◌≡◌, ℕ, ◌+◌, ◌-◌, ◌≤◌, List, ◌++◌, length, take, drop, refl, sym, ap, ◌∙◌, subst, arith, append-nil, length-append}
use borrow.Rule.Slice.PartMut.{put_mid, post_of}
use Rattle.std.proofs.lemmas.List.{take_at, drop_at, drop_all, length-drop, length-take-le}
use Rattle.std.specs.List.Sorted.{IsPermutation}
use Rattle.std.specs.Prelude.{slice_range}
use Rattle.std.proofs.lemmas.Slice.{between-put_mid}
use Rattle.std.proofs.lemmas.List.Edits.{length-between}
use Rattle.std.proofs.lemmas.List.Sorted.{length_permutation}
use Rattle.rule_slots.specs.declared.slot.Home.TheVariants as home
use Rattle.rule_slots.specs.declared.slot.Slot.{Slot}
use Rattle.rule_slots.specs.Slots.{Lists, home_named, part_slots, held_slots, IsInHome}
use Rattle.rule_slots.specs.Sorted.{IsCopyOf, IsCopyIn, AreCopies}
use Rattle.rule_slots.proofs.Loops.{all_taken, taken_are}
use Rattle.rule_slots.proofs.Pool.{within_grown, held_same}

module _ (l : Lists) (old : List Slot) (source : Slot) (new : List Slot) (copy : Slot) (c : IsCopyOf l old source new copy) where
  -- the pool is the same below its old length
  as_it_was : take (length old) old ≡ take (length old) new
  as_it_was = all_taken old (length old) (omega arith) ∙ sym c.below

  -- and has the elements that it had
  pub still_held : (other : Slot) → IsInHome l (length old) other → held_slots l old other ≡ held_slots l new other
  still_held other w = held_same l old new (length old) (length new) c.grown as_it_was other w

-- two copies, one behind the other
module _ (l : Lists) (old : List Slot) (left : Slot) (mid : List Slot) (one : Slot) (a : IsCopyOf l old left mid one) (right : Slot) (new : List Slot) (other : Slot) (b : IsCopyOf l mid right new other) where
  pub first_moved : IsPermutation (held_slots l old left) (held_slots l new one)
  first_moved = subst (IsPermutation (held_slots l old left)) (still_held l mid right new other b one a.within) a.moved

  pub second_moved : IsInHome l (length old) right → IsPermutation (held_slots l old right) (held_slots l new other)
  second_moved w = subst (λ z. IsPermutation z (held_slots l new other)) (sym (still_held l old left mid one a right w)) b.moved

-- ---- a part that is sorted in its place

-- what the part is written back to: the same below, and the sorted slots there
module _ (p ys : List Slot) (at count : ℕ) (within : at + count ≤ length p) (long : length ys ≡ count) where
  put_long : length (put_mid at count p ys) ≡ length p
  put_long = omega (arith, length-append (take at p) (ys ++ post_of at count p), length-append ys (post_of at count p), length-take-le at p (omega (arith, within)), length-drop count (drop at p), length-drop at p)

  pub written_back : (n : ℕ) (rest : List Slot) → n ≡ length p → take n (put_mid at count p ys ++ rest) ≡ put_mid at count p ys
  written_back n rest e = take_at (put_mid at count p ys) rest n (put_long ∙ sym e)

-- the rest of a list, sorted
pub put_behind : (old held ys : List Slot) → length ys ≡ length held → (at count : ℕ) → at ≡ length old → count ≡ length held → put_mid at count (old ++ held) ys ≡ old ++ ys
put_behind old held ys e at count a n =
    ap (λ z. z ++ (ys ++ post_of at count (old ++ held))) (take_at old held at (sym a)) ∙ ap (λ z. old ++ (ys ++ drop count z)) (drop_at old held at (sym a)) ∙ ap (λ z. old ++ (ys ++ z)) (drop_all count held (omega (arith, n))) ∙ ap (λ z. old ++ z) (append-nil ys)

pub behind_sorted : (old held ys d rest : List Slot) (at n : ℕ) → d ≡ old ++ held → at ≡ length old → n ≡ length (old ++ held) → length ys ≡ length held → take n (put_mid at (length d - at) d ys ++ rest) ≡ old ++ ys
behind_sorted old held ys d rest at n e a m k =
    let count : length (old ++ held) - at ≡ length held = omega (arith, a, length-append old held) in
    ap (λ z. take n (put_mid at (length z - at) z ys ++ rest)) e ∙ ap (λ c. take n (put_mid at c (old ++ held) ys ++ rest)) count
    ∙ written_back (old ++ held) ys at (length held) (omega (arith, a, length-append old held)) k n rest m ∙ put_behind old held ys k at (length held) a refl

-- elements in another order behind the pool are a copy
pub copy_made : (l : Lists) (old ys new : List Slot) (source s : Slot) → new ≡ old ++ ys → IsPermutation (held_slots l old source) ys → s.list ≡ 2 → s.start ≡ length old → s.count ≡ length ys → IsCopyOf l old source new s
copy_made l old ys new source s e m el es ec =
    let long : length new ≡ length old + length ys = ap length e ∙ length-append old ys in
    record {
      grown = omega (arith, long);
      below = ap (take (length old)) e ∙ take_at old ys (length old) refl;
      within = rw el (omega (arith, long, es, ec));
      moved = subst (IsPermutation (held_slots l old source)) (sym (ap (λ z. held_slots l z s) e ∙ taken_are l old ys s el es ec)) m;
    }

-- a part of the pool that is sorted in its place has its elements in another order
pub part_moved : (l : Lists) (old ys d rest : List Slot) (s : Slot) (n : ℕ) → home_named s.list ≡ home.Pool → s.start + s.count ≤ length old → d ≡ old → n ≡ length old → IsPermutation (take (s.start + s.count - s.start) (drop s.start d)) ys
    → IsPermutation (held_slots l old s) (held_slots l (take n (put_mid s.start (s.start + s.count - s.start) d ys ++ rest)) s)
part_moved l old ys d rest s n pool within e m h =
    let k = s.start + s.count - s.start in
    let held = λ (p : List Slot). ap (λ x. part_slots x l p s.start s.count) pool in
    let count : k ≡ s.count = omega arith in
    let part : take k (drop s.start d) ≡ slice_range old s.start (s.start + s.count) = ap (λ z. take k (drop s.start z)) e in
    let moved : IsPermutation (slice_range old s.start (s.start + s.count)) ys = subst (λ z. IsPermutation z ys) part h in
    let long : length ys ≡ k = length_permutation (slice_range old s.start (s.start + s.count)) ys moved ∙ length-between old s.start (s.start + s.count) within in
    let back = ap (λ z. take n (put_mid s.start k z ys ++ rest)) e ∙ written_back old ys s.start k (omega (arith, count, within)) long n rest m in
    let now = ap (λ p. slice_range p s.start (s.start + s.count)) back ∙ between-put_mid s.start k old ys (s.start + s.count) (omega (arith, within)) long in
    subst (λ z. IsPermutation z (held_slots l (take n (put_mid s.start k d ys ++ rest)) s)) (sym (held old)) (subst (IsPermutation (slice_range old s.start (s.start + s.count))) (sym (held (take n (put_mid s.start k d ys ++ rest)) ∙ now)) moved)

-- ---- copies in room of their own

-- the elements of a collection that were put behind a room's items, and then sorted there, are its copy
pub copy_put : (l : Lists) (pool old mid new : List Slot) (source s : Slot) → mid ≡ old ++ held_slots l pool source → s.list ≡ 2 → s.start ≡ length old → s.count ≡ length (held_slots l pool source) → take s.start new ≡ take s.start mid → length new ≡ length mid → IsPermutation (held_slots l mid s) (held_slots l new s)
    → IsCopyIn l pool source old new s
copy_put l pool old mid new source s e el es ec below long moved =
    let held = held_slots l pool source in
    let count : length mid ≡ length old + length held = ap length e ∙ length-append old held in
    record {
      grown = omega (arith, count, long);
      below = ap (λ n. take n new) (sym es) ∙ below ∙ ap (λ n. take n mid) es ∙ ap (take (length old)) e ∙ take_at old held (length old) refl;
      within = rw el (omega (arith, count, long, es, ec));
      moved = subst (λ z. IsPermutation z (held_slots l new s)) (ap (λ z. held_slots l z s) e ∙ taken_are l old held s el es ec) moved;
    }

-- a copy stays one where a second is put behind it
pub both_copied : (l : Lists) (pool : List Slot) (left right : Slot) (old mid new : List Slot) (one other : Slot) → IsCopyIn l pool left old mid one → IsCopyIn l pool right mid new other → AreCopies l pool left right new one other
both_copied l pool left right old mid new one other a b =
    let same : take (length mid) mid ≡ take (length mid) new = all_taken mid (length mid) (omega arith) ∙ sym b.below in
    record {
      one_within = within_grown l mid new (length mid) (length new) b.grown same one a.within;
      other_within = b.within;
      one_moved = subst (IsPermutation (held_slots l pool left)) (held_same l mid new (length mid) (length new) b.grown same one a.within) a.moved;
      other_moved = b.moved;
    }
