-- Loops over the elements of a collection: one element more, and the end.
use Rattle.std.proofs.Common.{◌≡◌, ℕ, zero, suc, ◌+◌, ◌-◌, ◌≤◌, Bool, true, false, List, [], ◌∷◌, ◌++◌, length, take, drop, Option, Some, None, refl, sym, ap, ◌∙◌, arith, append_assoc, append-nil}
use Rattle.std.proofs.Math.IntN.{+ℤ_assoc, +ℤ_idr}
use Rattle.std.specs.Prelude.{ℤ, pos, ◌+ℤ◌, ◌&&◌, ◌||◌, slice_get, if◌then◌else◌}
use Rattle.std.specs.List.{list_all, list_any}
use Rattle.std.specs.Option.{option_map}
use Rattle.std.proofs.lemmas.List.{drop_all, drop_at}
use Rattle.ocl_base.specs.Lists.{is_among, repeats}
use Rattle.rule_slots.specs.declared.slot.Slot.{Slot}
use Rattle.rule_slots.specs.declared.comparer.Comparer.{Comparer}
use Rattle.rule_slots.specs.Slots.{Lists, lists_in, plain_mark, held_slots, home_named, IsInHome}
use Rattle.rule_slots.specs.Compared.{times_among, pairwise_same, first_ones}
use Rattle.rule_slots.specs.Ordered.{begins_after, rises}
use Rattle.rule_slots.specs.Comparer.{slots_by, IsHeldBy}
use Rattle.rule_slots.specs.Summed.{sum_of_slots}
use Rattle.rule_slots.proofs.Parts.{part_long}

-- a collection has as many slots as its slot counts
pub held_long : (l : Lists) (pool : List Slot) (s : Slot) → IsInHome l (length pool) s → length (held_slots l pool s) ≡ s.count
held_long l pool s w = part_long (home_named s.list) l pool (length pool) s.start s.count (omega arith) w

-- by a comparer
pub held_count : (c : Comparer) (s : Slot) → IsHeldBy c s → length (slots_by c s) ≡ s.count
held_count c s w = held_long (lists_in c.lists) c.pool.now s w

-- ---- any list

module _ {A : Type 0} where
  drop_next : (xs : List A) (k : ℕ) (x : A) → slice_get xs k ≡ Some x → drop k xs ≡ x ∷ drop (suc k) xs
  drop_next [] k x e = cc
  drop_next (y ∷ xs) zero x e = let q : y ≡ x = cc in ap (λ z. z ∷ xs) q
  drop_next (y ∷ xs) (suc k) x e = drop_next xs k x e

  -- what is left begins with the item that is read
  pub next_at : (xs : List A) (k : ℕ) (x : A) → slice_get xs k ≡ Some x → drop k xs ≡ x ∷ drop (k + 1) xs
  next_at xs k x e = let n : suc k ≡ k + 1 = omega arith in drop_next xs k x e ∙ ap (λ m. x ∷ drop m xs) n

  take_suc : (xs : List A) (k : ℕ) (x : A) → slice_get xs k ≡ Some x → take (suc k) xs ≡ take k xs ++ x ∷ []
  take_suc [] k x e = cc
  take_suc (y ∷ xs) zero x e = let q : y ≡ x = cc in ap (λ z. z ∷ []) q
  take_suc (y ∷ xs) (suc k) x e = ap (λ z. y ∷ z) (take_suc xs k x e)

  -- what was taken so far, with the item that is read
  pub take_next : (xs : List A) (k : ℕ) (x : A) → slice_get xs k ≡ Some x → take (k + 1) xs ≡ take k xs ++ x ∷ []
  take_next xs k x e = let n : k + 1 ≡ suc k = omega arith in ap (λ m. take m xs) n ∙ take_suc xs k x e

  -- all were taken
  pub all_taken : (xs : List A) (k : ℕ) → length xs ≤ k → take k xs ≡ xs
  all_taken [] zero le = refl
  all_taken [] (suc k) le = refl
  all_taken (x ∷ xs) zero le = absurd (omega (arith, le))
  all_taken (x ∷ xs) (suc k) le = ap (λ z. x ∷ z) (all_taken xs k (omega (arith, le)))

  -- ---- tests of all, and of any

  -- a test that one item passes holds of all that are left where it holds of those behind
  pub all_next : (P : A → Bool) (xs : List A) (k : ℕ) (x : A) → slice_get xs k ≡ Some x → P x ≡ true → list_all P (drop k xs) ≡ list_all P (drop (k + 1) xs)
  all_next P xs k x e t = ap (list_all P) (next_at xs k x e) ∙ ap (λ z. z && list_all P (drop (k + 1) xs)) t

  -- and one that it fails does not
  pub all_failed : (P : A → Bool) (xs : List A) (k : ℕ) (x : A) → slice_get xs k ≡ Some x → P x ≡ false → list_all P (drop k xs) ≡ false
  all_failed P xs k x e t = ap (list_all P) (next_at xs k x e) ∙ ap (λ z. z && list_all P (drop (k + 1) xs)) t

  -- it holds of none
  pub all_end : (P : A → Bool) (xs : List A) (k : ℕ) → length xs ≤ k → list_all P (drop k xs) ≡ true
  all_end P xs k le = ap (list_all P) (drop_all k xs le)

  -- a test that one item fails holds of one that is left where it holds of one behind
  pub any_next : (P : A → Bool) (xs : List A) (k : ℕ) (x : A) → slice_get xs k ≡ Some x → P x ≡ false → list_any P (drop k xs) ≡ list_any P (drop (k + 1) xs)
  any_next P xs k x e t = ap (list_any P) (next_at xs k x e) ∙ ap (λ z. z || list_any P (drop (k + 1) xs)) t

  -- and one that it passes does
  pub any_found : (P : A → Bool) (xs : List A) (k : ℕ) (x : A) → slice_get xs k ≡ Some x → P x ≡ true → list_any P (drop k xs) ≡ true
  any_found P xs k x e t = ap (list_any P) (next_at xs k x e) ∙ ap (λ z. z || list_any P (drop (k + 1) xs)) t

  -- it holds of no item of none
  pub any_end : (P : A → Bool) (xs : List A) (k : ℕ) → length xs ≤ k → list_any P (drop k xs) ≡ false
  any_end P xs k le = ap (list_any P) (drop_all k xs le)

  -- ---- by a test of equality

  module _ (same : A → A → Bool) where
    -- one that is the same counts
    pub times_more : (xs : List A) (k : ℕ) (x s : A) → slice_get xs k ≡ Some x → same x s ≡ true → times_among same (drop k xs) s ≡ suc (times_among same (drop (k + 1) xs) s)
    times_more xs k x s e t = ap (λ z. times_among same z s) (next_at xs k x e) ∙ ap (λ z. if z then suc (times_among same (drop (k + 1) xs) s) else times_among same (drop (k + 1) xs) s) t

    -- another does not
    pub times_other : (xs : List A) (k : ℕ) (x s : A) → slice_get xs k ≡ Some x → same x s ≡ false → times_among same (drop k xs) s ≡ times_among same (drop (k + 1) xs) s
    times_other xs k x s e t = ap (λ z. times_among same z s) (next_at xs k x e) ∙ ap (λ z. if z then suc (times_among same (drop (k + 1) xs) s) else times_among same (drop (k + 1) xs) s) t

    -- of none nothing is counted
    pub times_end : (xs : List A) (k : ℕ) (s : A) → length xs ≤ k → times_among same (drop k xs) s ≡ 0
    times_end xs k s le = ap (λ z. times_among same z s) (drop_all k xs le)

    -- two lists are the same where their next items are, and those behind
    pub pairs_next : (xs ys : List A) (k : ℕ) (x y : A) → slice_get xs k ≡ Some x → slice_get ys k ≡ Some y → pairwise_same same (drop k xs) (drop k ys) ≡ (same x y && pairwise_same same (drop (k + 1) xs) (drop (k + 1) ys))
    pairs_next xs ys k x y e f = ap (λ z. pairwise_same same z (drop k ys)) (next_at xs k x e) ∙ ap (pairwise_same same (x ∷ drop (k + 1) xs)) (next_at ys k y f)

    -- and so are two empty ones
    pub pairs_end : (xs ys : List A) (k : ℕ) → length xs ≤ k → length ys ≤ k → pairwise_same same (drop k xs) (drop k ys) ≡ true
    pairs_end xs ys k a b = ap (λ z. pairwise_same same z (drop k ys)) (drop_all k xs a) ∙ ap (pairwise_same same []) (drop_all k ys b)

    -- lists of different lengths differ
    pub pairs_differ : (xs ys : List A) → (length xs ≡ length ys → ⊥) → pairwise_same same xs ys ≡ false
    pairs_differ [] [] ne = absurd (ne refl)
    pairs_differ [] (y ∷ ys) ne = refl
    pairs_differ (x ∷ xs) [] ne = refl
    pairs_differ (x ∷ xs) (y ∷ ys) ne = ap (λ z. same x y && z) (pairs_differ xs ys (λ e. ne (ap suc e))) ∙ by_test (same x y)
      where
        by_test : (b : Bool) → (b && false) ≡ false
        by_test true = refl
        by_test false = refl

    -- an item stands twice where the next one stands among those behind, or one of those does twice
    pub repeats_next : (xs : List A) (k : ℕ) (x : A) → slice_get xs k ≡ Some x → repeats same (drop k xs) ≡ (is_among same (drop (k + 1) xs) x || repeats same (drop (k + 1) xs))
    repeats_next xs k x e = ap (repeats same) (next_at xs k x e)

    -- none does in an empty list
    pub repeats_end : (xs : List A) (k : ℕ) → length xs ≤ k → repeats same (drop k xs) ≡ false
    repeats_end xs k le = ap (repeats same) (drop_all k xs le)

    -- what is taken so far, and what is left to take
    pub first_taken : (before xs : List A) (k : ℕ) (x : A) → slice_get xs k ≡ Some x → is_among same before x ≡ true → before ++ first_ones same before (drop k xs) ≡ before ++ first_ones same before (drop (k + 1) xs)
    first_taken before xs k x e t =
        ap (λ z. before ++ first_ones same before z) (next_at xs k x e) ∙ ap (λ z. before ++ (if z then first_ones same before (drop (k + 1) xs) else x ∷ first_ones same (before ++ x ∷ []) (drop (k + 1) xs))) t

    -- an item that is not among those taken is taken
    pub first_new : (before xs : List A) (k : ℕ) (x : A) → slice_get xs k ≡ Some x → is_among same before x ≡ false → before ++ first_ones same before (drop k xs) ≡ (before ++ x ∷ []) ++ first_ones same (before ++ x ∷ []) (drop (k + 1) xs)
    first_new before xs k x e t =
        ap (λ z. before ++ first_ones same before z) (next_at xs k x e) ∙ ap (λ z. before ++ (if z then first_ones same before (drop (k + 1) xs) else x ∷ first_ones same (before ++ x ∷ []) (drop (k + 1) xs))) t
        ∙ sym (append_assoc before (x ∷ []) (first_ones same (before ++ x ∷ []) (drop (k + 1) xs)))

    -- with none left all are taken
    pub first_end : (before xs : List A) (k : ℕ) → length xs ≤ k → before ++ first_ones same before (drop k xs) ≡ before
    first_end before xs k le = ap (λ z. before ++ first_ones same before z) (drop_all k xs le) ∙ append-nil before

-- ---- sums

-- a number more
pub sum_next : (xs : List Slot) (k : ℕ) (x : Slot) → slice_get xs k ≡ Some x → plain_mark x.mark ≡ true → sum_of_slots (drop k xs) ≡ option_map (λ m. x.number +ℤ m) (sum_of_slots (drop (k + 1) xs))
sum_next xs k x e t = ap sum_of_slots (next_at xs k x e) ∙ ap (λ z. if z then option_map (λ m. x.number +ℤ m) (sum_of_slots (drop (k + 1) xs)) else None) t

-- without one there is no sum
pub sum_missing : (xs : List Slot) (k : ℕ) (x : Slot) → slice_get xs k ≡ Some x → plain_mark x.mark ≡ false → sum_of_slots (drop k xs) ≡ None
sum_missing xs k x e t = ap sum_of_slots (next_at xs k x e) ∙ ap (λ z. if z then option_map (λ m. x.number +ℤ m) (sum_of_slots (drop (k + 1) xs)) else None) t

-- the sum of none
pub sum_end : (xs : List Slot) (k : ℕ) → length xs ≤ k → sum_of_slots (drop k xs) ≡ Some (pos 0)
sum_end xs k le = ap sum_of_slots (drop_all k xs le)

-- without a sum of what is left there is none of all
pub sum_stops : (f : ℤ → ℤ) (left all : Option ℤ) → option_map f left ≡ all → left ≡ None → None ≡ all
sum_stops f left all e g = sym (ap (option_map f) g) ∙ e

-- the sum so far with one number more
pub sum_goes : (t n more : ℤ) (rest left all : Option ℤ) → option_map (λ m. t +ℤ m) left ≡ all → left ≡ option_map (λ m. n +ℤ m) rest → more ≡ t +ℤ n → option_map (λ m. more +ℤ m) rest ≡ all
sum_goes t n more None left all e g h = sym (ap (option_map (λ m. t +ℤ m)) g) ∙ e
sum_goes t n more (Some k) left all e g h = ap (λ z. Some (z +ℤ k)) h ∙ ap Some (+ℤ_assoc t n k) ∙ sym (ap (option_map (λ m. t +ℤ m)) g) ∙ e

-- and with nothing left
pub sum_done : (t : ℤ) (left all : Option ℤ) → option_map (λ m. t +ℤ m) left ≡ all → left ≡ Some (pos 0) → Some t ≡ all
sum_done t left all e g = ap Some (sym (+ℤ_idr t)) ∙ sym (ap (option_map (λ m. t +ℤ m)) g) ∙ e

-- ---- what is put behind the pool

-- the elements that were taken stand behind the pool as it was
pub taken_are : (l : Lists) (old taken : List Slot) (s : Slot) → s.list ≡ 2 → s.start ≡ length old → s.count ≡ length taken → held_slots l (old ++ taken) s ≡ taken
taken_are l old taken s el es ec =
    let n : length old + length taken - length old ≡ length taken = omega arith in
    rw (el, es, ec) (ap (λ z. take z (drop (length old) (old ++ taken))) n ∙ ap (take (length taken)) (drop_at old taken (length old) refl) ∙ all_taken taken (length taken) (omega arith))

-- ---- lists in order

module _ {A : Type 0} (valid : A → Bool) (before : A → A → Bool) where
  -- an item that may not stand in the list
  pub rises_invalid : (xs : List A) (k : ℕ) (x : A) → slice_get xs k ≡ Some x → valid x ≡ false → rises valid before (drop k xs) ≡ false
  rises_invalid xs k x e v = ap (rises valid before) (next_at xs k x e) ∙ ap (λ z. (z && begins_after before x (drop (k + 1) xs)) && rises valid before (drop (k + 1) xs)) v

  -- one that may not stand before the one behind it
  pub rises_falls : (xs : List A) (k : ℕ) (x y : A) → slice_get xs k ≡ Some x → slice_get xs (k + 1) ≡ Some y → before x y ≡ false → rises valid before (drop k xs) ≡ false
  rises_falls xs k x y e f b =
      ap (rises valid before) (next_at xs k x e) ∙ ap (λ z. (valid x && begins_after before x z) && rises valid before (drop (k + 1) xs)) (next_at xs (k + 1) y f) ∙ ap (λ z. (valid x && z) && rises valid before (drop (k + 1) xs)) b
      ∙ failed (valid x)
    where
      failed : (b : Bool) → ((b && false) && rises valid before (drop (k + 1) xs)) ≡ false
      failed true = refl
      failed false = refl

  -- one that may
  pub rises_on : (xs : List A) (k : ℕ) (x y : A) → slice_get xs k ≡ Some x → slice_get xs (k + 1) ≡ Some y → valid x ≡ true → before x y ≡ true → rises valid before (drop k xs) ≡ rises valid before (drop (k + 1) xs)
  rises_on xs k x y e f v b =
      ap (rises valid before) (next_at xs k x e) ∙ ap (λ z. (valid x && begins_after before x z) && rises valid before (drop (k + 1) xs)) (next_at xs (k + 1) y f) ∙ ap (λ z. (valid x && z) && rises valid before (drop (k + 1) xs)) b
      ∙ ap (λ z. (z && true) && rises valid before (drop (k + 1) xs)) v

  -- the last one
  pub rises_last : (xs : List A) (k : ℕ) (x : A) → slice_get xs k ≡ Some x → length xs ≤ k + 1 → valid x ≡ true → rises valid before (drop k xs) ≡ rises valid before (drop (k + 1) xs)
  rises_last xs k x e le v =
      ap (rises valid before) (next_at xs k x e) ∙ ap (λ z. (valid x && begins_after before x z) && rises valid before (drop (k + 1) xs)) (drop_all (k + 1) xs le) ∙ ap (λ z. (z && true) && rises valid before (drop (k + 1) xs)) v

  -- none is left
  pub rises_end : (xs : List A) (k : ℕ) → length xs ≤ k → rises valid before (drop k xs) ≡ true
  rises_end xs k le = ap (rises valid before) (drop_all k xs le)
