-- Marks as bits of words.
use Rattle.std.proofs.Common.{◌≡◌, ℕ, ◌+◌, ◌*◌, ◌^◌, zero, suc, ◌<◌, ◌≤◌, ◌/◌, ◌%◌, ◌-◌, ◌&&◌, ◌||◌, min, bit_and, Bool, true, false, eqb, List, [], ◌∷◌, ◌++◌, length, get_or, set, max, refl, sym, ap, ◌∙◌, arith, bit_or, w64, replicate, inl, inr}
use Rattle.std.proofs.lemmas.Bool.{eq-eqb, ne_eqb}
use Rattle.std.proofs.lemmas.Bool.Decides.{leb_tells, eqb_tells}
use Rattle.std.proofs.Math.Nat.{div-add-mod}
use Rattle.std.proofs.lemmas.List.{get_or-set_other, get_or-set_same, length_push, get_or_push, get_or_past}
use Rattle.std.proofs.lemmas.Grind.{common_steps}
use Rattle.std.proofs.lemmas.Nat.Bits.{bit_at_or, bit_at_and, bit_at_set_same, bit_at_set_other, bit_at-lt, bit_at-zero}
use Rattle.std.specs.Int.{bit_at}
use Rattle.imkl_model.specs.Tables.{has_mark, is_marked, marks}

-- a row of n marks has length n
pub length-marks : (words : List ℕ) (n : ℕ) → length (marks words n) ≡ n
length-marks words zero = refl
length-marks words (suc n) = omega (arith, length_push (marks words n) (is_marked words n), length-marks words n)

get_or_before : (xs : List Bool) (y : Bool) (j : ℕ) → j < length xs → get_or (xs ++ y ∷ []) j false ≡ get_or xs j false
get_or_before xs y j lt = grind (arith, common_steps)

-- a number below n is marked in a row of n marks where it is marked in the words
pub has-marks : (words : List ℕ) (n j : ℕ) → j < n → has_mark (marks words n) j ≡ is_marked words j
has-marks words zero j lt = absurd (omega (arith, lt))
has-marks words (suc n) j lt =
    elim (leb_tells n j) [
      | inl le ↦
          let same : j ≡ n = omega (arith, le.1) in
          rw same (get_or_push (marks words n) (is_marked words n) false n (length-marks words n))
      | inr less ↦ get_or_before (marks words n) (is_marked words n) j (omega (arith, length-marks words n, less.1)) ∙ has-marks words n j less.1
    ]

-- no number from n on has a mark in a row of n
pub has-marks_past : (words : List ℕ) (n j : ℕ) → n ≤ j → has_mark (marks words n) j ≡ false
has-marks_past words n j le = get_or_past (marks words n) j false (omega (arith, length-marks words n, le))

one_or : (a b : ℕ) → a < 2 → b < 2 → eqb (max a b) 1 ≡ (eqb a 1 || eqb b 1)
one_or zero zero l m = refl
one_or zero (suc zero) l m = refl
one_or (suc zero) zero l m = refl
one_or (suc zero) (suc zero) l m = refl
one_or (suc (suc a)) b l m = absurd (omega (arith, l))
one_or zero (suc (suc b)) l m = absurd (omega (arith, m))
one_or (suc zero) (suc (suc b)) l m = absurd (omega (arith, m))

-- a bit of two words joined by `or` is set where it is set in one of them
pub is_marked-or : (a b k : ℕ) → eqb (bit_at (bit_or a b) k) 1 ≡ (eqb (bit_at a k) 1 || eqb (bit_at b k) 1)
is_marked-or a b k = ap (λ (x : ℕ). eqb x 1) (bit_at_or a b k) ∙ one_or (bit_at a k) (bit_at b k) (bit_at-lt a k) (bit_at-lt b k)

-- a number is marked in merged words where it is marked in the one or the other
pub is_marked-merged : (ws vs us : List ℕ) → ((k : ℕ) → get_or us k 0 ≡ bit_or (get_or ws k 0) (get_or vs k 0)) → (j : ℕ) → is_marked us j ≡ (is_marked ws j || is_marked vs j)
is_marked-merged ws vs us all j = ap (λ (w : ℕ). eqb (bit_at w (j % 64)) 1) (all (j / 64)) ∙ is_marked-or (get_or ws (j / 64) 0) (get_or vs (j / 64) 0) (j % 64)

or_true : (b : Bool) → (b || true) ≡ true
or_true true = refl
or_true false = refl

-- a test joined by `or` with one that fails stays as it is
pub or_untouched : (b c : Bool) → c ≡ false → b ≡ (b || c)
or_untouched true c e = refl
or_untouched false c e = sym e

-- the word that marks number k of a word
abbrev with_bit : ℕ → ℕ → ℕ
with_bit w k = bit_or w (1 * 2 ^ k % 18446744073709551616)

same_number : (n j : ℕ) → j / 64 ≡ n / 64 → j % 64 ≡ n % 64 → n ≡ j
same_number n j d m = omega (arith, div-add-mod n 64, div-add-mod j 64, d, m)

one_word : (w n j : ℕ) → n % 64 < 64 → j / 64 ≡ n / 64 → eqb (bit_at (with_bit w (n % 64)) (j % 64)) 1 ≡ (eqb (bit_at w (j % 64)) 1 || eqb n j)
one_word w n j within d =
    elim (eqb_tells (j % 64) (n % 64)) [
      | inl h ↦
          let set : bit_at (with_bit w (n % 64)) (j % 64) ≡ 1 = ap (bit_at (with_bit w (n % 64))) h.1 ∙ bit_at_set_same w64 w (n % 64) within in
          rw (set, eq-eqb n j (same_number n j d h.1)) (sym (or_true (eqb (bit_at w (j % 64)) 1)))
      | inr h ↦
          let kept : bit_at (with_bit w (n % 64)) (j % 64) ≡ bit_at w (j % 64) = bit_at_set_other w64 w (n % 64) within (j % 64) h.1 in
          rw kept (or_untouched (eqb (bit_at w (j % 64)) 1) (eqb n j) (ne_eqb n j (λ e. h.1 (ap (λ (x : ℕ). x % 64) (sym e)))))
    ]

-- once the bit of number n is set, n is marked beside what was marked before
pub is_marked-set : (ws : List ℕ) (n j : ℕ) → n % 64 < 64 → n / 64 < length ws → is_marked (set ws (n / 64) (with_bit (get_or ws (n / 64) 0) (n % 64))) j ≡ (is_marked ws j || eqb n j)
is_marked-set ws n j within lt =
    let w = get_or ws (n / 64) 0 in
    elim (eqb_tells (j / 64) (n / 64)) [
      | inl h ↦
          let here : get_or (set ws (n / 64) (with_bit w (n % 64))) (j / 64) 0 ≡ with_bit w (n % 64) = ap (λ (i : ℕ). get_or (set ws (n / 64) (with_bit w (n % 64))) i 0) h.1 ∙ get_or-set_same ws (n / 64) (with_bit w (n % 64)) 0 lt in
          let there : get_or ws (j / 64) 0 ≡ w = ap (λ (i : ℕ). get_or ws i 0) h.1 in
          rw (here, there) (one_word w n j within h.1)
      | inr h ↦
          rw (get_or-set_other ws (n / 64) (j / 64) (with_bit w (n % 64)) 0 h.1) (or_untouched (is_marked ws j) (eqb n j) (ne_eqb n j (λ e. h.1 (ap (λ (x : ℕ). x / 64) (sym e)))))
    ]

-- ---- a row of n marks

-- it has length n
pub row_length : (ws : List ℕ) (n : ℕ) (row : List Bool) → marks ws n ≡ row → length row ≡ n
row_length ws n row e = ap length (sym e) ∙ length-marks ws n

-- each number of the row has its bit in one of the words
pub in_words : (ws : List ℕ) (n j : ℕ) (row : List Bool) → marks ws n ≡ row → length ws ≡ n / 64 + 1 → j < length row → j / 64 < length ws
in_words ws n j row e long lt = omega (arith, row_length ws n row e, long, lt, div-add-mod n 64, div-add-mod j 64)

-- a number of the row is marked there where it is marked in the words
pub row_has : (ws : List ℕ) (n j : ℕ) (row : List Bool) → marks ws n ≡ row → j < length row → is_marked ws j ≡ has_mark row j
row_has ws n j row e lt = rw (← e) (sym (has-marks ws n j (omega (arith, lt, row_length ws n row e))))

-- where the words get further marks below n, the row gets the same
pub row_joined : (ws us : List ℕ) (n : ℕ) (f : ℕ → Bool) (row : List Bool) → marks ws n ≡ row → ((j : ℕ) → j < n → is_marked us j ≡ (is_marked ws j || f j)) → ((j : ℕ) → n ≤ j → f j ≡ false)
    → (j : ℕ) → has_mark (marks us n) j ≡ (has_mark row j || f j)
row_joined ws us n f row e inside outside j =
    rw (← e) (elim (leb_tells n j) [
      | inl le ↦ rw (has-marks_past us n j le.1, has-marks_past ws n j le.1) (sym (outside j le.1))
      | inr less ↦ rw (has-marks us n j less.1, has-marks ws n j less.1) (inside j less.1)
    ])

-- a number below n is not one from n on
pub apart_past : (number n j : ℕ) → number < n → n ≤ j → eqb number j ≡ false
apart_past number n j lt le = ne_eqb number j (λ e. absurd (omega (arith, e, lt, le)))

-- no number from n on has a mark in the row
pub row_past : (vs : List ℕ) (n j : ℕ) (row : List Bool) → marks vs n ≡ row → n ≤ j → has_mark row j ≡ false
row_past vs n j row e le = rw (← e) (has-marks_past vs n j le)

abbrev pub zeros : ℕ → List ℕ
zeros k = replicate k 0

none_marked : (k j : ℕ) → get_or (zeros k) j 0 ≡ 0
none_marked zero j = refl
none_marked (suc k) zero = refl
none_marked (suc k) (suc j) = none_marked k j

-- a row of words that are zero has no mark
pub new_row : (k n j : ℕ) → has_mark (marks (zeros k) n) j ≡ false
new_row k n j =
    elim (leb_tells n j) [
      | inl le ↦ has-marks_past (zeros k) n j le.1
      | inr less ↦ has-marks (zeros k) n j less.1 ∙ rw (none_marked k (j / 64), bit_at-zero (j % 64)) refl
    ]

-- ---- marks that two rows share

no_pair : (x y : ℕ) → min x y ≡ 0 → (eqb x 1 && eqb y 1) ≡ false
no_pair x y e =
    elim (eqb_tells x 1) [
      | inl h ↦ elim (eqb_tells y 1) [
        | inl g ↦ absurd (one_not_zero (rw (h.1, g.1) at e))
        | inr g ↦ rw (h.0, g.0) refl
      ]
      | inr h ↦ rw h.0 refl
    ]
  where
    one_not_zero : ◌≡◌ {A = ℕ} 1 0 → ⊥
    one_not_zero f = omega (arith, f)

-- words without a common bit share no number
pub word_apart : (ws vs : List ℕ) (i j : ℕ) → j / 64 ≡ i → bit_and (get_or ws i 0) (get_or vs i 0) ≡ 0 → (is_marked ws j && is_marked vs j) ≡ false
word_apart ws vs i j d e =
    rw d (no_pair (bit_at (get_or ws i 0) (j % 64)) (bit_at (get_or vs i 0) (j % 64))
    (sym (bit_at_and (get_or ws i 0) (get_or vs i 0) (j % 64)) ∙ ap (λ (w : ℕ). bit_at w (j % 64)) e ∙ bit_at-zero (j % 64)))

-- the numbers from one to the end of its word are in that word
pub one_word_on : (n j : ℕ) → n ≤ j → j < n + (64 - n % 64) → j / 64 ≡ n / 64
one_word_on n j le lt = omega (arith, le, lt, div-add-mod n 64, div-add-mod j 64)

and_false : (a b : Bool) → b ≡ false → (a && b) ≡ false
and_false true b e = e
and_false false b e = refl

module _ (ws vs : List ℕ) (n m : ℕ) (row other : List Bool) (e : marks ws n ≡ row) (f : marks vs m ≡ other) where
  pub both_marked : (j : ℕ) → j < min n m → is_marked ws j ≡ true → is_marked vs j ≡ true → (j < length row) × (has_mark row j ≡ true) × (has_mark other j ≡ true)
  both_marked j lt here there =
      let in_row : j < length row = omega (arith, lt, row_length ws n row e) in
      let in_other : j < length other = omega (arith, lt, row_length vs m other f) in
      (in_row, sym (row_has ws n j row e in_row) ∙ here, sym (row_has vs m j other f in_other) ∙ there)

  pub none_marked_both : ((j : ℕ) → j < min n m → (is_marked ws j && is_marked vs j) ≡ false) → (j : ℕ) → (has_mark row j && has_mark other j) ≡ false
  none_marked_both none j =
      elim (leb_tells n j) [
        | inl le ↦ rw (row_past ws n j row e le.1) refl
        | inr less ↦ elim (leb_tells m j) [
          | inl le ↦ and_false (has_mark row j) (has_mark other j) (row_past vs m j other f le.1)
          | inr lower ↦
              let in_row : j < length row = omega (arith, less.1, row_length ws n row e) in
              let in_other : j < length other = omega (arith, lower.1, row_length vs m other f) in
              rw (← row_has ws n j row e in_row, ← row_has vs m j other f in_other) (none j (omega (arith, less.1, lower.1)))
        ]
      ]
