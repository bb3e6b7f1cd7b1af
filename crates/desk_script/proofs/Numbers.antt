-- A number, read digit by digit.
use Rattle.std.proofs.Common.{◌≡◌, ℕ, ◌+◌, ◌*◌, ◌-◌, ◌^◌, ◌<◌, ◌≤◌, Bool, true, false, not, ◌&&◌, ◌⊎◌, inl, inr, if◌then◌else◌, List, [], ◌∷◌, length, get_or, drop, fold, Some, None, refl, sym, ap, ◌∙◌, arith, le_refl}
use Rattle.std.specs.List.{list_all}
use Rattle.std.specs.Char.{is_ascii_digit}
use Rattle.std.proofs.lemmas.List.{at_drop_more, at_drop_all}
use Rattle.std.proofs.lemmas.Bool.{true≢false, lt-leb, le-leb, ne_eqb}
use Rattle.desk_script.specs.Script.{number_of, written_number}

abbrev step : ℕ → ℕ → ℕ
step value digit = value * 10 + (digit - 48)

-- the digits before an index write this number
pub record IsReadTo (text : List ℕ) (i v : ℕ) : Type 0 where
  pub within : v < 2 ^ 63
  pub value : fold step v (drop i text) ≡ written_number text
  pub digits : list_all is_ascii_digit (drop i text) ≡ list_all is_ascii_digit text

-- more digits never write a smaller number
grows : (v : ℕ) (ds : List ℕ) → v ≤ fold step v ds
grows v [] = le_refl v
grows v (d ∷ ds) = let h = grows (step v d) ds in omega (arith, h)

-- a text that fails one test is no number
nothing : (e d m : Bool) (v : ℕ) → (d ≡ false) ⊎ (m ≡ false) → None ≡ (if (not e && (d && m)) then Some v else None)
nothing true d m v h = refl
nothing false false m v h = refl
nothing false true false v h = refl
nothing false true true v (inl h) = absurd (true≢false h)
nothing false true true v (inr h) = absurd (true≢false h)

-- an empty text is no number
pub no_digits : (text : List ℕ) → length text ≡ 0 → None ≡ number_of text
no_digits text e = rw e refl

-- a byte that is no digit
pub not_digits : (text : List ℕ) (i v : ℕ) → IsReadTo text i v → i < length text → is_ascii_digit (get_or text i 0) ≡ false → None ≡ number_of text
not_digits text i v r lt e =
    nothing _ _ _ _ (inl (sym r.digits ∙ at_drop_more (list_all is_ascii_digit) text i 0 lt ∙ rw e refl))

-- a digit that makes the number too large
pub too_large : (text : List ℕ) (i v : ℕ) → IsReadTo text i v → i < length text → 2 ^ 63 ≤ v * 10 + (get_or text i 0 - 48) → None ≡ number_of text
too_large text i v r lt large =
    let more = grows (step v (get_or text i 0)) (drop (i + 1) text) in
    let is = sym r.value ∙ at_drop_more (fold step v) text i 0 lt in
    let past : 9223372036854775807 < written_number text = omega (arith, large, more, is) in
    nothing _ _ _ _ (inr (lt-leb _ _ past))

-- one more digit
pub one_digit : (text : List ℕ) (i v : ℕ) → IsReadTo text i v → i < length text → is_ascii_digit (get_or text i 0) ≡ true → v * 10 + (get_or text i 0 - 48) < 2 ^ 63
    → IsReadTo text (i + 1) (v * 10 + (get_or text i 0 - 48))
one_digit text i v r lt e within = record {
  within = within;
  value = sym (at_drop_more (fold step v) text i 0 lt) ∙ r.value;
  digits = sym (at_drop_more (list_all is_ascii_digit) text i 0 lt ∙ rw e refl) ∙ r.digits;
}

-- the end of the digits
pub all_digits : (text : List ℕ) (i v : ℕ) → IsReadTo text i v → length text ≤ i → 0 < length text → Some v ≡ number_of text
all_digits text i v r end some =
    let value = sym r.value ∙ at_drop_all (fold step v) text i end in
    let digits = sym r.digits ∙ at_drop_all (list_all is_ascii_digit) text i end in
    let small : written_number text ≤ 9223372036854775807 = omega (arith, value, r.within) in
    rw (ne_eqb (length text) 0 (λ e. omega (arith, e, some)), digits, le-leb _ _ small) (ap (λ (n : ℕ). Some n) (sym value))
