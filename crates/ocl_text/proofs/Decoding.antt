-- What one character of a string's spelling adds to its value.
use Rattle.std.proofs.Common.{◌≡◌, ◌≢◌, ℕ, suc, ◌<◌, ◌≤◌, Bool, true, false, List, [], ◌∷◌, ◌++◌, length, get_or, refl, sym, ap, ◌∙◌, subst, arith, append-nil, append_assoc, lit<, inl, inr}
use Rattle.std.proofs.Math.Utf8.{encode}
use Rattle.std.proofs.lemmas.Bool.{cases_lt, ne_eqb}
use Rattle.std.proofs.lemmas.Bool.Decides.{nat_tests}
use Rattle.std.proofs.lemmas.Str.{encode_ascii, inside_one, length-encode, len_utf8_bounds}
use Rattle.ocl_text.specs.Strings.{escape_value, value_from}

-- every byte of a character that is not ASCII is above ASCII
abbrev IsHigh : List ℕ → Type 0
IsHigh bs = (k : ℕ) → k < length bs → 128 ≤ get_or bs k 0

encode_high : (c : ℕ) → 128 ≤ c → IsHigh (encode c)
encode_high c h k l = elim (cases_lt (get_or (encode c) k 0) 128) [
  | inl low ↦ let e : c ≡ get_or (encode c) k 0 = inside_one c [] (encode c) k (sym (append-nil (encode c))) l low in absurd (omega arith)
  | inr high ↦ high
]

escape_value_high : (c : ℕ) → 128 ≤ c → escape_value c ≡ c
escape_value_high c h = rw (ne_eqb c 98 (λ e. omega arith), ne_eqb c 116 (λ e. omega arith), ne_eqb c 110 (λ e. omega arith), ne_eqb c 102 (λ e. omega arith), ne_eqb c 114 (λ e. omega arith)) refl

escape_value_low : (c : ℕ) → c < 128 → escape_value c < 128
escape_value_low c h = grind (arith, nat_tests)

passes : (bs rest : List ℕ) → IsHigh bs → value_from false (bs ++ rest) ≡ bs ++ value_from false rest
unfolding value_from
passes [] rest h = refl
passes (b ∷ bs) rest h =
    let high : 128 ≤ b = h 0 (omega arith) in
    rw (ne_eqb b 39 (λ e. omega arith), ne_eqb b 92 (λ e. omega arith)) (ap (λ l. b ∷ l) (passes bs rest (λ k l. h (suc k) (omega (arith, l)))))

passes_after : (bs rest : List ℕ) → 0 < length bs → IsHigh bs → value_from true (bs ++ rest) ≡ bs ++ value_from false rest
unfolding value_from
passes_after [] rest n h = absurd (omega arith)
passes_after (b ∷ bs) rest n h =
    let high : 128 ≤ b = h 0 (omega arith) in
    rw (escape_value_high b high) (ap (λ l. b ∷ l) (passes bs rest (λ k l. h (suc k) (omega (arith, l)))))

character_after : (c : ℕ) (rest : List ℕ) → value_from true (encode c ++ rest) ≡ encode (escape_value c) ++ value_from false rest
unfolding value_from
character_after c rest = elim (cases_lt c 128) [
  | inl low ↦ rw (encode_ascii c low, encode_ascii (escape_value c) (escape_value_low c low)) refl
  | inr high ↦ rw (escape_value_high c high) (passes_after (encode c) rest (omega (arith, length-encode c, len_utf8_bounds c)) (encode_high c high))
]

character_plain : (c : ℕ) (rest : List ℕ) → c ≢ 39 → c ≢ 92 → value_from false (encode c ++ rest) ≡ encode c ++ value_from false rest
unfolding value_from
character_plain c rest q s = elim (cases_lt c 128) [
  | inl low ↦ rw (encode_ascii c low, ne_eqb c 39 q, ne_eqb c 92 s) refl
  | inr high ↦ passes (encode c) rest (encode_high c high)
]

-- the value so far, and what is left of the spelling, make the whole value
abbrev Value : List ℕ → Bool → List ℕ → List ℕ → Type 0
Value whole flag so_far left = so_far ++ value_from flag left ≡ whole

module _ (out rest after whole : List ℕ) (c : ℕ) (is : rest ≡ encode c ++ after) where
  -- what was pushed stands for what was read
  added : (next : List ℕ) (flag : Bool) (piece : List ℕ) → next ≡ out ++ piece → value_from flag (encode c ++ after) ≡ piece ++ value_from false after → Value whole flag out rest → Value whole false next after
  added next flag piece p s inv = rw p (append_assoc out piece (value_from false after) ∙ ap (λ l. out ++ l) (sym s ∙ ap (value_from flag) (sym is)) ∙ inv)

  -- after a backslash a character adds what it escapes to
  pub after_escape : (next : List ℕ) → next ≡ out ++ encode (escape_value c) → Value whole true out rest → Value whole false next after
  after_escape next p = added next true (encode (escape_value c)) p (character_after c after)

  -- a character that is neither a quote nor a backslash adds itself
  pub after_plain : (next : List ℕ) → c ≢ 39 → c ≢ 92 → next ≡ out ++ encode c → Value whole false out rest → Value whole false next after
  after_plain next q s p = added next false (encode c) p (character_plain c after q s)

  -- a quote adds nothing
  pub after_quote : c ≡ 39 → Value whole false out rest → Value whole false out after
  unfolding value_from
  after_quote e inv = let r : rest ≡ 39 ∷ after = is ∙ ap (λ x. encode x ++ after) e ∙ rw (encode_ascii 39 (lit< tt)) refl in subst (λ (l : List ℕ). out ++ value_from false l ≡ whole) r inv

  -- a backslash adds nothing, and escapes the character after it
  pub after_backslash : c ≡ 92 → Value whole false out rest → Value whole true out after
  unfolding value_from
  after_backslash e inv = let r : rest ≡ 92 ∷ after = is ∙ ap (λ x. encode x ++ after) e ∙ rw (encode_ascii 92 (lit< tt)) refl in subst (λ (l : List ℕ). out ++ value_from false l ≡ whole) r inv

-- at the end of the spelling, what was pushed is the whole value
pub at_the_end : (flag : Bool) (out rest whole : List ℕ) → length rest ≡ 0 → Value whole flag out rest → out ≡ whole
unfolding value_from
at_the_end true out [] whole e inv = sym (append-nil out) ∙ inv
at_the_end false out [] whole e inv = sym (append-nil out) ∙ inv
at_the_end flag out (b ∷ rest) whole e inv = absurd (omega arith)
