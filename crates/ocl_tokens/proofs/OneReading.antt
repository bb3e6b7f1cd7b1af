-- A text has at most one list of tokens, at most one fault, and never both.
use Rattle.std.proofs.Common.{◌≡◌, ◌≢◌, ℕ, suc, ◌+◌, ◌<◌, Bool, true, false, ◌&&◌, ◌==◌, List, [], ◌∷◌, drop, Option, Some, None, refl, sym, ap, ◌∙◌, subst, inl, inr, arith, lit<, add-zero, ◌^◌}
use Rattle.std.specs.Prelude.{is_some}
use Rattle.std.proofs.lemmas.Bool.{cases_eq, ne_eqb, eqb-true, lt-ltb, le-ltb, or_parts}
use Rattle.std.proofs.lemmas.Bool.Decides.{nat_tests}
use Rattle.std.specs.List.{take_while}
use Rattle.std.specs.Char.{is_ascii_digit}
use Rattle.ocl_tokens.specs.declared.token.TokenKind.{TokenKind}
use Rattle.ocl_tokens.specs.declared.fault.TextFlaw.{TextFlaw}
use Rattle.ocl_tokens.specs.declared.lexeme.Lexeme.TheVariants.{Blank, Token, Fault}
use Rattle.ocl_tokens.specs.Terminals.{Terminal}
use Rattle.ocl_tokens.specs.Lexical as l
use Rattle.ocl_base.specs.Words.{is_letter}
use Rattle.ocl_tokens.specs.Lexical.{is_white, mark_ahead, mark_of_one, starts_with, opens_comment, begins_token, IsBlank, IsToken, IsFlaw, LexesFrom, HasFlawFrom}
use Rattle.ocl_tokens.specs.FirstLexeme as fr
use Rattle.ocl_tokens.specs.FirstLexeme.{first_lexeme, mark_by, short_mark, lexeme_at, number_by}
use Rattle.ocl_tokens.proofs.Lexemes.{comment_is, comment_open, string_is, string_open, digits_are}

-- ---- bytes that begin no mark

not_one : (b : ℕ) → (b ≢ 40) → (b ≢ 41) → (b ≢ 44) → (b ≢ 46) → (b ≢ 58) → (b ≢ 59) → (b ≢ 124) → (b ≢ 43) → (b ≢ 45) → (b ≢ 42) → (b ≢ 61) → (b ≢ 60) → (b ≢ 62) → mark_of_one b ≡ None
not_one b n40 n41 n44 n46 n58 n59 n124 n43 n45 n42 n61 n60 n62 = rw (ne_eqb b 40 n40, ne_eqb b 41 n41, ne_eqb b 44 n44, ne_eqb b 46 n46, ne_eqb b 58 n58, ne_eqb b 59 n59, ne_eqb b 124 n124, ne_eqb b 43 n43, ne_eqb b 45 n45, ne_eqb b 42 n42, ne_eqb b 61 n61, ne_eqb b 60 n60, ne_eqb b 62 n62) refl

-- white space, digits and letters lie apart from marks, and from one another
data Apart (b : ℕ) : Type 0 where
  low : b < 39 → Apart b
  digit : 47 < b → b < 58 → Apart b
  letter : 64 < b → b < 123 → Apart b

no_mark : (b : ℕ) → Apart b → mark_of_one b ≡ None
no_mark b (low h) = not_one b (λ e. omega arith) (λ e. omega arith) (λ e. omega arith) (λ e. omega arith) (λ e. omega arith) (λ e. omega arith) (λ e. omega arith) (λ e. omega arith) (λ e. omega arith) (λ e. omega arith) (λ e. omega arith) (λ e. omega arith) (λ e. omega arith)
no_mark b (digit g h) = not_one b (λ e. omega arith) (λ e. omega arith) (λ e. omega arith) (λ e. omega arith) (λ e. omega arith) (λ e. omega arith) (λ e. omega arith) (λ e. omega arith) (λ e. omega arith) (λ e. omega arith) (λ e. omega arith) (λ e. omega arith) (λ e. omega arith)
no_mark b (letter g h) = not_one b (λ e. omega arith) (λ e. omega arith) (λ e. omega arith) (λ e. omega arith) (λ e. omega arith) (λ e. omega arith) (λ e. omega arith) (λ e. omega arith) (λ e. omega arith) (λ e. omega arith) (λ e. omega arith) (λ e. omega arith) (λ e. omega arith)

white_apart : (b : ℕ) → is_white b ≡ true → Apart b
white_apart b h = low (grind (arith, nat_tests))

digit_apart : (b : ℕ) → is_ascii_digit b ≡ true → Apart b
digit_apart b h = digit (grind (arith, nat_tests)) (grind (arith, nat_tests))

letter_apart : (b : ℕ) → is_letter b ≡ true → Apart b
letter_apart b h = letter (grind (arith, nat_tests)) (grind (arith, nat_tests))

no_long_mark : (b : ℕ) (text : List ℕ) → mark_of_one b ≡ None → mark_ahead b text ≡ None
no_long_mark b [] h = refl
no_long_mark b (c ∷ text) h = elim (cases_eq b 58) [
  | inl e ↦ let f = rw e at h in absurd (cc)
  | inr n ↦ elim (cases_eq b 45) [
    | inl e ↦ let f = rw e at h in absurd (cc)
    | inr o ↦ elim (cases_eq b 60) [
      | inl e ↦ let f = rw e at h in absurd (cc)
      | inr p ↦ elim (cases_eq b 62) [
        | inl e ↦ let f = rw e at h in absurd (cc)
        | inr q ↦ rw (ne_eqb b 58 n, ne_eqb b 45 o, ne_eqb b 60 p, ne_eqb b 62 q) refl
      ]
    ]
  ]
]

-- a byte that begins a mark begins nothing else
record Others (b : ℕ) : Type 0 where
  white : is_white b ≡ false
  digit : is_ascii_digit b ≡ false
  letter : is_letter b ≡ false
  quote : (b == 39) ≡ false

not_so : (b : ℕ) (t : Bool) → (t ≡ true → mark_of_one b ≡ None) → (mark_of_one b ≡ None → ⊥) → t ≡ false
not_so b true h k = absurd (k (h refl))
not_so b false h k = refl

others : (b : ℕ) → (mark_of_one b ≡ None → ⊥) → Others b
others b k = record {
  white = not_so b (is_white b) (λ h. no_mark b (white_apart b h)) k;
  digit = not_so b (is_ascii_digit b) (λ h. no_mark b (digit_apart b h)) k;
  letter = not_so b (is_letter b) (λ h. no_mark b (letter_apart b h)) k;
  quote = not_so b (b == 39) (λ h. let e : b ≡ 39 = eqb-true b 39 h in rw e refl) k;
}

first_mark : (b : ℕ) (text : List ℕ) → opens_comment b text ≡ false → Others b → first_lexeme (b ∷ text) ≡ mark_by (mark_ahead b text) b
unfolding first_lexeme
first_mark b text c o = let p = or_parts (b == 45 && starts_with text 45) (b == 47 && starts_with text 42) c in rw (o.white, p.0, p.1, o.quote, o.digit, o.letter) refl

long_is_mark : (b : ℕ) (text : List ℕ) (kind : TokenKind) → mark_ahead b text ≡ Some kind → mark_of_one b ≡ None → ⊥
long_is_mark b text kind h n = let e = no_long_mark b text n in cc (h, e)

-- ---- what the cases say

first_of_blank : {text : List ℕ} {n : ℕ} → IsBlank text n → first_lexeme text ≡ Blank n
unfolding first_lexeme
first_of_blank (l.white_space h) = rw h refl
first_of_blank l.line_comment = refl
first_of_blank (l.block_comment {n = n} d) = rw (comment_is d 0 n (omega arith)) refl

word_first : (b : ℕ) (text : List ℕ) → is_letter b ≡ true → first_lexeme (b ∷ text) ≡ fr.a_word (b ∷ text)
unfolding first_lexeme
word_first b text h =
    let w : is_white b ≡ false = grind (arith, nat_tests) in
    let d : is_ascii_digit b ≡ false = grind (arith, nat_tests) in
    let m : (b == 45) ≡ false = grind (arith, nat_tests) in
    let s : (b == 47) ≡ false = grind (arith, nat_tests) in
    let q : (b == 39) ≡ false = grind (arith, nat_tests) in
    rw (w, m, s, q, d, h) refl

number_first : (b : ℕ) (text : List ℕ) → is_ascii_digit b ≡ true → first_lexeme (b ∷ text) ≡ fr.number_lexeme (b ∷ text)
unfolding first_lexeme
number_first b text h =
    let w : is_white b ≡ false = grind (arith, nat_tests) in
    let m : (b == 45) ≡ false = grind (arith, nat_tests) in
    let s : (b == 47) ≡ false = grind (arith, nat_tests) in
    let q : (b == 39) ≡ false = grind (arith, nat_tests) in
    rw (w, m, s, q, h) refl

first_of_token : {text : List ℕ} {kind : TokenKind} {n : ℕ} → IsToken text kind n → first_lexeme text ≡ Token kind n
unfolding first_lexeme
first_of_token (l.a_word {b = b} {text = text} h) = word_first b text h
first_of_token (l.a_number {b = b} {value = value} {text = text} h e below) = number_first b text h ∙ rw (digits_are 0 (b ∷ text) (lit< tt), e, lt-ltb value (2 ^ 63) (omega (arith, below))) refl
first_of_token (l.a_string {n = n} d) = rw (string_is d 0 (suc n) None refl (omega arith)) refl
first_of_token (l.a_long_mark {b = b} {text = text} {kind = kind} c h) = first_mark b text c (others b (long_is_mark b text kind h)) ∙ ap (λ o. mark_by o b) h
first_of_token (l.a_mark {b = b} {text = text} {kind = kind} c h k) = first_mark b text c (others b (λ n. cc (k, n))) ∙ ap (λ o. mark_by o b) h ∙ ap short_mark k

none_of : (o : Option TokenKind) → is_some o ≡ false → o ≡ None
none_of None h = refl
none_of (Some kind) h = absurd (cc)

-- this flaw is seen, at the distance that leads to its offset
abbrev FlawAhead : ℕ → List ℕ → TextFlaw → ℕ → Type 0
FlawAhead at text flaw offset = (n : ℕ) × (first_lexeme text ≡ Fault flaw n) × (at + n ≡ offset)

first_of_flaw : {at offset : ℕ} {text : List ℕ} {flaw : TextFlaw} → IsFlaw at text flaw offset → FlawAhead at text flaw offset
unfolding first_lexeme
first_of_flaw {at} (l.bad_character {b = b} {text = text} white none c) =
    let p = or_parts _ (is_some (mark_of_one b)) none in
    let q = or_parts _ (b == 39) p.0 in
    let r = or_parts (is_letter b) (is_ascii_digit b) q.0 in
    let no = none_of (mark_of_one b) p.1 in
    let o : Others b = record { white = white; digit = r.1; letter = r.0; quote = q.1 } in
    (0, first_mark b text c o ∙ ap (λ x. mark_by x b) (no_long_mark b text no) ∙ ap short_mark no, rw add-zero refl)
first_of_flaw {at} (l.open_string d) = (0, rw (string_open d 0 None) refl, rw add-zero refl)
first_of_flaw {at} (l.bad_escape {n = n} {bad = bad} d) = (bad, rw (string_is d 0 (suc n) None refl (omega arith)) refl, refl)
first_of_flaw {at} (l.number_too_large {b = b} {text = text} h above) =
    (0, number_first b text h ∙ rw (digits_are 0 (b ∷ text) (lit< tt), le-ltb (l.value_of (take_while is_ascii_digit (b ∷ text))) (2 ^ 63) (omega (arith, above))) refl, rw add-zero refl)
first_of_flaw {at} (l.open_comment d) = (0, rw (comment_open d 0) refl, rw add-zero refl)

-- ---- the whole text

blank_then : {text : List ℕ} {m n : ℕ} → IsBlank text m → IsBlank text n → n ≡ m
blank_then a b = let e = first_of_blank a in let f = first_of_blank b in cc (e, f)

token_then : {text : List ℕ} {j k : TokenKind} {m n : ℕ} → IsToken text j m → IsToken text k n → n ≡ m
token_then a b = let e = first_of_token a in let f = first_of_token b in cc (e, f)

token_kind : {text : List ℕ} {j k : TokenKind} {m n : ℕ} → IsToken text j m → IsToken text k n → k ≡ j
token_kind a b = let e = first_of_token a in let f = first_of_token b in cc (e, f)

blank_or_token : {text : List ℕ} {k : TokenKind} {m n : ℕ} → IsBlank text m → IsToken text k n → ⊥
blank_or_token a b = let e = first_of_blank a in let f = first_of_token b in cc (e, f)

blank_or_end : {n : ℕ} → IsBlank [] n → ⊥
unfolding first_lexeme
blank_or_end a = let e = first_of_blank a in cc (e)

token_or_end : {k : TokenKind} {n : ℕ} → IsToken [] k n → ⊥
unfolding first_lexeme
token_or_end a = let e = first_of_token a in cc (e)

blank_or_flaw : {at offset : ℕ} {text : List ℕ} {flaw : TextFlaw} {n : ℕ} → IsBlank text n → IsFlaw at text flaw offset → ⊥
blank_or_flaw a b = let e = first_of_blank a in let f = (first_of_flaw b).1 in cc (e, f)

token_or_flaw : {at offset : ℕ} {text : List ℕ} {flaw : TextFlaw} {k : TokenKind} {n : ℕ} → IsToken text k n → IsFlaw at text flaw offset → ⊥
token_or_flaw a b = let e = first_of_token a in let f = (first_of_flaw b).1 in cc (e, f)

-- two flaws that are one, at one place
abbrev Same : TextFlaw → TextFlaw → ℕ → ℕ → Type 0
Same one two here there = (one ≡ two) × (here ≡ there)

same_flaw : {at here there : ℕ} {text : List ℕ} {one two : TextFlaw} → IsFlaw at text one here → IsFlaw at text two there → Same one two here there
same_flaw {at} {here} {there} {text} {one} {two} a b =
    let x = first_of_flaw a in
    let y = first_of_flaw b in
    let e = x.1 in
    let f = y.1 in
    let n : x.0 ≡ y.0 = cc (e, f) in
    let flaw : one ≡ two = cc (e, f) in
    (flaw, sym x.2 ∙ rw n y.2)

flaw_or_end : {at offset : ℕ} {flaw : TextFlaw} → IsFlaw at [] flaw offset → ⊥
unfolding first_lexeme
flaw_or_end a = let e = (first_of_flaw a).1 in cc (e)

-- a text has at most one list of tokens
pub one_token_list : {at : ℕ} {text : List ℕ} {vs : List Terminal} → LexesFrom at text vs → (ws : List Terminal) → LexesFrom at text ws → vs ≡ ws
one_token_list l.at_end ws l.at_end = refl
one_token_list l.at_end ws (l.blank k d) = absurd (blank_or_end k)
one_token_list l.at_end ws (l.token k d) = absurd (token_or_end k)
one_token_list (l.blank h c) ws l.at_end = absurd (blank_or_end h)
one_token_list {at} {text} (l.blank {n = m} h c) ws (l.blank {n = n} k d) = one_token_list c ws (subst (λ (i : ℕ). LexesFrom (at + i) (drop i text) ws) (blank_then h k) d)
one_token_list (l.blank h c) ws (l.token k d) = absurd (blank_or_token h k)
one_token_list (l.token h c) ws l.at_end = absurd (token_or_end h)
one_token_list (l.token h c) ws (l.blank k d) = absurd (blank_or_token k h)
one_token_list {at} {text} (l.token {n = m} {kind = a} h c) ws (l.token {n = n} {kind = b} {ts = us} k d) =
    let rest = one_token_list c us (subst (λ (i : ℕ). LexesFrom (at + i) (drop i text) us) (token_then h k) d) in
    rw (token_then h k, token_kind h k, rest) refl

-- a text that has tokens has no flaw
pub tokens_or_flaw : {at offset : ℕ} {text : List ℕ} {flaw : TextFlaw} {ws : List Terminal} → LexesFrom at text ws → HasFlawFrom at text flaw offset → ⊥
tokens_or_flaw l.at_end (l.here k) = flaw_or_end k
tokens_or_flaw l.at_end (l.past_blank k d) = blank_or_end k
tokens_or_flaw l.at_end (l.past_token k d) = token_or_end k
tokens_or_flaw (l.blank h c) (l.here k) = blank_or_flaw h k
tokens_or_flaw {at} {offset} {text} {flaw} (l.blank h c) (l.past_blank k d) = tokens_or_flaw c (subst (λ (i : ℕ). HasFlawFrom (at + i) (drop i text) flaw offset) (blank_then h k) d)
tokens_or_flaw (l.blank h c) (l.past_token k d) = blank_or_token h k
tokens_or_flaw (l.token h c) (l.here k) = token_or_flaw h k
tokens_or_flaw (l.token h c) (l.past_blank k d) = blank_or_token k h
tokens_or_flaw {at} {offset} {text} {flaw} (l.token h c) (l.past_token k d) = tokens_or_flaw c (subst (λ (i : ℕ). HasFlawFrom (at + i) (drop i text) flaw offset) (token_then h k) d)

-- a text has at most one flaw, at one place
pub one_flaw : {at here : ℕ} {text : List ℕ} {one : TextFlaw} → HasFlawFrom at text one here → (two : TextFlaw) (there : ℕ) → HasFlawFrom at text two there → Same one two here there
one_flaw (l.here h) two there (l.here k) = same_flaw h k
one_flaw (l.here h) two there (l.past_blank k d) = absurd (blank_or_flaw k h)
one_flaw (l.here h) two there (l.past_token k d) = absurd (token_or_flaw k h)
one_flaw (l.past_blank h c) two there (l.here k) = absurd (blank_or_flaw h k)
one_flaw {at} {here} {text} (l.past_blank h c) two there (l.past_blank k d) = one_flaw c two there (subst (λ (i : ℕ). HasFlawFrom (at + i) (drop i text) two there) (blank_then h k) d)
one_flaw (l.past_blank h c) two there (l.past_token k d) = absurd (blank_or_token h k)
one_flaw (l.past_token h c) two there (l.here k) = absurd (token_or_flaw h k)
one_flaw (l.past_token h c) two there (l.past_blank k d) = absurd (blank_or_token k h)
one_flaw {at} {here} {text} (l.past_token h c) two there (l.past_token k d) = one_flaw c two there (subst (λ (i : ℕ). HasFlawFrom (at + i) (drop i text) two there) (token_then h k) d)
