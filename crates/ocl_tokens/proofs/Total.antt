-- Each text has tokens or a fault, and how tokens of some kinds are written.
use Rattle.std.proofs.Common.{◌≡◌, ℕ, zero, suc, ◌+◌, ◌<◌, ◌≤◌, Bool, true, false, ◌&&◌, List, [], ◌∷◌, length, map, take, take_while, drop, bytes_eq, Option, Some, None, ◌==◌, refl, subst, ◌⊎◌, inl, inr, arith}
use Rattle.std.specs.Prelude.{if◌then◌else◌}
use Rattle.std.proofs.lemmas.Bool.{cases_Bool, or_parts, le-leb}
use Rattle.std.proofs.lemmas.List.{length-drop}
use Rattle.std.proofs.lemmas.List.Sums.{take_while-cons}
use Rattle.std.proofs.lemmas.Slice.Eq.{bytes_eq-Decides}
use Rattle.std.specs.List.{list_any, list_all}
use Rattle.std.specs.Char.{is_ascii_digit}
use Rattle.ocl_base.specs.Words.{is_letter, is_letter_or_digit, is_identifier, is_reserved, is_name}
use Rattle.ocl_tokens.specs.declared.token.TokenKind.{TokenKind}
use Rattle.ocl_tokens.specs.declared.token.TokenKind.TheVariants as k
use Rattle.ocl_tokens.specs.declared.fault.TextFlaw.{TextFlaw}
use Rattle.ocl_tokens.specs.declared.lexeme.Lexeme.{Lexeme}
use Rattle.ocl_tokens.specs.declared.lexeme.Lexeme.TheVariants.{End, Blank, Token, Fault}
use Rattle.ocl_tokens.specs.Terminals.{Terminal}
use Rattle.ocl_tokens.specs.Written.{is_written}
use Rattle.ocl_tokens.specs.Lexical as l
use Rattle.ocl_tokens.specs.Lexical.{in_line, reserved_kinds, kind_among, word_kind, mark_of_two, mark_ahead, mark_of_one, IsBlank, IsToken, LexesFrom, HasFlawFrom}
use Rattle.ocl_tokens.specs.FirstLexeme.{first_lexeme}
use Rattle.ocl_tokens.proofs.Boundaries.{run_some}
use Rattle.ocl_tokens.proofs.Lexemes.{Fits, first_fits}

-- ---- a text has tokens or a fault

-- what comes between tokens takes a byte
shorter_blank : {n : ℕ} {text : List ℕ} → IsBlank text n → length (drop n text) < length text
shorter_blank {n} {text} d = let e = length-drop n text in let f = there d in omega (arith, e, f.0, f.1)
  where
    there : {m : ℕ} {bytes : List ℕ} → IsBlank bytes m → (0 < m) × (0 < length bytes)
    there (l.white_space h) = (omega arith, omega arith)
    there (l.line_comment {text = text}) = (run_some in_line 45 (45 ∷ text) refl, omega arith)
    there (l.block_comment d) = (omega arith, omega arith)

-- so does a token
shorter_token : {n : ℕ} {kind : TokenKind} {text : List ℕ} → IsToken text kind n → length (drop n text) < length text
shorter_token {n} {kind} {text} d = let e = length-drop n text in let f = there d in omega (arith, e, f.0, f.1)
  where
    there : {m : ℕ} {some : TokenKind} {bytes : List ℕ} → IsToken bytes some m → (0 < m) × (0 < length bytes)
    there (l.a_word {b = b} {text = text} h) = (run_some is_letter_or_digit b text (rw h refl), omega arith)
    there (l.a_number {b = b} {text = text} h e below) = (run_some is_ascii_digit b text h, omega arith)
    there (l.a_string d) = (omega arith, omega arith)
    there (l.a_long_mark c h) = (omega arith, omega arith)
    there (l.a_mark c h k) = (omega arith, omega arith)

abbrev Either : ℕ → List ℕ → Type 0
Either from text = ((ts : List Terminal) × LexesFrom from text ts) ⊎ ((flaw : TextFlaw) × (offset : ℕ) × HasFlawFrom from text flaw offset)

after_blank : {from n : ℕ} {text : List ℕ} → IsBlank text n → Either (from + n) (drop n text) → Either from text
after_blank d (inl x) = inl (x.0, l.blank d x.1)
after_blank d (inr x) = inr (x.0, x.1, l.past_blank d x.2)

after_token : {from n : ℕ} {kind : TokenKind} {text : List ℕ} → IsToken text kind n → Either (from + n) (drop n text) → Either from text
after_token {from} {n} {kind} {text} d (inl x) = inl (record { kind = kind; offset = from; text = take n text } ∷ x.0, l.token d x.1)
after_token d (inr x) = inr (x.0, x.1, l.past_token d x.2)

-- by the count of bytes
total : (bytes from : ℕ) (text : List ℕ) → length text ≤ bytes → Either from text
total bytes from [] h = inl ([], l.at_end)
total zero from (b ∷ text) h = absurd (omega (arith, h))
total (suc bytes) from (b ∷ text) h = by (first_lexeme (b ∷ text)) (first_fits (b ∷ text)) (λ n shorter. total bytes (from + n) (drop n (b ∷ text)) (omega (arith, h, shorter)))
  where
    by : (x : Lexeme) → Fits (b ∷ text) x → ((n : ℕ) → length (drop n (b ∷ text)) < length (b ∷ text) → Either (from + n) (drop n (b ∷ text))) → Either from (b ∷ text)
    by End d rest = absurd (cc (d))
    by (Blank n) d rest = after_blank d (rest n (shorter_blank d))
    by (Token kind n) d rest = after_token d (rest n (shorter_token d))
    by (Fault flaw n) d rest = inr (flaw, from + n, l.here (d from))

-- each text has tokens or a fault
pub tokens_or_a_fault : (text : List ℕ) → Either 0 text
tokens_or_a_fault text = total (length text) 0 text (omega arith)

-- ---- identifiers aren't reserved

abbrev names : TokenKind → Bool
names k.Identifier = true
names _ = false

-- a word without a row is none of the words
no_row : (rows : List (List ℕ × TokenKind)) → list_any (λ row. names row.1) rows ≡ false → (text : List ℕ) → kind_among rows text ≡ k.Identifier → list_any (bytes_eq text) (map (λ row. row.0) rows) ≡ false
no_row [] h text e = refl
no_row (row ∷ rows) h text e =
    let none = or_parts (names row.1) (list_any (λ r. names r.1) rows) h in
    elim (cases_Bool (bytes_eq text row.0)) [
      | inl t ↦ let is = rw t at e in let n = rw is at none.0 in absurd (cc (n))
      | inr t ↦ rw t (no_row rows none.1 text (rw t at e))
    ]

-- a word that is an identifier is not reserved
pub no_reserved_identifier : (text : List ℕ) → word_kind text ≡ k.Identifier → is_reserved text ≡ false
unfolding is_reserved
no_reserved_identifier text e = no_row reserved_kinds refl text e

-- ---- what a token's type keeps

-- a word with a row is written as that row says
row_written : (rows : List (List ℕ × TokenKind)) → list_all (λ row. is_written row.1 row.0) rows ≡ true → (text : List ℕ) → (kind_among rows text ≡ k.Identifier → is_name text ≡ true) → is_written (kind_among rows text) text ≡ true
row_written [] h text named = named refl
row_written (row ∷ rows) h text named = elim (cases_Bool (is_written row.1 row.0)) [
  | inr f ↦ let g = rw f at h in absurd (cc (g))
  | inl f ↦ elim (cases_Bool (bytes_eq text row.0)) [
    | inl t ↦ rw t (rw ((bytes_eq-Decides text row.0).0 t) f)
    | inr t ↦ rw t (row_written rows (rw f at h) text (rw t at named))
  ]
]

taken_pass : (p : ℕ → Bool) (text : List ℕ) → list_all p (take_while p text) ≡ true
taken_pass p [] = refl
taken_pass p (b ∷ text) = elim (cases_Bool (p b)) [
  | inl t ↦ rw (take_while-cons p b text, t) (rw t (taken_pass p text))
  | inr t ↦ rw (take_while-cons p b text, t) refl
]

word_identifier : (b : ℕ) (text : List ℕ) → is_letter b ≡ true → is_identifier (take_while is_letter_or_digit (b ∷ text)) ≡ true
unfolding is_identifier
word_identifier b text h =
    let first : is_letter_or_digit b ≡ true = rw h refl in
    let rest = taken_pass is_letter_or_digit text in
    rw (take_while-cons is_letter_or_digit b text, first) (rw h rest)

word_name : (text : List ℕ) → is_identifier text ≡ true → word_kind text ≡ k.Identifier → is_name text ≡ true
unfolding is_name
word_name text h e = rw (h, no_reserved_identifier text e) refl

-- marks are written in one way
abbrev MarkOnly : Option TokenKind → Type 0
MarkOnly None = Unit {0}
MarkOnly (Some kind) = (text : List ℕ) → is_written kind text ≡ true

either_mark : (t : Bool) (o p : Option TokenKind) → MarkOnly o → MarkOnly p → MarkOnly (if t then o else p)
either_mark true o p g h = g
either_mark false o p g h = h

two_bytes : (a b : ℕ) → MarkOnly (mark_of_two a b)
two_bytes a b =
    either_mark (a == 58 && b == 58) _ _ (λ text. refl) (either_mark (a == 45 && b == 62) _ _ (λ text. refl) (either_mark (a == 60 && b == 62) _ _ (λ text. refl)
    (either_mark (a == 60 && b == 61) _ _ (λ text. refl) (either_mark (a == 62 && b == 61) _ _ (λ text. refl) tt))))

ahead_mark : (a : ℕ) (text : List ℕ) → MarkOnly (mark_ahead a text)
ahead_mark a [] = tt
ahead_mark a (b ∷ text) = two_bytes a b

one_byte : (a : ℕ) → MarkOnly (mark_of_one a)
one_byte a =
    either_mark (a == 40) _ _ (λ text. refl) (either_mark (a == 41) _ _ (λ text. refl) (either_mark (a == 44) _ _ (λ text. refl) (either_mark (a == 46) _ _ (λ text. refl)
    (either_mark (a == 58) _ _ (λ text. refl) (either_mark (a == 59) _ _ (λ text. refl) (either_mark (a == 124) _ _ (λ text. refl) (either_mark (a == 43) _ _ (λ text. refl) (either_mark (a == 45) _ _ (λ text. refl)
    (either_mark (a == 42) _ _ (λ text. refl) (either_mark (a == 61) _ _ (λ text. refl) (either_mark (a == 60) _ _ (λ text. refl) (either_mark (a == 62) _ _ (λ text. refl) tt))))))))))))

-- each token is written as its kind asks
pub token_written : {n : ℕ} {kind : TokenKind} {text : List ℕ} → IsToken text kind n → is_written kind (take n text) ≡ true
token_written (l.a_word {b = b} {text = text} h) =
    let word = take_while is_letter_or_digit (b ∷ text) in
    row_written reserved_kinds refl word (word_name word (word_identifier b text h))
token_written (l.a_number h e below) = rw (le-leb _ _ below) refl
token_written (l.a_string d) = refl
token_written (l.a_long_mark {b = b} {text = text} c h) = subst MarkOnly h (ahead_mark b text) _
token_written (l.a_mark {b = b} c h k) = subst MarkOnly k (one_byte b) _
