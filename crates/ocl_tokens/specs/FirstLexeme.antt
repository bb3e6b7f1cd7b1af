-- What a text begins with, as a function of its bytes that the scan follows.
use Rattle.std.specs.Prelude.{ℕ, ◌+◌, ◌*◌, ◌-◌, ◌^◌, Bool, false, not, ◌&&◌, ◌==◌, nat_lt, if◌then◌else◌, List, [], ◌∷◌, ◌<◌, ◌≤◌, length, take_while, drop, slice_index, Option, Some, None}
use Rattle.std.specs.List.{prefix_len}
use Rattle.std.specs.Str.{IsCharBoundary}
use Rattle.std.specs.Char.{is_ascii_digit}
use Rattle.ocl_tokens.specs.declared.token.TokenKind.{TokenKind}
use Rattle.ocl_tokens.specs.declared.token.TokenKind.TheVariants.{Number, String}
use Rattle.ocl_tokens.specs.declared.fault.TextFlaw.TheVariants.{BadCharacter, OpenString, BadEscape, NumberTooLarge, OpenComment}
use Rattle.ocl_tokens.specs.declared.lexeme.Lexeme.{Lexeme}
use Rattle.ocl_tokens.specs.declared.lexeme.Lexeme.TheVariants.{End, Blank, Token, Fault}
use Rattle.ocl_base.specs.Words.{is_letter, is_letter_or_digit}
use Rattle.ocl_tokens.specs.Lexical.{is_white, in_line, is_escape, starts_with, word_kind, mark_ahead, mark_of_one, ends_comment}

-- after the opening of a comment and `at` bytes more: how many bytes there are through its end
unfoldable pub comment_from : ℕ → List ℕ → Option ℕ
comment_from at [] = None
comment_from at (b ∷ bs) = if ends_comment b bs then Some (at + 2) else comment_from (at + 1) bs

-- the first bad escape, after the byte that follows `at` bytes of the string
abbrev pub bad_after : Bool → Option ℕ → ℕ → ℕ → Option ℕ
bad_after escaped (Some place) at b = Some place
bad_after escaped None at b = if escaped && not (is_escape b) then Some at else None

-- After the opening quote and `at` bytes more: how long the string is with both quotes, and how far from the opening
-- quote its first bad escape lies.
unfoldable pub string_from : Bool → Option ℕ → ℕ → List ℕ → Option (ℕ × Option ℕ)
string_from escaped bad at [] = None
string_from escaped bad at (b ∷ bs) =
    if not escaped && b == 39 then Some (at + 2, bad) else string_from (not escaped && b == 92) (bad_after escaped bad at b) (at + 1) bs

-- what the digits at the beginning write after this number; none past the limit
unfoldable pub digits_after : ℕ → List ℕ → Option ℕ
digits_after value [] = Some value
digits_after value (b ∷ bs) =
    if not (is_ascii_digit b) then Some value
    else (if nat_lt (value * 10 + (b - 48)) (2 ^ 63) then digits_after (value * 10 + (b - 48)) bs else None)

abbrev pub number_value : List ℕ → Option ℕ
number_value bytes = digits_after 0 bytes

abbrev pub short_mark : Option TokenKind → Lexeme
short_mark None = Fault BadCharacter 0
short_mark (Some kind) = Token kind 1

abbrev pub mark_by : Option TokenKind → ℕ → Lexeme
mark_by None first = short_mark (mark_of_one first)
mark_by (Some kind) first = Token kind 2

abbrev pub mark : ℕ → List ℕ → Lexeme
mark first rest = mark_by (mark_ahead first rest) first

abbrev pub string_by : Option (ℕ × Option ℕ) → Lexeme
string_by None = Fault OpenString 0
string_by (Some (len, None)) = Token String len
string_by (Some (len, Some at)) = Fault BadEscape at

abbrev pub string : List ℕ → Lexeme
string rest = string_by (string_from false None 0 rest)

abbrev pub comment_by : Option ℕ → Lexeme
comment_by None = Fault OpenComment 0
comment_by (Some len) = Blank (len + 2)

abbrev pub comment : List ℕ → Lexeme
comment rest = comment_by (comment_from 0 rest)

abbrev pub number_by : Option ℕ → ℕ → Lexeme
number_by None len = Fault NumberTooLarge 0
number_by (Some value) len = Token (Number value) len

abbrev pub number_lexeme : List ℕ → Lexeme
number_lexeme bytes = number_by (number_value bytes) (prefix_len is_ascii_digit bytes)

abbrev pub a_word : List ℕ → Lexeme
a_word bytes = Token (word_kind (take_while is_letter_or_digit bytes)) (prefix_len is_letter_or_digit bytes)

abbrev pub lexeme_at : ℕ → List ℕ → Lexeme
lexeme_at b bs =
    if is_white b then Blank 1
    else (if b == 45 && starts_with bs 45 then Blank (prefix_len in_line (b ∷ bs))
    else (if b == 47 && starts_with bs 42 then comment (drop 1 bs)
    else (if b == 39 then string bs
    else (if is_ascii_digit b then number_lexeme (b ∷ bs)
    else (if is_letter b then a_word (b ∷ bs)
    else mark b bs)))))

-- what a text begins with
unfoldable pub first_lexeme : List ℕ → Lexeme
first_lexeme [] = End
first_lexeme (b ∷ bs) = lexeme_at b bs

-- the last byte is ASCII
abbrev pub LastIsAscii : ℕ → List ℕ → Type 0
LastIsAscii n bytes = (0 < n) × (n ≤ length bytes) × (slice_index bytes (n - 1) < 128)

abbrev pub EndsInAscii : Lexeme → List ℕ → Type 0
EndsInAscii (Blank n) bytes = LastIsAscii n bytes
EndsInAscii (Token kind n) bytes = LastIsAscii n bytes
EndsInAscii (Fault flaw n) bytes = n ≤ length bytes
EndsInAscii End bytes = Unit {0}

-- it ends where a character does; a flaw lies within
abbrev pub EndsAtBoundary : Lexeme → List ℕ → Type 0
EndsAtBoundary End bytes = Unit {0}
EndsAtBoundary (Blank n) bytes = (0 < n) × IsCharBoundary bytes n
EndsAtBoundary (Token kind n) bytes = (0 < n) × IsCharBoundary bytes n
EndsAtBoundary (Fault flaw n) bytes = n ≤ length bytes
