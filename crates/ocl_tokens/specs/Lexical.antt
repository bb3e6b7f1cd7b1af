-- The tokens of a text, by cases on its first bytes.
use Rattle.std.specs.Prelude.{◌≡◌, ℕ, suc, ◌+◌, ◌*◌, ◌-◌, ◌<◌, ◌≤◌, Bool, true, false, not, ◌&&◌, ◌||◌, ◌==◌, if◌then◌else◌, List, [], ◌∷◌, take, take_while, drop, fold, is_some, Option, Some, None, codes}
use Rattle.std.specs.List.{prefix_len, list_any}
use Rattle.std.specs.Str.{bytes_eq}
use Rattle.std.specs.Char.{is_ascii_digit}
use Rattle.ocl_base.specs.Words.{is_letter, is_letter_or_digit}
use Rattle.ocl_tokens.specs.declared.token.TheConstants.{MAX_NUMBER}
use Rattle.ocl_tokens.specs.declared.token.TokenKind.{TokenKind}
use Rattle.ocl_tokens.specs.declared.token.TokenKind.TheVariants.{Identifier, Number, String, And, Context, Div, Else, Endif, False, If, Implies, In, Inv, Invalid, Let, Mod, Not, Null, Or, SelfObject, Then, True, Xor, Open, Close, Comma, Dot, Colon, ColonColon, Semicolon, Bar, Arrow, Plus, Minus, Star, Equal, NotEqual, Less, LessEqual, Greater, GreaterEqual}
use Rattle.ocl_tokens.specs.declared.fault.TextFlaw.{TextFlaw}
use Rattle.ocl_tokens.specs.declared.fault.TextFlaw.TheVariants.{BadCharacter, OpenString, BadEscape, NumberTooLarge, OpenComment}
use Rattle.ocl_tokens.specs.declared.fault.TextFault.{TextFault}
use Rattle.ocl_tokens.specs.declared.fault.TextFault.TheVariants.{At, OutOfMemory}
use Rattle.ocl_tokens.specs.Terminals.{Terminal}

-- ---- bytes

-- white space: space, tab, line feed, form feed, carriage return
abbrev pub white_bytes : List ℕ
white_bytes = 32 ∷ 9 ∷ 10 ∷ 12 ∷ 13 ∷ []

abbrev pub is_white : ℕ → Bool
is_white b = list_any (λ w. b == w) white_bytes

-- a line ends at a line feed alone
abbrev pub in_line : ℕ → Bool
in_line b = not (b == 10)

-- the eight escapes: a backslash before b t n f r " ' or a backslash
abbrev pub escape_bytes : List ℕ
escape_bytes = 98 ∷ 116 ∷ 110 ∷ 102 ∷ 114 ∷ 34 ∷ 39 ∷ 92 ∷ []

abbrev pub is_escape : ℕ → Bool
is_escape b = list_any (λ e. b == e) escape_bytes

abbrev pub starts_with : List ℕ → ℕ → Bool
starts_with [] byte = false
starts_with (b ∷ bs) byte = b == byte

-- ---- terminals, numbers, marks

-- the words that are reserved, each with its kind
abbrev pub reserved_kinds : List (List ℕ × TokenKind)
reserved_kinds =
    (codes "and", And)
    ∷ (codes "context", Context)
    ∷ (codes "div", Div)
    ∷ (codes "else", Else)
    ∷ (codes "endif", Endif)
    ∷ (codes "false", False)
    ∷ (codes "if", If)
    ∷ (codes "implies", Implies)
    ∷ (codes "in", In)
    ∷ (codes "inv", Inv)
    ∷ (codes "invalid", Invalid)
    ∷ (codes "let", Let)
    ∷ (codes "mod", Mod)
    ∷ (codes "not", Not)
    ∷ (codes "null", Null)
    ∷ (codes "or", Or)
    ∷ (codes "self", SelfObject)
    ∷ (codes "then", Then)
    ∷ (codes "true", True)
    ∷ (codes "xor", Xor) ∷ []

-- the kind that stands with a word; without a row it is an identifier
abbrev pub kind_among : List (List ℕ × TokenKind) → List ℕ → TokenKind
kind_among [] text = Identifier
kind_among (row ∷ rows) text = if bytes_eq text row.0 then row.1 else kind_among rows text

abbrev pub word_kind : List ℕ → TokenKind
word_kind text = kind_among reserved_kinds text

-- what digits write; leading zeros are read
abbrev pub value_of : List ℕ → ℕ
value_of digits = fold (λ value digit. value * 10 + (digit - 48)) 0 digits

-- the marks of two bytes: :: -> <> <= >=
abbrev pub mark_of_two : ℕ → ℕ → Option TokenKind
mark_of_two first second =
    if first == 58 && second == 58 then Some ColonColon
    else (if first == 45 && second == 62 then Some Arrow
    else (if first == 60 && second == 62 then Some NotEqual
    else (if first == 60 && second == 61 then Some LessEqual
    else (if first == 62 && second == 61 then Some GreaterEqual
    else None))))

-- the marks of one byte: ( ) , . : ; | + - * = < >
abbrev pub mark_of_one : ℕ → Option TokenKind
mark_of_one first =
    if first == 40 then Some Open
    else (if first == 41 then Some Close
    else (if first == 44 then Some Comma
    else (if first == 46 then Some Dot
    else (if first == 58 then Some Colon
    else (if first == 59 then Some Semicolon
    else (if first == 124 then Some Bar
    else (if first == 43 then Some Plus
    else (if first == 45 then Some Minus
    else (if first == 42 then Some Star
    else (if first == 61 then Some Equal
    else (if first == 60 then Some Less
    else (if first == 62 then Some Greater
    else None))))))))))))

-- the mark of two bytes that a text begins with
abbrev pub mark_ahead : ℕ → List ℕ → Option TokenKind
mark_ahead first [] = None
mark_ahead first (second ∷ text) = mark_of_two first second

-- `--` begins a comment, before any mark does; `/*` does too
abbrev pub opens_comment : ℕ → List ℕ → Bool
opens_comment first text = (first == 45 && starts_with text 45) || (first == 47 && starts_with text 42)

-- ---- comments and strings, which may run over any bytes

-- `*/` stands here
abbrev pub ends_comment : ℕ → List ℕ → Bool
ends_comment first text = first == 42 && starts_with text 47

-- after `/*`: the comment ends with the first `*/`, after this many bytes; comments don't nest
pub data CommentEnds : List ℕ → ℕ → Type 0 where
  here : {b : ℕ} {text : List ℕ} → ends_comment b text ≡ true → CommentEnds (b ∷ text) 2
  later : {b n : ℕ} {text : List ℕ} → ends_comment b text ≡ false → CommentEnds text n → CommentEnds (b ∷ text) (suc n)

-- after `/*`: no `*/` follows
pub data CommentStaysOpen : List ℕ → Type 0 where
  at_end : CommentStaysOpen []
  later : {b : ℕ} {text : List ℕ} → ends_comment b text ≡ false → CommentStaysOpen text → CommentStaysOpen (b ∷ text)

-- A byte of a string that stands for itself.
abbrev pub is_plain : ℕ → Bool
is_plain b = not (b == 39) && not (b == 92)

-- Inside a string, `past` bytes behind its quote: it closes at the first quote that is part of no escape, n bytes
-- further on. An escape is two bytes wide, good or bad; `bad` is the distance of the first bad one from the quote, if
-- there is one.
pub data StringCloses : ℕ → List ℕ → ℕ → Option ℕ → Type 0 where
  quote : {past : ℕ} {text : List ℕ} → StringCloses past (39 ∷ text) 1 None
  plain : {past b n : ℕ} {text : List ℕ} {bad : Option ℕ} → is_plain b ≡ true → StringCloses (past + 1) text n bad → StringCloses past (b ∷ text) (suc n) bad
  escape : {past b n : ℕ} {text : List ℕ} {bad : Option ℕ} → is_escape b ≡ true → StringCloses (past + 2) text n bad → StringCloses past (92 ∷ b ∷ text) (suc (suc n)) bad
  bad_escape : {past b n : ℕ} {text : List ℕ} {bad : Option ℕ} → is_escape b ≡ false → StringCloses (past + 2) text n bad → StringCloses past (92 ∷ b ∷ text) (suc (suc n)) (Some past)

-- inside a string: no closing quote follows
pub data StringStaysOpen : List ℕ → Type 0 where
  at_end : StringStaysOpen []
  lone : StringStaysOpen (92 ∷ [])
  plain : {b : ℕ} {text : List ℕ} → is_plain b ≡ true → StringStaysOpen text → StringStaysOpen (b ∷ text)
  escape : {b : ℕ} {text : List ℕ} → StringStaysOpen text → StringStaysOpen (92 ∷ b ∷ text)

-- ---- what a text begins with

-- the first bytes of a text, as many as are given, are no token: white space or a comment
pub data IsBlank : List ℕ → ℕ → Type 0 where
  white_space : {b : ℕ} {text : List ℕ} → is_white b ≡ true → IsBlank (b ∷ text) 1
  line_comment : {text : List ℕ} → IsBlank (45 ∷ 45 ∷ text) (prefix_len in_line (45 ∷ 45 ∷ text))
  block_comment : {n : ℕ} {text : List ℕ} → CommentEnds text n → IsBlank (47 ∷ 42 ∷ text) (n + 2)

-- the first bytes of a text, as many as are given, are a token of this kind: the longest that fits
pub data IsToken : List ℕ → TokenKind → ℕ → Type 0 where
  a_word : {b : ℕ} {text : List ℕ} → is_letter b ≡ true → IsToken (b ∷ text) (word_kind (take_while is_letter_or_digit (b ∷ text))) (prefix_len is_letter_or_digit (b ∷ text))
  a_number : {b value : ℕ} {text : List ℕ} → is_ascii_digit b ≡ true → value_of (take_while is_ascii_digit (b ∷ text)) ≡ value → value ≤ MAX_NUMBER → IsToken (b ∷ text) (Number value) (prefix_len is_ascii_digit (b ∷ text))
  a_string : {n : ℕ} {text : List ℕ} → StringCloses 1 text n None → IsToken (39 ∷ text) String (suc n)
  a_long_mark : {b : ℕ} {text : List ℕ} {kind : TokenKind} → opens_comment b text ≡ false → mark_ahead b text ≡ Some kind → IsToken (b ∷ text) kind 2
  a_mark : {b : ℕ} {text : List ℕ} {kind : TokenKind} → opens_comment b text ≡ false → mark_ahead b text ≡ None → mark_of_one b ≡ Some kind → IsToken (b ∷ text) kind 1

-- a byte that begins a token
abbrev pub begins_token : ℕ → Bool
begins_token b = ((is_letter b || is_ascii_digit b) || b == 39) || is_some (mark_of_one b)

-- the text, which begins at this offset, begins with no token: what is wrong, and where
pub data IsFlaw : ℕ → List ℕ → TextFlaw → ℕ → Type 0 where
  bad_character : {from b : ℕ} {text : List ℕ} → is_white b ≡ false → begins_token b ≡ false → opens_comment b text ≡ false → IsFlaw from (b ∷ text) BadCharacter from
  open_string : {from : ℕ} {text : List ℕ} → StringStaysOpen text → IsFlaw from (39 ∷ text) OpenString from
  bad_escape : {from n bad : ℕ} {text : List ℕ} → StringCloses 1 text n (Some bad) → IsFlaw from (39 ∷ text) BadEscape (from + bad)
  number_too_large : {from b : ℕ} {text : List ℕ} → is_ascii_digit b ≡ true → MAX_NUMBER < value_of (take_while is_ascii_digit (b ∷ text)) → IsFlaw from (b ∷ text) NumberTooLarge from
  open_comment : {from : ℕ} {text : List ℕ} → CommentStaysOpen text → IsFlaw from (47 ∷ 42 ∷ text) OpenComment from

-- ---- the whole text

-- the text that begins at this offset has these tokens
pub data LexesFrom : ℕ → List ℕ → List Terminal → Type 0 where
  at_end : {from : ℕ} → LexesFrom from [] []
  blank : {from n : ℕ} {text : List ℕ} {ts : List Terminal} → IsBlank text n → LexesFrom (from + n) (drop n text) ts → LexesFrom from text ts
  token : {from n : ℕ} {kind : TokenKind} {text : List ℕ} {ts : List Terminal} → IsToken text kind n → LexesFrom (from + n) (drop n text) ts → LexesFrom from text (record { kind = kind; offset = from; text = take n text } ∷ ts)

-- the text that begins at this offset has this flaw first
pub data HasFlawFrom : ℕ → List ℕ → TextFlaw → ℕ → Type 0 where
  here : {from offset : ℕ} {text : List ℕ} {flaw : TextFlaw} → IsFlaw from text flaw offset → HasFlawFrom from text flaw offset
  past_blank : {from offset n : ℕ} {text : List ℕ} {flaw : TextFlaw} → IsBlank text n → HasFlawFrom (from + n) (drop n text) flaw offset → HasFlawFrom from text flaw offset
  past_token : {from offset n : ℕ} {kind : TokenKind} {text : List ℕ} {flaw : TextFlaw} → IsToken text kind n → HasFlawFrom (from + n) (drop n text) flaw offset → HasFlawFrom from text flaw offset

-- the text has these tokens
abbrev pub Lexes : List ℕ → List Terminal → Type 0
Lexes text ts = LexesFrom 0 text ts

-- the text has this flaw, one of 1 to 5, and at this offset, before any other
abbrev pub HasFlaw : List ℕ → TextFlaw → ℕ → Type 0
HasFlaw text flaw offset = HasFlawFrom 0 text flaw offset

-- what a refusal says of the text; nothing where memory ran out
abbrev pub IsLexicalFault : List ℕ → TextFault → Type 0
IsLexicalFault text OutOfMemory = Unit {0}
IsLexicalFault text (At flaw offset) = HasFlaw text flaw offset
