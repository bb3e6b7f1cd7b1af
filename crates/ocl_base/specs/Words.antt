-- Identifiers, reserved words and names. A text is the list of its bytes.
use Rattle.std.specs.Prelude.{ℕ, ◌&&◌, ◌||◌, ◌==◌, List, [], ◌∷◌, Bool, false, not, codes, bytes_eq}
use Rattle.std.specs.List.{list_all}
use Rattle.std.specs.Char.{is_ascii_alphabetic, is_ascii_digit}
use Rattle.ocl_base.specs.Lists.{is_among}

-- an ASCII letter or `_`
abbrev pub is_letter : ℕ → Bool
is_letter b = is_ascii_alphabetic b || b == 95

abbrev pub is_letter_or_digit : ℕ → Bool
is_letter_or_digit b = is_letter b || is_ascii_digit b

abbrev pub begins_with_letter : List ℕ → Bool
begins_with_letter [] = false
begins_with_letter (b ∷ bs) = is_letter b

-- a letter, then letters and digits
unfoldable pub is_identifier : List ℕ → Bool
is_identifier text = begins_with_letter text && list_all is_letter_or_digit text

-- the words that OCL keeps for itself
abbrev pub reserved_words : List (List ℕ)
reserved_words =
    codes "and" ∷ codes "context" ∷ codes "div" ∷ codes "else" ∷ codes "endif" ∷ codes "false" ∷ codes "if"
    ∷ codes "implies" ∷ codes "in" ∷ codes "inv" ∷ codes "invalid" ∷ codes "let" ∷ codes "mod" ∷ codes "not"
    ∷ codes "null" ∷ codes "or" ∷ codes "self" ∷ codes "then" ∷ codes "true" ∷ codes "xor" ∷ []

unfoldable pub is_reserved : List ℕ → Bool
is_reserved text = is_among bytes_eq reserved_words text

-- what may name something: an identifier that isn't reserved
unfoldable pub is_name : List ℕ → Bool
is_name text = is_identifier text && not (is_reserved text)
