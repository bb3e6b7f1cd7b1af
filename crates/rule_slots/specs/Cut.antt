-- Texts that are cut.
use Rattle.std.specs.Prelude.{◌≡◌, ℕ, ◌-◌, ℤ, pos, ◌&&◌, List, ◌++◌, length, nat_le, Option, Some, None, if◌then◌else◌, encode_utf8_all}
use Rattle.std.specs.Str.{IsUtf8}

-- a text ends with another, which begins where a character does
abbrev pub IsRestOf : List ℕ → List ℕ → Type 0
IsRestOf rest bytes = IsUtf8 rest × (front : List ℕ) × (bytes ≡ front ++ rest)

-- the part of a text of n characters between two bounds, which count from 1 and belong to it
abbrev pub bounds_in : ℕ → ℤ → ℤ → Option (ℕ × ℕ)
bounds_in n (pos a) (pos b) = if nat_le 1 a && nat_le a b && nat_le b n then Some (a - 1, b) else None
bounds_in n a b = None

-- each character is one byte
abbrev pub AreSingleBytes : List ℕ → Type 0
AreSingleBytes t = length (encode_utf8_all t) ≡ length t
