-- The characters of a text that comes off character by character.
use Rattle.std.proofs.Common.{◌≡◌, ℕ, List, [], ◌++◌, length, drop, Option, Some, None, sym, ap, ◌∙◌, subst}
use Rattle.std.specs.Prelude.{encode_utf8}
use Rattle.std.specs.Option.{MatchOption}
use Rattle.std.specs.Str.{chars, IsUtf8}
use Rattle.std.proofs.lemmas.Str.{chars-nil, chars_past_char, IsUtf8-past_char}
use Rattle.std.proofs.lemmas.List.{nil_from_length}

-- one character comes off a text, or none is left
pub next_left : {S : Type 0} (bytes_of : S → List ℕ) (o : Option ℕ) (s t : S) → MatchOption o ((length (bytes_of s) ≡ 0) × (t ≡ s)) (λ c. bytes_of s ≡ encode_utf8 c ++ bytes_of t) → IsUtf8 (bytes_of s)
    → IsUtf8 (bytes_of t) × (chars (bytes_of t) ≡ drop 1 (chars (bytes_of s))) × (front : List ℕ) × (bytes_of s ≡ front ++ bytes_of t)
next_left bytes_of None s t m u =
    let none : bytes_of s ≡ [] = nil_from_length (bytes_of s) m.0 in
    let same : bytes_of t ≡ bytes_of s = ap bytes_of m.1 in
    (subst IsUtf8 (sym same) u, ap chars (same ∙ none) ∙ chars-nil ∙ ap (drop 1) (sym (ap chars none ∙ chars-nil)), [], sym same)
next_left bytes_of (Some c) s t m u =
    (IsUtf8-past_char (bytes_of s) (bytes_of t) c u m, sym (ap (drop 1) (chars_past_char (bytes_of s) (bytes_of t) c u m)), encode_utf8 c, m)
