-- Tokens as the terminals of the grammar: without where their text lies in memory.
use Rattle.std.specs.Prelude.{◌≡◌, ℕ, ◌≤◌, List, [], ◌∷◌, map, length, slice_range}
use Rattle.ocl_tokens.specs.declared.token.TokenKind.{TokenKind}
use Rattle.ocl_tokens.specs.declared.token.Token.{Token}

-- what a token is, the byte at which it begins, and how it is written
pub record Terminal : Type 0 where
  pub kind : TokenKind
  pub offset : ℕ
  pub text : List ℕ

abbrev pub terminal : Token → Terminal
terminal t = record { kind = t.kind; offset = t.span.start; text = t.text.now }

abbrev pub terminals : List Token → List Terminal
terminals = map terminal

-- From this byte on each token's text is the slice of its span, and spans are in order.
abbrev pub AreSpanned : ℕ → List ℕ → List Token → Type 0
AreSpanned from source [] = Unit {0}
AreSpanned from source (t ∷ ts) =
    (from ≤ t.span.start) × (t.span.start ≤ t.span.end) × (t.span.end ≤ length source)
    × (t.text.now ≡ slice_range source t.span.start t.span.end) × AreSpanned t.span.end source ts
