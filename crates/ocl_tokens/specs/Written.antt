-- How tokens of some kinds are written, which a token's type keeps.
use Rattle.std.specs.Prelude.{ℕ, List, Bool, true, nat_le, codes, bytes_eq}
use Rattle.ocl_base.specs.Words.{is_name}
use Rattle.ocl_tokens.specs.declared.token.TheConstants.{MAX_NUMBER}
use Rattle.ocl_tokens.specs.declared.token.TokenKind.{TokenKind}
use Rattle.ocl_tokens.specs.declared.token.TokenKind.TheVariants.{Identifier, Number, Div, Mod}

-- an identifier isn't reserved, a number is within the limit, and `div` and `mod` are those words
abbrev pub is_written : TokenKind → List ℕ → Bool
is_written Identifier text = is_name text
is_written (Number value) text = nat_le value MAX_NUMBER
is_written Div text = bytes_eq text (codes "div")
is_written Mod text = bytes_eq text (codes "mod")
is_written _ text = true
