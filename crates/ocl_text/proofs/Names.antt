-- What is known of names by the tokens that they come from.
use Rattle.std.proofs.Common.{◌≡◌, ℕ, ◌≤◌, ◌<◌, ◌^◌, true, false, List, [], ◌∷◌, ◌++◌, length, codes, decimal, refl, arith}
use Rattle.std.proofs.lemmas.Bool.{leb-true, ne_eqb}
use Rattle.std.proofs.lemmas.Fmt.{decimal_is_IsNumeral}
use Rattle.std.specs.List.{list_all}
use Rattle.std.specs.Str.Parse.{AllDigits}
use Rattle.std.proofs.lemmas.Str.Parse.{digit_from_value}
use Rattle.std.proofs.lemmas.Bool.Decides.{nat_tests}
use Rattle.ocl_base.specs.Words.{is_letter_or_digit, is_identifier, is_reserved, is_name}
use Rattle.ocl_tokens.specs.declared.token.Token.{Token}
use Rattle.ocl_tokens.specs.declared.token.TokenKind.TheVariants as k
use Rattle.ocl_tokens.specs.declared.token.TheConstants.{MAX_NUMBER}
use Rattle.ocl_text.specs.Names.{is_operation_name}
use Rattle.ocl_text.specs.Grammar.{numbered}

-- an identifier is a name
pub token_name : (t : Token) → t.kind ≡ k.Identifier → is_name t.text.now ≡ true
token_name t e = rw e at t.written

-- a number is within the limit
pub token_number : (t : Token) (value : ℕ) → t.kind ≡ k.Number value → value ≤ MAX_NUMBER
token_number t value e = leb-true value MAX_NUMBER (rw e at t.written)

-- an identifier names an operation, and so do `div` and `mod`
pub token_operation : (t : Token) → t.kind ≡ k.Identifier → is_operation_name t.text.now ≡ true
token_operation t e = rw (rw e at t.written) refl

-- `inv` with digits after it is no reserved word
digit_after : (d : ℕ) (ds : List ℕ) → d < 58 → is_reserved (105 ∷ 110 ∷ 118 ∷ d ∷ ds) ≡ false
unfolding is_reserved
digit_after d ds h = rw (ne_eqb d 97 (λ e. omega arith)) refl

digit_passes : (d : ℕ) → 48 ≤ d → d ≤ 57 → is_letter_or_digit d ≡ true
digit_passes d low high = grind (arith, nat_tests)

digits_pass : (ds : List ℕ) → AllDigits 10 ds → list_all is_letter_or_digit ds ≡ true
digits_pass [] h = refl
digits_pass (d ∷ ds) h = let r = digit_from_value d h.0 in let t : is_letter_or_digit d ≡ true = digit_passes d r.0 r.1 in rw t (digits_pass ds h.1)

inv_name : (ds : List ℕ) → 0 < length ds → AllDigits 10 ds → is_name (codes "inv" ++ ds) ≡ true
unfolding is_name is_identifier
inv_name [] some h = absurd (omega (arith, some))
inv_name (d ∷ ds) some h =
    let r = digit_from_value d h.0 in
    let rest = digits_pass (d ∷ ds) h in
    rw (rest, digit_after d ds (omega (arith, r.1))) refl

-- the name that an invariant gets by its number is one
pub numbered_name : (n : ℕ) → n < 2 ^ 64 → is_name (numbered n) ≡ true
numbered_name n h = let d = (decimal_is_IsNumeral n h).0 in inv_name (decimal n) d.0 d.1
