-- The numbers of a unit's texts and symbols fit into two bytes where as many are counted.
use Rattle.std.proofs.Common.{◌≡◌, ℕ, ◌<◌, ◌≤◌, Bool, List, [], length, Option, Some, None, refl, arith, bytes_eq, position}
use Rattle.std.specs.Prelude.{unwrap_or}
use Rattle.std.proofs.lemmas.List.Quantifiers.{position-Some}
use Rattle.rule_verify.specs.declared.named.Named.{Named}
use Rattle.ocl_compile.specs.Numbering.{Numbering, same_named, text_number, symbol_number}
use Rattle.ocl_compile.specs.declared.limits.TheConstants.{MAX_COUNTED}
use Rattle.ocl_compile.specs.NumberWalk.{AreCounted}

number_fits : {A : Type 0} (p : A → Bool) (xs : List A) (d : A) → length xs ≤ MAX_COUNTED → unwrap_or (position p xs) 0 < 65536
number_fits p xs d few = by_place (position p xs) refl
  where
    by_place : (o : Option ℕ) → position p xs ≡ o → unwrap_or o 0 < 65536
    by_place (Some k) e = omega (arith, (position-Some p xs k d e).0, few)
    by_place None e = omega (arith)

-- the number of a text fits into two bytes, and so does that of a symbol
pub text_fits : (n : Numbering) (t : List ℕ) → AreCounted n → text_number n t < 65536
text_fits n t c = number_fits (bytes_eq t) n.texts [] c.0

pub symbol_fits : (n : Numbering) (s : Named) → AreCounted n → symbol_number n s < 65536
symbol_fits n s c = number_fits (same_named s) n.symbols s c.1

pub ruleset counted = (text_fits, symbol_fits)
