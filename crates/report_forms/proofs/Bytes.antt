-- The bytes of words, ids, names and numbers are above a space.
use Rattle.std.proofs.Common.{◌≡◌, ℕ, zero, suc, ◌<◌, ◌/◌, ◌%◌, Bool, true, false, List, [], ◌∷◌, refl, arith, eqb}
use Rattle.std.specs.Prelude.{◌&&◌, nat_lt, nat_le, not, length, if◌then◌else◌}
use Rattle.std.specs.List.{list_all}
use Rattle.std.specs.Fmt.{decimal, digits, digits_onto, digit_glyph}
use Rattle.ocl_base.specs.Words.{is_name, is_identifier, is_reserved, begins_with_letter, is_letter_or_digit}
use Rattle.imkl_population.specs.Building.{is_id, is_id_byte}
use Rattle.report_forms.proofs.Words.{IsAbove}

-- both of two tests
both : (a b : Bool) → (a && b) ≡ true → (a ≡ true) × (b ≡ true)
both true true h = (refl, refl)
both true false h = absurd cc
both false b h = absurd cc

-- every byte passes a test that only bytes above a space pass
pub above_passed : (test : ℕ → Bool) → ((b : ℕ) → test b ≡ true → 32 < b) → (w : List ℕ) → list_all test w ≡ true → IsAbove 32 w
above_passed test each [] h = tt
above_passed test each (b ∷ w) h = (each b (both _ _ h).0, above_passed test each w (both _ _ h).1)

-- the words of a report, which are known
pub above_literal : (w : List ℕ) → list_all (λ b. nat_lt 32 b) w ≡ true → IsAbove 32 w
above_literal w h = above_passed (λ b. nat_lt 32 b) (λ b t. grind arith) w h

-- the id of an object
pub above_id : (id : List ℕ) → is_id id ≡ true → IsAbove 32 id
above_id id h =
    let some = nat_lt 0 (length id) in let few = nat_le (length id) 128 in let each = list_all is_id_byte id in
    above_passed is_id_byte (λ b t. grind arith) id (both (some && few) each h).1

-- the name of a rule
pub above_name : (name : List ℕ) → is_name name ≡ true → IsAbove 32 name
unfolding is_name is_identifier
above_name name h =
    let begins = begins_with_letter name in let each = list_all is_letter_or_digit name in
    above_passed is_letter_or_digit (λ b t. grind arith) name (both begins each (both (begins && each) (not (is_reserved name)) h).0).1

-- the digits of a number
glyph_above : (d : ℕ) → 32 < digit_glyph false d
glyph_above d = grind arith

-- more of them before others
digits_above : (k n : ℕ) (acc : List ℕ) → IsAbove 32 acc → IsAbove 32 (digits_onto k 10 false n acc)
digits_above zero n acc h = h
digits_above (suc k) n acc h = elim (eqb (n / 10) 0) as (λ t. IsAbove 32 (if t then digit_glyph false (n % 10) ∷ acc else digits_onto k 10 false (n / 10) (digit_glyph false (n % 10) ∷ acc)))
    [ true ↦ (glyph_above (n % 10), h) | false ↦ digits_above k (n / 10) (digit_glyph false (n % 10) ∷ acc) (glyph_above (n % 10), h) ]

-- a number in decimal
pub above_decimal : (n : ℕ) → IsAbove 32 (decimal n)
unfolding digits
above_decimal n = digits_above 64 n [] tt
