-- One turn of each scan, at an index.
use Rattle.std.proofs.Common.{◌≡◌, ℕ, ◌+◌, ◌-◌, ◌*◌, ◌^◌, ◌<◌, ◌≤◌, Bool, true, false, not, ◌&&◌, ◌==◌, nat_lt, List, length, get_or, drop, Option, Some, None, refl, ◌∙◌, arith}
use Rattle.std.proofs.lemmas.List.{at_drop_more, at_drop_all}
use Rattle.std.proofs.lemmas.Bool.Decides.{nat_tests}
use Rattle.std.specs.Char.{is_ascii_digit}
use Rattle.ocl_tokens.specs.Lexical.{ends_comment}
use Rattle.ocl_tokens.specs.FirstLexeme.{comment_from, digits_after, string_from, bad_after}

-- digits end at the end of the text
pub digits_end : (v i : ℕ) (bs : List ℕ) → length bs ≤ i → digits_after v (drop i bs) ≡ Some v
unfolding digits_after
digits_end v i bs h = at_drop_all (digits_after v) bs i h

-- digits end before a byte that is no digit
pub digits_stop : (v i : ℕ) (bs : List ℕ) → i < length bs → is_ascii_digit (get_or bs i 0) ≡ false → digits_after v (drop i bs) ≡ Some v
unfolding digits_after
digits_stop v i bs h e = at_drop_more (digits_after v) bs i 0 h ∙ rw e refl

-- a digit makes the value too large
pub digits_large : (v i : ℕ) (bs : List ℕ) → i < length bs → is_ascii_digit (get_or bs i 0) ≡ true → 2 ^ 63 ≤ v * 10 + (get_or bs i 0 - 48) → digits_after v (drop i bs) ≡ None
unfolding digits_after
digits_large v i bs h e l =
    let t : nat_lt (v * 10 + (get_or bs i 0 - 48)) (2 ^ 63) ≡ false = grind (arith, nat_tests) in
    at_drop_more (digits_after v) bs i 0 h ∙ rw (e, t) refl

-- a digit is added to the value, which stays within the limit
pub digits_more : (v i : ℕ) (bs : List ℕ) → i < length bs → is_ascii_digit (get_or bs i 0) ≡ true → v * 10 + (get_or bs i 0 - 48) < 2 ^ 63
    → digits_after v (drop i bs) ≡ digits_after (v * 10 + (get_or bs i 0 - 48)) (drop (i + 1) bs)
unfolding digits_after
digits_more v i bs h e l =
    let t : nat_lt (v * 10 + (get_or bs i 0 - 48)) (2 ^ 63) ≡ true = grind (arith, nat_tests) in
    at_drop_more (digits_after v) bs i 0 h ∙ rw (e, t) refl

-- a comment that comes to the end of the text stays open
pub comment_end : (at i : ℕ) (bs : List ℕ) → length bs ≤ i → comment_from at (drop i bs) ≡ None
unfolding comment_from
comment_end at i bs h = at_drop_all (comment_from at) bs i h

-- a comment ends here
pub comment_stop : (at i : ℕ) (bs : List ℕ) → i < length bs → ends_comment (get_or bs i 0) (drop (i + 1) bs) ≡ true → comment_from at (drop i bs) ≡ Some (at + 2)
unfolding comment_from
comment_stop at i bs h e = at_drop_more (comment_from at) bs i 0 h ∙ rw e refl

-- a comment goes on past this byte
pub comment_more : (at i : ℕ) (bs : List ℕ) → i < length bs → ends_comment (get_or bs i 0) (drop (i + 1) bs) ≡ false → comment_from at (drop i bs) ≡ comment_from (at + 1) (drop (i + 1) bs)
unfolding comment_from
comment_more at i bs h e = at_drop_more (comment_from at) bs i 0 h ∙ rw e refl

-- a string that comes to the end of the text stays open
pub string_end : (escaped : Bool) (bad : Option ℕ) (at i : ℕ) (bs : List ℕ) → length bs ≤ i → string_from escaped bad at (drop i bs) ≡ None
unfolding string_from
string_end escaped bad at i bs h = at_drop_all (string_from escaped bad at) bs i h

-- a string closes here
pub string_stop : (escaped : Bool) (bad : Option ℕ) (at i : ℕ) (bs : List ℕ) → i < length bs → (not escaped && (get_or bs i 0 == 39)) ≡ true → string_from escaped bad at (drop i bs) ≡ Some (at + 2, bad)
unfolding string_from
string_stop escaped bad at i bs h e = at_drop_more (string_from escaped bad at) bs i 0 h ∙ rw e refl

-- a string goes on past this byte
pub string_more : (escaped : Bool) (bad : Option ℕ) (at i : ℕ) (bs : List ℕ) → i < length bs → (not escaped && (get_or bs i 0 == 39)) ≡ false
    → string_from escaped bad at (drop i bs) ≡ string_from (not escaped && (get_or bs i 0 == 92)) (bad_after escaped bad at (get_or bs i 0)) (at + 1) (drop (i + 1) bs)
unfolding string_from
string_more escaped bad at i bs h e = at_drop_more (string_from escaped bad at) bs i 0 h ∙ rw e refl
