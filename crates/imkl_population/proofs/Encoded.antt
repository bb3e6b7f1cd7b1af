-- Texts and literals as keys of sets.
use Rattle.std.proofs.Common.{◌≡◌, ℕ, true, ◌&&◌, List, refl, sym, ap, ◌∙◌, eqb, bytes_eq, inl, inr, arith}
use Rattle.std.specs.Cmp.{tied_then}
use Rattle.std.specs.Ordering.{nat_cmp, is_eq, ordering_then}
use Rattle.std.specs.Prelude.{encode_utf8_all}
use Rattle.std.specs.Str.{chars, IsUtf8, all_scalars}
use Rattle.std.proofs.lemmas.Bool.{cases_order, eq-eqb, ne_eqb, lt-ltb, le-ltb}
use Rattle.std.proofs.lemmas.Str.{chars-encodes, encodes-chars, scalars-chars}
use Rattle.std.proofs.lemmas.Slice.Eq.{bytes_eq-Decides}
use Rattle.ocl_base.proofs.ForAbove.{same_test}

-- texts of scalar values are equal where their encodings are
pub bytes_eq-encoded : (t u : List ℕ) → all_scalars t ≡ true → all_scalars u ≡ true → bytes_eq (encode_utf8_all t) (encode_utf8_all u) ≡ bytes_eq u t
bytes_eq-encoded t u p q =
    same_test (bytes_eq (encode_utf8_all t) (encode_utf8_all u)) (bytes_eq u t)
    (λ h. let e : encode_utf8_all t ≡ encode_utf8_all u = (bytes_eq-Decides (encode_utf8_all t) (encode_utf8_all u)).0 h in
    (bytes_eq-Decides u t).1 (sym (chars-encodes u q) ∙ ap chars (sym e) ∙ chars-encodes t p))
    (λ h. (bytes_eq-Decides (encode_utf8_all t) (encode_utf8_all u)).1 (ap encode_utf8_all (sym ((bytes_eq-Decides u t).0 h))))

-- texts of the program are equal where their characters are
pub same_chars : (bs cs : List ℕ) → IsUtf8 bs → IsUtf8 cs → bytes_eq bs cs ≡ bytes_eq (chars bs) (chars cs)
same_chars bs cs u v =
    let by_chars = bytes_eq-Decides (chars bs) (chars cs) in
    same_test (bytes_eq bs cs) (bytes_eq (chars bs) (chars cs))
    (λ h. by_chars.1 (ap chars ((bytes_eq-Decides bs cs).0 h)))
    (λ h. (bytes_eq-Decides bs cs).1 (sym (encodes-chars bs u) ∙ ap encode_utf8_all (by_chars.0 h) ∙ encodes-chars cs v))

-- the characters of a text of the program, and their encoding
pub encoded : (bs t : List ℕ) → IsUtf8 bs → chars bs ≡ t → encode_utf8_all t ≡ bs
encoded bs t utf8 e = ap encode_utf8_all (sym e) ∙ encodes-chars bs utf8

-- the characters of a text of the program can be encoded
pub encodable : (bs t : List ℕ) → IsUtf8 bs → chars bs ≡ t → all_scalars t ≡ true
encodable bs t utf8 e = ap all_scalars (sym e) ∙ scalars-chars bs utf8

-- numbers compare equal where the test finds them equal
pub is_eq-nat_cmp : (m n : ℕ) → is_eq (nat_cmp m n) ≡ eqb n m
is_eq-nat_cmp m n =
    elim (cases_order m n) [
      | inl same ↦ rw (le-ltb m n (omega arith), eq-eqb m n same, eq-eqb n m (sym same)) refl
      | inr apart ↦ elim apart [
        | inl less ↦ rw (lt-ltb m n less, ne_eqb n m (λ e. absurd (omega arith))) refl
        | inr more ↦ rw (le-ltb m n (omega arith), ne_eqb m n (λ e. absurd (omega arith)), ne_eqb n m (λ e. absurd (omega arith))) refl
      ]
    ]

-- two pairs compare equal where both parts are
pub is_eq-pair : (d a e b : ℕ) → is_eq (ordering_then (nat_cmp d e) (nat_cmp a b)) ≡ (eqb e d && eqb b a)
is_eq-pair d a e b = sym (tied_then (nat_cmp d e) (nat_cmp a b)) ∙ rw (is_eq-nat_cmp d e, is_eq-nat_cmp a b) refl
