-- The characters of texts.
use Rattle.std.proofs.Common.{◌≡◌, ℕ, ◌-◌, List, ◌++◌, length, take, drop, sym, ap, ◌∙◌, subst, bytes_eq, append_assoc, arith}
use Rattle.std.specs.Str.{chars, IsUtf8, IsCharBoundary}
use Rattle.std.proofs.lemmas.Str.{encodes-chars, chars-append, IsUtf8-take, IsCharBoundary-at_seam}
use Rattle.std.proofs.lemmas.List.{length-append, append_cancel_right, take-append-drop}
use Rattle.std.proofs.Math.Seq.{take-append_seam}
use Rattle.owned_values.specs.Walks.{IsSuffix}
use Rattle.std.proofs.lemmas.Slice.Eq.{bytes_eq-Decides}
use Rattle.std.proofs.lemmas.Bool.Decides.{same_from_decides}
use Rattle.std.specs.Prelude.{encode_utf8_all}

-- texts are equal where their characters are
pub same_chars : (xs ys : List ℕ) → IsUtf8 xs → IsUtf8 ys → bytes_eq xs ys ≡ bytes_eq (chars xs) (chars ys)
same_chars xs ys u v =
    let by_chars = bytes_eq-Decides (chars xs) (chars ys) in
    same_from_decides (bytes_eq xs ys) (bytes_eq (chars xs) (chars ys)) (bytes_eq-Decides xs ys)
    ((λ h. sym (encodes-chars xs u) ∙ ap encode_utf8_all (by_chars.0 h) ∙ encodes-chars ys v), (λ e. by_chars.1 (ap chars e)))

-- ---- passing characters

-- a suffix of a suffix is one
pub suffix_along : (text middle rest : List ℕ) → IsSuffix middle text → IsUtf8 rest → (front : List ℕ) → middle ≡ front ++ rest → IsSuffix rest text
suffix_along text middle rest s u front e = (u, s.1 ++ front, s.2 ∙ ap (λ l. s.1 ++ l) e ∙ sym (append_assoc s.1 front rest))

-- what stands before a suffix ends where a character does
pub boundary_before : (text rest : List ℕ) → IsSuffix rest text → IsCharBoundary text (length text - length rest)
boundary_before text rest s =
    let long : length text - length rest ≡ length s.1 = omega (arith, ap length s.2, length-append s.1 rest) in
    subst (IsCharBoundary text) (sym long) (IsCharBoundary-at_seam text s.1 rest s.2 s.0)

-- the characters before the ones that are left
pub chars_before : (text rest : List ℕ) (n : ℕ) → IsUtf8 text → IsSuffix rest text → chars rest ≡ drop n (chars text) → chars (take (length text - length rest) text) ≡ take n (chars text)
chars_before text rest n u s e =
    let long : length text - length rest ≡ length s.1 = omega (arith, ap length s.2, length-append s.1 rest) in
    let front : take (length text - length rest) text ≡ s.1 = ap (λ k. take k text) long ∙ ap (take (length s.1)) s.2 ∙ take-append_seam s.1 rest in
    let spelled : IsUtf8 s.1 = subst IsUtf8 front (IsUtf8-take text (length text - length rest) u (boundary_before text rest s)) in
    let whole : chars s.1 ++ drop n (chars text) ≡ take n (chars text) ++ drop n (chars text) =
    ap (λ l. chars s.1 ++ l) (sym e) ∙ sym (chars-append s.1 rest spelled) ∙ ap chars (sym s.2) ∙ sym (take-append-drop n (chars text)) in
    ap chars front ∙ append_cancel_right (chars s.1) (take n (chars text)) (drop n (chars text)) whole
