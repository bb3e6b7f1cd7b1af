-- The turns of a loop over the lines of a text.
use Rattle.std.proofs.Common.{◌≡◌, ℕ, zero, suc, ◌+◌, ◌<◌, ◌≤◌, ◌==◌, Bool, true, false, List, [], ◌∷◌, ◌++◌, length, take, drop, slice_index_or, if◌then◌else◌, refl, sym, ap, ◌∙◌, append_assoc}
use Rattle.std.proofs.lemmas.List.{append-nil, at_drop_more, take_all, at_drop_all}
use Rattle.std.proofs.Math.Seq.{take-suc}
use Rattle.explain_notes.specs.Lines.{first_lines}
use native.Mathlib.Numerals.{unary_clauses}

-- the lines that are left after a byte, if there were n and one more before it
abbrev pub left_after : Bool → ℕ → ℕ
left_after is_end n = if is_end then n else suc n

chosen : (is_end : Bool) (n : ℕ) (bs : List ℕ) → (if is_end then first_lines n bs else first_lines (suc n) bs) ≡ first_lines (left_after is_end n) bs
chosen true n bs = refl
chosen false n bs = refl

over_suc : (text : List ℕ) (i n : ℕ) → i < length text → take (suc i) text ++ first_lines (left_after (slice_index_or text i 0 == 10) n) (drop (suc i) text) ≡ take i text ++ first_lines (suc n) (drop i text)
over_suc text i n inside =
    ap (λ xs. xs ++ first_lines (left_after (slice_index_or text i 0 == 10) n) (drop (suc i) text)) (take-suc text i 0 inside)
    ∙ append_assoc (take i text) (slice_index_or text i 0 ∷ []) (first_lines (left_after (slice_index_or text i 0 == 10) n) (drop (suc i) text))
    ∙ ap (λ xs. take i text ++ (slice_index_or text i 0 ∷ xs)) (sym (chosen (slice_index_or text i 0 == 10) n (drop (suc i) text)))
    ∙ ap (λ xs. take i text ++ xs) (sym (simp unary_clauses at (at_drop_more (first_lines (suc n)) text i 0 inside)))

-- a byte goes over to those before the index
pub over : (text : List ℕ) (i left next n : ℕ) (is_end : Bool) → i < length text → (slice_index_or text i 0 == 10) ≡ is_end → left ≡ suc n → next ≡ left_after is_end n → take (i + 1) text ++ first_lines next (drop (i + 1) text) ≡ take i text ++ first_lines left (drop i text)
over text i left next n is_end inside is counted after =
    simp unary_clauses (
    ap (λ k. take (suc i) text ++ first_lines k (drop (suc i) text)) (after ∙ ap (λ b. left_after b n) (sym is))
    ∙ over_suc text i n inside
    ∙ ap (λ k. take i text ++ first_lines k (drop i text)) (sym counted))

none_left : (n : ℕ) → first_lines n [] ≡ []
none_left zero = refl
none_left (suc n) = refl

-- all bytes are before the index
pub at_end : (text : List ℕ) (i left : ℕ) → length text ≤ i → text ≡ take i text ++ first_lines left (drop i text)
at_end text i left outside =
    sym (append-nil text) ∙ ap (λ xs. text ++ xs) (sym (at_drop_all (first_lines left) text i outside ∙ none_left left)) ∙ ap (λ xs. xs ++ first_lines left (drop i text)) (sym (take_all i text outside))
