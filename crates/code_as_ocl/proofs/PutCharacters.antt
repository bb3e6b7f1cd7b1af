-- Characters of a text that are put one after another.
use Rattle.std.proofs.Common.{◌≡◌, ℕ, List, ◌++◌, length, sym, ap, ◌∙◌, append_assoc}
use Rattle.std.specs.Prelude.{encode_utf8}
use Rattle.std.specs.List.{flat_map}
use Rattle.std.specs.Str.{chars, IsUtf8}
use Rattle.std.proofs.lemmas.Str.{chars-nil, chars_past_char, IsUtf8-past_char}
use Rattle.std.proofs.lemmas.List.{append-nil, nil_from_length}

-- a character comes off a text, and what it becomes is put
pub character_put : (f : ℕ → List ℕ) (out whole more text left : List ℕ) (c : ℕ) → IsUtf8 text → text ≡ encode_utf8 c ++ left → more ≡ out ++ f c → out ++ flat_map f (chars text) ≡ whole → (more ++ flat_map f (chars left) ≡ whole) × IsUtf8 left
character_put f out whole more text left c u is put so_far =
    let same =
    ap (λ xs. xs ++ flat_map f (chars left)) put
    ∙ append_assoc out (f c) (flat_map f (chars left))
    ∙ ap (λ xs. out ++ flat_map f xs) (sym (chars_past_char text left c u is))
    ∙ so_far in
    (same, IsUtf8-past_char text left c u is)

-- none is left
pub all_put : (f : ℕ → List ℕ) (out whole text : List ℕ) → length text ≡ 0 → out ++ flat_map f (chars text) ≡ whole → out ≡ whole
all_put f out whole text none so_far =
    sym (append-nil out)
    ∙ ap (λ xs. out ++ flat_map f xs) (sym (ap chars (nil_from_length text none) ∙ chars-nil))
    ∙ so_far
