-- Texts each of whose characters is one byte.
use Rattle.std.proofs.Common.{◌≡◌, ℕ, ◌+◌, ◌-◌, ◌≤◌, List, ◌++◌, length, take, drop, length-append, sym, ap, ◌∙◌, arith}
use Rattle.std.specs.Prelude.{slice_range, encode_utf8_all}
use Rattle.std.proofs.lemmas.List.{take-append-drop, length-take-le, length-drop}
use Rattle.std.proofs.lemmas.Str.{encodes-append, length-le-encodes}
use Rattle.rule_slots.specs.Cut.{AreSingleBytes}

-- the bytes of a text in three parts
bytes_of_parts : (f t r : List ℕ) → length (encode_utf8_all (f ++ (t ++ r))) ≡ length (encode_utf8_all f) + (length (encode_utf8_all t) + length (encode_utf8_all r))
bytes_of_parts f t r =
    ap length (encodes-append f (t ++ r)) ∙ length-append (encode_utf8_all f) (encode_utf8_all (t ++ r))
    ∙ ap (λ n. length (encode_utf8_all f) + n) (ap length (encodes-append t r) ∙ length-append (encode_utf8_all t) (encode_utf8_all r))

characters_of_parts : (f t r : List ℕ) → length (f ++ (t ++ r)) ≡ length f + (length t + length r)
characters_of_parts f t r = length-append f (t ++ r) ∙ ap (λ n. length f + n) (length-append t r)

-- a part of such a text is such a text
pub single-part : (f t r : List ℕ) → AreSingleBytes (f ++ (t ++ r)) → AreSingleBytes t
single-part f t r e = omega (arith, e, bytes_of_parts f t r, characters_of_parts f t r, length-le-encodes f, length-le-encodes t, length-le-encodes r)

-- with the bytes before it, it is no longer than such a text
pub single-fits : (f t r : List ℕ) → AreSingleBytes (f ++ (t ++ r)) → length (encode_utf8_all f) + length t ≤ length (f ++ (t ++ r))
single-fits f t r e = omega (arith, e, bytes_of_parts f t r, characters_of_parts f t r, length-le-encodes f, length-le-encodes t, length-le-encodes r)

-- a part that has all bytes of a text has all its characters
pub whole-part : (f t r : List ℕ) → length (encode_utf8_all t) ≡ length (encode_utf8_all (f ++ (t ++ r))) → length t ≡ length (f ++ (t ++ r))
whole-part f t r e = omega (arith, e, bytes_of_parts f t r, characters_of_parts f t r, length-le-encodes f, length-le-encodes r)

-- so are what stands before a place, and what stands between two
pub single-take : (t : List ℕ) (k : ℕ) → AreSingleBytes t → k ≤ length t → length (encode_utf8_all (take k t)) ≡ k
single-take t k e le =
    let whole : t ≡ take k t ++ drop k t = sym (take-append-drop k t) in
    let long : length (take k t) ≡ k = length-take-le k t le in
    let rest : length (drop k t) ≡ length t - k = length-drop k t in
    let bytes : length (encode_utf8_all t) ≡ length (encode_utf8_all (take k t)) + length (encode_utf8_all (drop k t)) =
    ap (λ l. length (encode_utf8_all l)) whole ∙ ap length (encodes-append (take k t) (drop k t)) ∙ length-append (encode_utf8_all (take k t)) (encode_utf8_all (drop k t)) in
    omega (arith, e, bytes, long, rest, le, length-le-encodes (take k t), length-le-encodes (drop k t))

single-drop : (t : List ℕ) (k : ℕ) → AreSingleBytes t → k ≤ length t → AreSingleBytes (drop k t)
single-drop t k e le =
    let whole : t ≡ take k t ++ drop k t = sym (take-append-drop k t) in
    let long : length (take k t) ≡ k = length-take-le k t le in
    let rest : length (drop k t) ≡ length t - k = length-drop k t in
    let bytes : length (encode_utf8_all t) ≡ length (encode_utf8_all (take k t)) + length (encode_utf8_all (drop k t)) =
    ap (λ l. length (encode_utf8_all l)) whole ∙ ap length (encodes-append (take k t) (drop k t)) ∙ length-append (encode_utf8_all (take k t)) (encode_utf8_all (drop k t)) in
    omega (arith, e, bytes, long, rest, le, length-le-encodes (take k t), length-le-encodes (drop k t))

pub single-between : (t : List ℕ) (from to : ℕ) → AreSingleBytes t → from ≤ to → to ≤ length t → length (encode_utf8_all (slice_range t from to)) ≡ to - from
single-between t from to e le short =
    single-take (drop from t) (to - from) (single-drop t from e (omega (arith, le, short))) (omega (arith, le, short, length-drop from t))
