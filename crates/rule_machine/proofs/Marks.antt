-- Marks of pending pieces: what ends takes its mark with it.
use Rattle.std.proofs.Common.{◌≡◌, ℕ, suc, ◌-◌, ◌≤◌, List, [], ◌∷◌, ◌++◌, length, drop, refl, ap, ◌∙◌, arith}
use Rattle.rule_verify.specs.declared.depths.Depths.{Depths}
use Rattle.rule_verify.specs.CodeTree.{End}
use Rattle.rule_values.specs.Value.{Value}
use Rattle.rule_machine.specs.Machine.{Setting, Piece, Sequence, LetEnd, Opened, Turning, Skipped, settle, configuration}
use Rattle.rule_machine.specs.Places.{Mark, Here, Iterating, marks_for}
use Rattle.rule_machine.specs.Live.{Going}

-- the marks of what is left when empty sequences have dropped out
abbrev pub marks_left : List Piece → List Mark → List Mark
marks_left (Sequence End ∷ q) (m ∷ ms) = marks_left q ms
marks_left q ms = ms

-- pending code with kinds has a mark for each piece and one for the end
pub as_many : (s : Setting) (d : Depths) (q : List Piece) (ms : List Mark) (n : ℕ) → Going s d q ms n → length ms ≡ suc (length q)
as_many s d [] (Here at ∷ []) n g = refl
as_many s d (Sequence t ∷ q) (Here at ∷ ms) n g = ap suc (as_many s d q ms g.1 g.8)
as_many s d (LetEnd ∷ q) (Here at ∷ ms) n g = ap suc (as_many s d q ms g.0 g.4)
as_many s d (Opened i body source kept ∷ q) (Iterating p r below ∷ ms) n g = ap suc (as_many s d q ms g.1 g.5)
as_many s d (Turning i body source left kept ∷ q) (Iterating p r below ∷ ms) n g = ap suc (as_many s d q ms g.1 g.5)
as_many s d (Skipped ∷ q) (Iterating p r below ∷ ms) n g = ap suc (as_many s d q ms g.0 g.3)
as_many s d q ms n g = absurd g

-- the last marks of a list are those of its end
last_ones : (dropped ms : List Mark) (n : ℕ) → n ≤ length ms → drop (length (dropped ++ ms) - n) (dropped ++ ms) ≡ drop (length ms - n) ms
last_ones [] ms n le = refl
last_ones (m ∷ dropped) ms n le =
    let one : suc (length (dropped ++ ms)) - n ≡ suc (length (dropped ++ ms) - n) = omega (arith, le, no_shorter dropped) in
    ap (λ k. drop k (m ∷ (dropped ++ ms))) one ∙ last_ones dropped ms n le
  where
    no_shorter : (dropped : List Mark) → length ms ≤ length (dropped ++ ms)
    no_shorter [] = omega arith
    no_shorter (m ∷ dropped) = omega (arith, no_shorter dropped)

settle_shorter : (q : List Piece) → length (settle q) ≤ length q
settle_shorter (Sequence End ∷ q) = omega (arith, settle_shorter q)
settle_shorter q = omega arith

left_are : (q : List Piece) (ms : List Mark) → length ms ≡ suc (length q) → drop (length ms - suc (length (settle q))) ms ≡ marks_left q ms
left_are (Sequence End ∷ q) [] e = cc
left_are (Sequence End ∷ q) (m ∷ ms) e =
    last_ones (m ∷ []) ms (suc (length (settle q))) (omega (arith, e, settle_shorter q)) ∙ left_are q ms (omega (arith, e))
left_are q ms e = let none : length ms - suc (length q) ≡ 0 = omega (arith, e) in ap (λ k. drop k ms) none

-- after a step they are the last of those that were put, without those of empty sequences
pub marks_are : (q : List Piece) (vars os : List Value) (dropped ms : List Mark) → length ms ≡ suc (length q) → marks_for (configuration q vars os) (dropped ++ ms) ≡ marks_left q ms
marks_are q vars os dropped ms e =
    last_ones dropped ms (suc (length (settle q))) (omega (arith, e, settle_shorter q)) ∙ left_are q ms e
