-- One line after another.
use Rattle.std.proofs.Common.{◌≡◌, ℕ, ◌+◌, ◌≤◌, List, [], ◌∷◌, ◌++◌, length, Option, Some, None, Result, Ok, Err, refl, sym, ap, ◌∙◌, append_assoc, append-nil, arith}
use Rattle.std.proofs.lemmas.List.{length_push}
use Rattle.ocl_base.specs.Steps.{◌>>=◌, found}
use Rattle.ocl_base.proofs.ForAbove.{with_front}
use Rattle.desk_script.specs.declared.call.Call.{Call}
use Rattle.desk_script.specs.Script.{written_call, lines_of, calls_from}

-- a call that was read joins those before it
joined : (front : List Call) (call : Call) (r : Result (List Call) ℕ) → with_front (front ++ call ∷ []) r ≡ with_front front (r >>= λ calls. Ok (call ∷ calls))
joined front call (Ok calls) = ap (λ (cs : List Call). Ok cs) (simp append_assoc)
joined front call (Err line) = refl

-- calls that were read, and what the lines below them make of the whole
abbrev pub ReadTo : List Call → List ℕ → Result (List Call) ℕ → Type 0
ReadTo calls rest total = with_front calls (calls_from (length calls + 1) (lines_of rest)) ≡ total

-- a line that is a call
pub one_call : (calls : List Call) (rest line below : List ℕ) (call : Call) (total : Result (List Call) ℕ)
    → lines_of rest ≡ line ∷ lines_of below → written_call line ≡ Some call → ReadTo calls rest total → ReadTo (calls ++ call ∷ []) below total
unfolding calls_from
one_call calls rest line below call total lines is so_far =
    let next : with_front calls (calls_from (length calls + 1) (lines_of rest)) ≡ with_front calls (calls_from (length calls + 1 + 1) (lines_of below) >>= λ more. Ok (call ∷ more)) = rw (lines, is) refl in
    rw length_push (joined calls call (calls_from (length calls + 1 + 1) (lines_of below)) ∙ sym next ∙ so_far)

-- a line that is none
pub no_call : (calls : List Call) (rest line below : List ℕ) (total : Result (List Call) ℕ)
    → lines_of rest ≡ line ∷ lines_of below → written_call line ≡ None → ReadTo calls rest total → total ≡ Err (length calls + 1)
unfolding calls_from
no_call calls rest line below total lines is so_far = sym so_far ∙ rw (lines, is) refl

-- no line is left
pub all_read : (calls : List Call) (rest : List ℕ) (total : Result (List Call) ℕ) → length rest ≡ 0 → ReadTo calls rest total → total ≡ Ok calls
unfolding calls_from
all_read calls [] total e so_far = sym so_far ∙ ap (λ (cs : List Call). Ok cs) (append-nil calls)
all_read calls (b ∷ bs) total e so_far = absurd (omega (arith, e))

-- ---- where a call was read, the first line isn't wrong, and the script has a line

wrong_line : (number line : ℕ) (o : Option Call) (r : Result (List Call) ℕ) → (r ≡ Err line → number + 1 ≤ line)
    → (found o number >>= λ call. r >>= λ calls. Ok (call ∷ calls)) ≡ Err line → number ≤ line
wrong_line number line None r below e = let same : number ≡ line = cc in omega (arith, same)
wrong_line number line (Some call) (Ok calls) below e = let bad = e in cc
wrong_line number line (Some call) (Err at) below e =
    let later = below e in
    omega (arith, later)

-- a wrong line isn't above the first
not_above : (number line : ℕ) (lines : List (List ℕ)) → calls_from number lines ≡ Err line → number ≤ line
unfolding calls_from
not_above number line [] e = let bad = e in cc
not_above number line (first ∷ lines) e = wrong_line number line (written_call first) (calls_from (number + 1) lines) (not_above (number + 1) line lines) e

front_fails : (front : List Call) (r : Result (List Call) ℕ) (line : ℕ) → with_front front r ≡ Err line → r ≡ Err line
front_fails front (Ok calls) line e = let bad = e in cc
front_fails front (Err at) line e = e

front_is_read : (front : List Call) (call : Call) (r : Result (List Call) ℕ) → with_front (front ++ call ∷ []) r ≡ Ok [] → ⊥
front_is_read [] call (Ok calls) e = let bad = e in cc
front_is_read (first ∷ front) call (Ok calls) e = let bad = e in cc
front_is_read front call (Err at) e = let bad = e in cc

pub not_first : (calls : List Call) (rest : List ℕ) (call : Call) (total : Result (List Call) ℕ) → ReadTo (calls ++ call ∷ []) rest total → total ≡ Err 1 → ⊥
not_first calls rest call total so_far e =
    let wrong = front_fails (calls ++ call ∷ []) (calls_from (length (calls ++ call ∷ []) + 1) (lines_of rest)) 1 (so_far ∙ e) in
    let late = not_above (length (calls ++ call ∷ []) + 1) 1 (lines_of rest) wrong in
    absurd (omega (arith, late, length_push calls call))

pub not_empty : (calls : List Call) (rest : List ℕ) (call : Call) (total : Result (List Call) ℕ) → ReadTo (calls ++ call ∷ []) rest total → total ≡ Ok [] → ⊥
not_empty calls rest call total so_far e = front_is_read calls call (calls_from (length (calls ++ call ∷ []) + 1) (lines_of rest)) (so_far ∙ e)
