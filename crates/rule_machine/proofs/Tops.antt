-- The top of a stack that is held as a list with the topmost item last.
use Rattle.std.proofs.Common.{◌≡◌, ℕ, ◌-◌, List, [], ◌∷◌, ◌++◌, length, reverse, sym, ap, ◌∙◌, arith, slice_set, slice_index_or, length-append, take, drop, zero, suc}
use Rattle.std.proofs.lemmas.List.{reverse-reverse, reverse-append, length-reverse, take_all, drop_all, take-append-le}
use Rattle.std.proofs.Math.Seq.{set-append_seam, get_or-append_seam}

-- a list whose reverse begins with an item ends with it
ends_with : {A : Type 0} (xs : List A) (x : A) (below : List A) → reverse xs ≡ x ∷ below → xs ≡ reverse below ++ x ∷ []
ends_with xs x below e = sym (reverse-reverse xs) ∙ ap reverse e ∙ reverse-append (x ∷ []) below

-- the topmost item is replaced
pub top_set : {A : Type 0} (xs : List A) (n : ℕ) (x y : A) (below : List A) → n ≡ length xs → reverse xs ≡ x ∷ below → reverse (slice_set xs (n - 1) y) ≡ y ∷ below
top_set xs n x y below len e =
    let whole = ends_with xs x below e in
    let at : n - 1 ≡ length (reverse below) = omega (arith, len, ap length whole, length-append (reverse below) (x ∷ [])) in
    let set : slice_set xs (n - 1) y ≡ reverse below ++ y ∷ [] = ap (λ l. slice_set l (n - 1) y) whole ∙ ap (λ k. slice_set (reverse below ++ x ∷ []) k y) at ∙ set-append_seam (reverse below) x [] y in
    ap reverse set ∙ reverse-append (reverse below) (y ∷ []) ∙ ap (λ l. y ∷ l) (reverse-reverse below)

-- the item that is read at the end of a list is the first of its reverse
pub top_got : {A : Type 0} (xs : List A) (n : ℕ) (x y : A) (below : List A) → n ≡ length xs → reverse xs ≡ x ∷ below → y ≡ slice_index_or xs (n - 1) y → y ≡ x
top_got xs n x y below len e at =
    let whole = ends_with xs x below e in
    let place : n - 1 ≡ length (reverse below) = omega (arith, len, ap length whole, length-append (reverse below) (x ∷ [])) in
    at ∙ ap (λ l. slice_index_or l (n - 1) y) whole ∙ ap (λ k. slice_index_or (reverse below ++ x ∷ []) k y) place ∙ get_or-append_seam (reverse below) x [] y

-- a list that is cut at its end by n loses the n topmost items: by its reverse
cut_from : {A : Type 0} (ys : List A) (n : ℕ) → reverse (take (length ys - n) (reverse ys)) ≡ drop n ys
cut_from {A} [] n = ap reverse (take_all (length {A = A} [] - n) [] (omega arith)) ∙ sym (drop_all n [] (omega arith))
cut_from (y ∷ ys) zero = ap reverse (take_all (suc (length ys) - 0) (reverse (y ∷ ys)) (omega (arith, length-reverse (y ∷ ys)))) ∙ reverse-reverse (y ∷ ys)
cut_from (y ∷ ys) (suc n) =
    let less : suc (length ys) - suc n ≡ length ys - n = omega arith in
    ap (λ k. reverse (take k (reverse (y ∷ ys)))) less
    ∙ ap (λ l. reverse (take (length ys - n) l)) (reverse-append (y ∷ []) ys)
    ∙ ap reverse (take-append-le (length ys - n) (reverse ys) (y ∷ []) (omega (arith, length-reverse ys)))
    ∙ cut_from ys n

-- and so does the list itself
pub top_cut : {A : Type 0} (xs : List A) (n : ℕ) → reverse (take (length xs - n) xs) ≡ drop n (reverse xs)
top_cut xs n =
    ap (λ k. reverse (take (k - n) xs)) (sym (length-reverse xs))
    ∙ ap (λ l. reverse (take (length (reverse xs) - n) l)) (sym (reverse-reverse xs))
    ∙ cut_from (reverse xs) n
