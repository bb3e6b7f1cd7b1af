-- Names that stand twice.
use Rattle.std.proofs.Common.{◌≡◌, ℕ, Bool, true, false, ◌||◌, List, [], ◌∷◌, ◌++◌, map, refl, sym, ap, ◌∙◌, bytes_eq, append_assoc, suc, ◌<◌, length, take, drop, get_or, drop-cons}
use Rattle.std.proofs.lemmas.Bool.{false≢true, or_right}
use Rattle.std.proofs.lemmas.Slice.Eq.{bytes_eq-Decides}
use Rattle.std.proofs.lemmas.Cmp.{nat_list_eq_equiv}
use Rattle.std.proofs.lemmas.List.{map-append, take-append-drop}
use Rattle.ocl_base.specs.Lists.{is_among, repeats}
use Rattle.ocl_base.proofs.ForAbove.{stands_once, found_again}

-- ---- a list of names, and its parts

or_grow : (a b c : Bool) → (b ≡ true → c ≡ true) → (a || b) ≡ true → (a || c) ≡ true
or_grow true b c f e = refl
or_grow false b c f e = f e

among_front : (xs ys : List (List ℕ)) (z : List ℕ) → is_among bytes_eq xs z ≡ true → is_among bytes_eq (xs ++ ys) z ≡ true
among_front [] ys z a = absurd (false≢true a)
among_front (x ∷ xs) ys z a = or_grow (bytes_eq z x) (is_among bytes_eq xs z) (is_among bytes_eq (xs ++ ys) z) (among_front xs ys z) a

or_both : (a b c d : Bool) → (a ≡ true → c ≡ true) → (b ≡ true → d ≡ true) → (a || b) ≡ true → (c || d) ≡ true
or_both true b c d f g e = rw (f refl) refl
or_both false b c d f g e = or_right c d (g e)

-- a name that stands twice at the front of a list, or at its back, stands twice in the whole
pub repeats_front : (xs ys : List (List ℕ)) → repeats bytes_eq xs ≡ true → repeats bytes_eq (xs ++ ys) ≡ true
repeats_front [] ys r = absurd (false≢true r)
repeats_front (x ∷ xs) ys r = or_both (is_among bytes_eq xs x) (repeats bytes_eq xs) (is_among bytes_eq (xs ++ ys) x) (repeats bytes_eq (xs ++ ys)) (among_front xs ys x) (repeats_front xs ys) r

pub repeats_back : (xs ys : List (List ℕ)) → repeats bytes_eq ys ≡ true → repeats bytes_eq (xs ++ ys) ≡ true
repeats_back [] ys r = r
repeats_back (x ∷ xs) ys r = or_right (is_among bytes_eq (xs ++ ys) x) (repeats bytes_eq (xs ++ ys)) (repeats_back xs ys r)

-- an element whose name stands before it
pub again_at : {X : Type 0} (f : X → List ℕ) (old : List (List ℕ)) (xs : List X) (i : ℕ) (x : X) → i < length xs → x ≡ get_or xs i x → is_among bytes_eq (old ++ map f (take i xs)) (f x) ≡ true → repeats bytes_eq (old ++ map f xs) ≡ true
again_at {X} f old xs i x lt is there =
    let rest = drop (suc i) xs in
    let whole : xs ≡ take i xs ++ x ∷ rest = sym (take-append-drop i xs) ∙ rw (drop-cons xs i x lt, ← is) refl in
    let parts : map f xs ≡ map f (take i xs) ++ f x ∷ map f rest = ap (λ (l : List X). map f l) whole ∙ map-append f (take i xs) (x ∷ rest) in
    let regrouped : old ++ map f xs ≡ (old ++ map f (take i xs)) ++ f x ∷ map f rest = ap (λ (l : List (List ℕ)). old ++ l) parts ∙ simp append_assoc in
    ap (repeats bytes_eq) regrouped ∙ found_again bytes_eq nat_list_eq_equiv.symm (old ++ map f (take i xs)) (f x) (map f rest) there

-- ---- names that differ have one place each

-- where no name stands twice, a name stands at one index
pub one_place : (xs : List (List ℕ)) (i j : ℕ) → repeats bytes_eq xs ≡ false → i < length xs → j < length xs → get_or xs i [] ≡ get_or xs j [] → i ≡ j
one_place xs i j apart li lj e = stands_once bytes_eq [] (λ x y. (bytes_eq-Decides x y).1) xs i j apart li lj e
