-- A variable that is bound has a name of its own.
use Rattle.std.proofs.Common.{◌≡◌, ℕ, zero, suc, ◌+◌, ◌<◌, ◌||◌, Bool, true, false, List, [], ◌∷◌, ◌++◌, length, replicate, bytes_eq, refl, sym, ap, ◌∙◌, arith}
use Rattle.std.specs.Prelude.{slice_index_or, if◌then◌else◌}
use Rattle.std.proofs.lemmas.Int.{clamps}
use Rattle.std.proofs.lemmas.Bool.{false≢true}
use Rattle.std.proofs.lemmas.List.{length-append, length-replicate}
use Rattle.std.proofs.lemmas.Slice.Eq.{bytes_eq-Decides}
use Rattle.ocl_base.specs.Lists.{is_among, repeats}
use Rattle.explain_why.specs.Names.{Naming, variable_name, longest, number_name, name_by, next_name}
use Rattle.explain_why.specs.Laws.{NextNamesAreNew, NamesDifferInside}

-- texts of two lengths differ
unequal : (b : Bool) → (b ≡ true → ⊥) → b ≡ false
unequal true h = absurd (h refl)
unequal false h = refl

either_false : (a b : Bool) → a ≡ false → b ≡ false → a || b ≡ false
either_false a b h g = ap (λ (x : Bool). x || b) h ∙ g

differ : (x y : List ℕ) → length y < length x → bytes_eq x y ≡ false
differ x y shorter = unequal (bytes_eq x y) (λ same. let equal = ap length ((bytes_eq-Decides x y).0 same) in absurd (omega (arith, shorter, equal)))

-- a text that is longer than each of some names is none of them
pub longer_is_new : (names : List (List ℕ)) (x : List ℕ) → longest names < length x → is_among bytes_eq names x ≡ false
longer_is_new [] x h = refl
longer_is_new (name ∷ names) x h =
    let first : length name < length x = omega (arith, clamps, h) in
    let rest : longest names < length x = omega (arith, clamps, h) in
    either_false (bytes_eq x name) (is_among bytes_eq names x) (differ x name first) (longer_is_new names x rest)

-- ---- a variable's number

abbrev primes : ℕ → List ℕ
primes n = replicate n 39

some_more : (name : List ℕ) (n : ℕ) → 0 < length name → n < length (name ++ primes n)
some_more name n some =
    let long : length (name ++ primes n) ≡ length name + length (primes n) = length-append name (primes n) in
    let many : length (primes n) ≡ n = length-replicate {A = ℕ} n 39 in
    omega (arith, long, many, some)

neither : (a b : Bool) → a || b ≡ false → b ≡ false
neither true b h = absurd (cc)
neither false b h = h

by_number : (a b : Bool) (seen : List (List ℕ)) (name primed : List ℕ) → is_among bytes_eq seen primed ≡ false → is_among bytes_eq seen name ≡ b → is_among bytes_eq seen (if a || b then primed else name) ≡ false
by_number true b seen name primed h g = h
by_number false true seen name primed h g = h
by_number false false seen name primed h g = g

number_is_new : (s : Naming) (name : List ℕ) → 0 < length name → is_among bytes_eq s.seen (number_name s name) ≡ false
number_is_new s name some =
    by_number (is_among bytes_eq s.given name) (is_among bytes_eq s.seen name) s.seen name (name ++ replicate (longest s.seen) 39)
    (longer_is_new s.seen (name ++ replicate (longest s.seen) 39) (some_more name (longest s.seen) some)) refl

named : (n : ℕ) → 0 < length (variable_name n)
named zero = omega arith
named (suc n) = omega arith

-- ---- the laws

by_name : (b : Bool) (seen : List (List ℕ)) (name other : List ℕ) → is_among bytes_eq seen other ≡ false → is_among bytes_eq seen name ≡ b → is_among bytes_eq seen (if b then other else name) ≡ false
by_name true seen name other h g = h
by_name false seen name other h g = g

name_is_new : (s : Naming) (given : List ℕ) → is_among bytes_eq s.seen (name_by s given) ≡ false
name_is_new s [] = number_is_new s (variable_name (length s.seen)) (named (length s.seen))
name_is_new s (b ∷ bs) =
    by_name (is_among bytes_eq s.seen (b ∷ bs)) s.seen (b ∷ bs) (number_name s (variable_name (length s.seen))) (number_is_new s (variable_name (length s.seen)) (named (length s.seen))) refl

pub next_names_are_new : NextNamesAreNew
unfolding next_name
next_names_are_new s = name_is_new s (slice_index_or s.given s.at [])

or_false : (a b : Bool) → a || b ≡ false → a ≡ false
or_false true b h = absurd (cc)
or_false false b h = refl

flipped : (x y : List ℕ) → bytes_eq x y ≡ false → bytes_eq y x ≡ false
flipped x y h = unequal (bytes_eq y x) (λ same. absurd (false≢true (sym h ∙ (bytes_eq-Decides x y).1 (sym ((bytes_eq-Decides y x).0 same)))))

among_more : (names : List (List ℕ)) (x y : List ℕ) → is_among bytes_eq names x ≡ false → bytes_eq x y ≡ false → is_among bytes_eq (names ++ y ∷ []) x ≡ false
among_more [] x y h g = either_false (bytes_eq x y) false g refl
among_more (name ∷ names) x y h g =
    either_false (bytes_eq x name) (is_among bytes_eq (names ++ y ∷ []) x) (or_false (bytes_eq x name) (is_among bytes_eq names x) h) (among_more names x y (neither (bytes_eq x name) (is_among bytes_eq names x) h) g)

-- one that is none of several that differ
differ_more : (names : List (List ℕ)) (y : List ℕ) → repeats bytes_eq names ≡ false → is_among bytes_eq names y ≡ false → repeats bytes_eq (names ++ y ∷ []) ≡ false
differ_more [] y h g = refl
differ_more (name ∷ names) y h g =
    either_false (is_among bytes_eq (names ++ y ∷ []) name) (repeats bytes_eq (names ++ y ∷ []))
    (among_more names name y (or_false (is_among bytes_eq names name) (repeats bytes_eq names) h) (flipped y name (or_false (bytes_eq y name) (is_among bytes_eq names y) g)))
    (differ_more names y (neither (is_among bytes_eq names name) (repeats bytes_eq names) h) (neither (bytes_eq y name) (is_among bytes_eq names y) g))

pub names_differ_inside : NamesDifferInside
names_differ_inside s h = differ_more s.seen (next_name s) h (next_names_are_new s)
