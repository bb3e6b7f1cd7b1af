-- The first number that has something.
use Rattle.std.proofs.Common.{◌≡◌, ℕ, zero, suc, ◌+◌, ◌<◌, ◌++◌, [], ◌∷◌, List, Bool, true, false, Option, Some, None, refl, sym, ap, ◌∙◌, arith, inl, inr, is_some, length, take, drop, drop-cons, get_or, if◌then◌else◌}
use Rattle.std.specs.Option.{option_or}
use Rattle.std.proofs.lemmas.List.{append-nil, take_more, take-append-drop}
use Rattle.std.proofs.lemmas.Bool.{false≢true}
use Rattle.std.proofs.lemmas.Bool.Decides.{leb_tells}
use Rattle.ocl_base.specs.Numbers.{places}
use Rattle.imkl_population.specs.Numbers.{first_below}
use Rattle.imkl_population.specs.Order.{first_in}

-- something at a number with nothing before it is the first below each greater number
pub first_of-found : {A : Type 0} (g : ℕ → Option A) (n k : ℕ) (a : A) → k < n → first_below g k ≡ None → g k ≡ Some a → first_below g n ≡ Some a
first_of-found g zero k a lt none found = absurd (omega arith)
first_of-found g (suc n) k a lt none found =
    elim (leb_tells n k) [
      | inl le ↦ let same : k ≡ n = omega arith in rw (← same, none, found) refl
      | inr less ↦ rw (first_of-found g n k a less.1 none found) refl
    ]

-- what is found at a number below which nothing is found is the first
pub first_found : {A : Type 0} (g : ℕ → Option A) (n k : ℕ) (r : Option A) → k < n → first_below g k ≡ None → r ≡ g k → is_some r ≡ true → r ≡ first_below g n
first_found g n k None lt none is h = absurd (false≢true h)
first_found g n k (Some a) lt none is h = sym (first_of-found g n k a lt none (sym is))

-- ---- over a list

option_or-none : {A : Type 0} (a : Option A) → option_or a None ≡ a
option_or-none None = refl
option_or-none (Some x) = refl

option_or-assoc : {A : Type 0} (a b c : Option A) → option_or (option_or a b) c ≡ option_or a (option_or b c)
option_or-assoc None b c = refl
option_or-assoc (Some x) b c = refl

first_in-append : {A : Type 0} (g : ℕ → Option A) (xs ys : List ℕ) → first_in g (xs ++ ys) ≡ option_or (first_in g xs) (first_in g ys)
first_in-append g [] ys = refl
first_in-append g (x ∷ xs) ys = rw (first_in-append g xs ys) (sym (option_or-assoc (g x) (first_in g xs) (first_in g ys)))

one_place : {A : Type 0} (g : ℕ → Option A) (xs : List ℕ) (n : ℕ) (b : Bool) → (b ≡ false → g n ≡ None) → first_in g (xs ++ (if b then n ∷ [] else [])) ≡ option_or (first_in g xs) (g n)
one_place g xs n true idle = first_in-append g xs (n ∷ []) ∙ rw (option_or-none (g n)) refl
one_place g xs n false idle = rw (append-nil xs, idle refl) (sym (option_or-none (first_in g xs)))

-- the first of all is the first of those places outside which there is nothing
pub first_in-places : {A : Type 0} (g : ℕ → Option A) (p : ℕ → Bool) (n : ℕ) → ((k : ℕ) → k < n → p k ≡ false → g k ≡ None) → first_in g (places p n) ≡ first_below g n
first_in-places g p zero idle = refl
first_in-places g p (suc n) idle = one_place g (places p n) n (p n) (idle n (omega arith)) ∙ rw (first_in-places g p n (λ k lt. idle k (omega (arith, lt)))) refl

-- nothing so far, and nothing at the next
pub first_in-more : {A : Type 0} (g : ℕ → Option A) (xs : List ℕ) (i x : ℕ) (r : Option A) → i < length xs → x ≡ get_or xs i x → first_in g (take i xs) ≡ None → r ≡ g x → is_some r ≡ false → first_in g (take (i + 1) xs) ≡ None
first_in-more g xs i x None lt is none here some = rw (take_more xs i x lt, ← is, first_in-append g (take i xs) (x ∷ []), none, ← here) refl
first_in-more g xs i x (Some a) lt is none here some = absurd (false≢true (sym some))

found_by : {A : Type 0} (g : ℕ → Option A) (x : ℕ) (xs : List ℕ) (r : Option A) → r ≡ g x → is_some r ≡ true → r ≡ option_or (g x) (first_in g xs)
found_by g x xs None is some = absurd (false≢true some)
found_by g x xs (Some a) is some = rw (← is) refl

-- nothing so far, but something at the next: that is the first
pub first_in-found : {A : Type 0} (g : ℕ → Option A) (xs : List ℕ) (i x : ℕ) (r : Option A) → i < length xs → x ≡ get_or xs i x → first_in g (take i xs) ≡ None → r ≡ g x → is_some r ≡ true → r ≡ first_in g xs
first_in-found g xs i x r lt is none here some =
    let rest : List ℕ = drop (suc i) xs in
    let cut : drop i xs ≡ x ∷ rest = drop-cons xs i x lt ∙ ap (λ (y : ℕ). y ∷ rest) (sym is) in
    let all : first_in g xs ≡ option_or (first_in g (take i xs)) (first_in g (drop i xs)) = ap (first_in g) (sym (take-append-drop i xs)) ∙ first_in-append g (take i xs) (drop i xs) in
    found_by g x rest r here some ∙ sym (all ∙ rw (none, cut) refl)
