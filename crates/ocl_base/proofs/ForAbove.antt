-- What the crates above cite: steps that may fail, lists that loops read, numbers that pass a test, the items of a stack
-- by their numbers, and the characters of a text.
use Rattle.std.proofs.Common.{◌≡◌, ℕ, zero, suc, ◌+◌, ◌<◌, ◌≤◌, ◌&&◌, ◌||◌, ◌⊎◌, inl, inr, Bool, true, false, if◌then◌else◌, List, [], ◌∷◌, ◌++◌, length, get_or, drop, map, find, Option, Some, None, IfSome, Result, Ok, Err, refl, sym, ap, subst, ◌∙◌, append_assoc, drop-cons, add-one, arith, All}
use Rattle.std.specs.Prelude.{nat_eq, max, is_err, IsOk, OnOk, OnErr}
use Rattle.std.specs.List.{AllByRecursion}
use Rattle.std.specs.Option.{option_or}
use Rattle.std.proofs.lemmas.Bool.{false≢true, or_parts, or_left, or_right, ne_eqb}
use Rattle.std.proofs.lemmas.Bool.Decides.{leb_tells}
use Rattle.std.proofs.lemmas.List.{append-nil, length_push, get_or_at}
use Rattle.std.proofs.lemmas.List.Elements.{All-push}
use Rattle.std.proofs.lemmas.List.Folds.{find-append, list_any-append, list_any_none}
use Rattle.std.proofs.lemmas.Cmp.{nat_eq_equiv}
use Rattle.std.proofs.lemmas.Grind.{common_steps}
use Rattle.std.proofs.Math.Bool.{or-false}
use Rattle.std.proofs.Math.ListN.{drop_of_length-le}
use Rattle.ocl_base.specs.Lists.{is_among, repeats}
use Rattle.ocl_base.specs.Steps.{◌>>=◌, found, each, FaultMeaning, fault, out_of_memory, never, Means, Fails}
use Rattle.ocl_base.specs.Numbers.{places, least}
pub use Rattle.ocl_base.proofs.Stacks.{at_bottom, past_bottom}
pub use Rattle.ocl_base.proofs.Characters.{next_left}

-- ---- steps that succeeded

abbrev pub okay : {A E : Type 0} → A → Result A E
okay x = Ok x

-- two values of one step are one
pub ok_is : {A E : Type 0} (x y : A) → okay {E = E} x ≡ Ok y → x ≡ y
ok_is x y e = cc

-- a step that failed has no value
pub not_okay : {A E : Type 0} (f : E) (y : A) → Err f ≡ okay y → ⊥
not_okay f y e = cc

-- where two steps succeeded, the first did and the second did
pub both_steps : {A B E : Type 0} (r : Result A E) (f : A → Result B E) (y : B) → (r >>= f) ≡ Ok y → (x : A) × (r ≡ Ok x) × (f x ≡ Ok y)
both_steps (Ok x) f y e = (x, refl, e)
both_steps (Err z) f y e = absurd (not_okay z y e)

-- what was found is there
pub found_is : {A E : Type 0} (o : Option A) (z : E) (x : A) → found o z ≡ Ok x → o ≡ Some x
found_is None z x e = absurd (not_okay z x e)
found_is (Some y) z x e = ap (λ (v : _). Some v) (ok_is y x e)

-- ---- calls that may fail

-- what a call that is no error says on success
pub on_success : {A E : Type 0} (r : Result A E) (P : Type 0) → is_err r ≡ false → OnOk r P → P
on_success (Ok x) P e h = h
on_success (Err x) P e h = absurd (false≢true (sym e))

-- what holds anyway holds on an error
pub anyway_on_err : {A E : Type 0} (r : Result A E) (P : Type 0) → P → OnErr r P
anyway_on_err (Ok x) P h = tt
anyway_on_err (Err e) P h = h

-- a call that succeeded gave no error
pub not_both : {A E : Type 0} (r : Result A E) (e : E) → r ≡ Err e → IsOk r → ⊥
not_both (Ok x) e is h = cc
not_both (Err x) e is h = let bad = h in cc

-- ---- tests and numbers

-- two tests of which each passes where the other does
pub same_test : (a b : Bool) → (a ≡ true → b ≡ true) → (b ≡ true → a ≡ true) → a ≡ b
same_test true b to back = sym (to refl)
same_test false true to back = back refl
same_test false false to back = refl

-- the greatest of three, whichever two are compared first
pub max_assoc : (a b c : ℕ) → max a (max b c) ≡ max (max a b) c
max_assoc a b c = omega arith

-- ---- each of a list

-- the first and the others
pub each_first : {X A E : Type 0} (f : X → Result A E) (x : X) (xs : List X) (ys : List A) → each f (x ∷ xs) ≡ Ok ys → (y : A) × (zs : List A) × (f x ≡ Ok y) × (each f xs ≡ Ok zs) × (ys ≡ y ∷ zs)
unfolding each
each_first f x xs ys e =
    let p = both_steps (f x) (λ y. each f xs >>= λ zs. Ok (y ∷ zs)) ys e in
    let q = both_steps (each f xs) (λ zs. Ok (p.0 ∷ zs)) ys p.2 in
    (p.0, q.0, p.1, q.1, sym (ok_is (p.0 ∷ q.0) ys q.2))

-- of no elements, no values
pub each_nothing : {X A E : Type 0} (f : X → Result A E) (ys : List A) → each f [] ≡ Ok ys → ys ≡ []
unfolding each
each_nothing f ys e = sym (ok_is [] ys e)

-- as many as there were
pub each_length : {X A E : Type 0} (f : X → Result A E) (xs : List X) (ys : List A) → each f xs ≡ Ok ys → length ys ≡ length xs
each_length f [] ys e = rw (each_nothing f ys e) refl
each_length f (x ∷ xs) ys e = let p = each_first f x xs ys e in rw p.4 (ap suc (each_length f xs p.1 p.3))

-- the one at an index
pub each_at : {X A E : Type 0} (f : X → Result A E) (xs : List X) (ys : List A) (i : ℕ) (d : X) (a : A) → each f xs ≡ Ok ys → i < length xs → f (get_or xs i d) ≡ Ok (get_or ys i a)
each_at f [] ys i d a e lt = absurd (omega (arith, lt))
each_at f (x ∷ xs) ys zero d a e lt = let p = each_first f x xs ys e in rw p.4 p.2
each_at f (x ∷ xs) ys (suc i) d a e lt = let p = each_first f x xs ys e in rw p.4 (each_at f xs p.1 i d a p.3 (omega (arith, lt)))

-- what each keeps of what it came from
pub each_map : {X A B E : Type 0} (f : X → Result A E) (g : A → B) (h : X → B) → ((x : X) (y : A) → f x ≡ Ok y → g y ≡ h x) → (xs : List X) (ys : List A) → each f xs ≡ Ok ys → map g ys ≡ map h xs
each_map f g h same [] ys e = rw (each_nothing f ys e) refl
each_map {B = B} f g h same (x ∷ xs) ys e =
    let p = each_first f x xs ys e in
    rw (p.4, same x p.0 p.2) (ap (λ (l : List B). h x ∷ l) (each_map f g h same xs p.1 p.3))

-- ---- what holds of each element, by recursion

-- what holds of each element holds of the one at an index
pub all_at : {X : Type 0} (P : X → Type 0) (xs : List X) → AllByRecursion P xs → (i : ℕ) (d : X) → i < length xs → P (get_or xs i d)
all_at P [] h i d lt = absurd (omega (arith, lt))
all_at P (x ∷ xs) h zero d lt = h.0
all_at P (x ∷ xs) h (suc i) d lt = all_at P xs h.1 i d (omega (arith, lt))

-- what holds of the element at each index holds of each element
pub from_all : {X : Type 0} (P : X → Type 0) (xs : List X) → All P xs → AllByRecursion P xs
from_all P [] h = tt
from_all P (x ∷ xs) h = (h 0 x (omega arith), from_all P xs (λ k d lt. h (suc k) d (omega (arith, lt))))

-- what follows from what holds of each element holds of each
pub all_weaker : {X : Type 0} (P Q : X → Type 0) → ((x : X) → P x → Q x) → (xs : List X) → AllByRecursion P xs → AllByRecursion Q xs
all_weaker P Q f [] h = tt
all_weaker P Q f (x ∷ xs) h = (f x h.0, all_weaker P Q f xs h.1)

-- what holds of each element of two lists holds of each element of the two joined
pub all_joined : {X : Type 0} (P : X → Type 0) (xs ys : List X) → AllByRecursion P xs → AllByRecursion P ys → AllByRecursion P (xs ++ ys)
all_joined P [] ys h g = g
all_joined P (x ∷ xs) ys h g = (h.0, all_joined P xs ys h.1 g)

-- where each element has one property, what is made of each has the property that follows from it
pub all_mapped : {X Y : Type 0} (P : X → Type 0) (Q : Y → Type 0) (f : X → Y) → ((x : X) → P x → Q (f x)) → (xs : List X) → AllByRecursion P xs → AllByRecursion Q (map f xs)
all_mapped P Q f step [] h = tt
all_mapped P Q f step (x ∷ xs) h = (step x h.0, all_mapped P Q f step xs h.1)

-- what each step gives, each element keeps
pub all_each : {X A E : Type 0} (f : X → Result A E) (Q : A → Type 0) → ((x : X) (y : A) → f x ≡ Ok y → Q y) → (xs : List X) (ys : List A) → each f xs ≡ Ok ys → AllByRecursion Q ys
all_each f Q step [] ys e = rw (each_nothing f ys e) tt
all_each f Q step (x ∷ xs) ys e = let p = each_first f x xs ys e in rw p.4 (step x p.0 p.2, all_each f Q step xs p.1 p.3)

-- ---- lists in which nothing stands twice

stands_among : {X : Type 0} (same : X → X → Bool) (none : X) → ((x y : X) → x ≡ y → same x y ≡ true) → (x : X) (xs : List X) (j : ℕ) → j < length xs → x ≡ get_or xs j none → is_among same xs x ≡ true
stands_among same none equal x [] j lt e = absurd (omega (arith, lt))
stands_among same none equal x (y ∷ ys) zero lt e = or_left (same x y) (is_among same ys x) (equal x y e)
stands_among same none equal x (y ∷ ys) (suc j) lt e = or_right (same x y) (is_among same ys x) (stands_among same none equal x ys j (omega (arith, lt)) e)

-- each element stands at one index
pub stands_once : {X : Type 0} (same : X → X → Bool) (none : X) → ((x y : X) → x ≡ y → same x y ≡ true) → (xs : List X) (i j : ℕ) → repeats same xs ≡ false → i < length xs → j < length xs → get_or xs i none ≡ get_or xs j none → i ≡ j
stands_once same none equal [] i j apart li lj e = absurd (omega (arith, li))
stands_once same none equal (x ∷ xs) zero zero apart li lj e = refl
stands_once same none equal (x ∷ xs) zero (suc j) apart li lj e = absurd (false≢true (sym (or_parts (is_among same xs x) (repeats same xs) apart).0 ∙ stands_among same none equal x xs j (omega (arith, lj)) e))
stands_once same none equal (x ∷ xs) (suc i) zero apart li lj e = absurd (false≢true (sym (or_parts (is_among same xs x) (repeats same xs) apart).0 ∙ stands_among same none equal x xs i (omega (arith, li)) (sym e)))
stands_once same none equal (x ∷ xs) (suc i) (suc j) apart li lj e = ap suc (stands_once same none equal xs i j (or_parts (is_among same xs x) (repeats same xs) apart).1 (omega (arith, li)) (omega (arith, lj)) e)

-- what is among them and one more
pub among_push : {X : Type 0} (same : X → X → Bool) (xs : List X) (y z : X) → is_among same (xs ++ y ∷ []) z ≡ (is_among same xs z || same z y)
among_push same xs y z = list_any-append (same z) xs (y ∷ []) ∙ ap (λ b. is_among same xs z || b) (or-false (same z y))

-- one more that isn't among them
pub apart_push : {X : Type 0} (same : X → X → Bool) → ((x y : X) → same x y ≡ same y x) → (xs : List X) (y : X) → repeats same xs ≡ false → is_among same xs y ≡ false → repeats same (xs ++ y ∷ []) ≡ false
apart_push same either_way [] y apart none = refl
apart_push same either_way (x ∷ xs) y apart none =
    let p = or_parts (is_among same xs x) (repeats same xs) apart in
    let q = or_parts (same y x) (is_among same xs y) none in
    let here : is_among same (xs ++ y ∷ []) x ≡ false = among_push same xs y x ∙ rw (p.0, either_way x y, q.0) refl in
    rw (here, apart_push same either_way xs y p.1 q.1) refl

again_by : {X : Type 0} (same : X → X → Bool) (b : Bool) (x : X) (xs : List X) (y : X) (ys : List X) → same x y ≡ b → (is_among same xs y ≡ true → repeats same (xs ++ y ∷ ys) ≡ true) → (b || is_among same xs y) ≡ true → repeats same (x ∷ (xs ++ y ∷ ys)) ≡ true
again_by same true x xs y ys e later there =
    let here : is_among same (xs ++ y ∷ ys) x ≡ true = list_any-append (same x) xs (y ∷ ys) ∙ or_right (is_among same xs x) (is_among same (y ∷ ys) x) (or_left (same x y) (is_among same ys x) e) in
    or_left (is_among same (xs ++ y ∷ ys) x) (repeats same (xs ++ y ∷ ys)) here
again_by same false x xs y ys e later there = or_right (is_among same (xs ++ y ∷ ys) x) (repeats same (xs ++ y ∷ ys)) (later there)

-- one of them that comes again
pub found_again : {X : Type 0} (same : X → X → Bool) → ((x y : X) → same x y ≡ same y x) → (xs : List X) (y : X) (ys : List X) → is_among same xs y ≡ true → repeats same (xs ++ y ∷ ys) ≡ true
found_again same either_way [] y ys there = absurd (false≢true there)
found_again same either_way (x ∷ xs) y ys there = again_by same (same y x) x xs y ys (either_way x y) (found_again same either_way xs y ys) there

among-map : {X Y : Type 0} (same : Y → Y → Bool) (f : X → Y) (xs : List X) (x : X) → is_among same (map f xs) (f x) ≡ is_among (λ y z. same (f y) (f z)) xs x
among-map same f [] x = refl
among-map same f (y ∷ ys) x = ap (λ b. same (f x) (f y) || b) (among-map same f ys x)

-- values by what is made of them
pub repeats-map : {X Y : Type 0} (same : Y → Y → Bool) (f : X → Y) (xs : List X) → repeats same (map f xs) ≡ repeats (λ x y. same (f x) (f y)) xs
repeats-map same f [] = refl
repeats-map same f (x ∷ xs) = rw (among-map same f xs x, repeats-map same f xs) refl

-- ---- faults

means_whole : {A B F : Type 0} (m : FaultMeaning F) (r : Result A F) (f : A → Result B F) → Means m r → Means m (r >>= f)
means_whole (fault e) r f h = rw h refl
means_whole out_of_memory r f h = tt
means_whole never r f h = absurd h

-- a step's fault is the fault of the whole
pub fails_whole : {E A B F : Type 0} (meaning : E → FaultMeaning F) (e : E) (r : Result A F) (f : A → Result B F) (total : Result B F) → (r >>= f) ≡ total → Fails meaning e r → Fails meaning e total
fails_whole meaning e r f total is h = let P : Result _ _ → Type 0 = λ q. Means (meaning e) q in subst P is (means_whole (meaning e) r f h)

-- a fault of a step is the fault of an equal step
pub fails_along : {E A F : Type 0} (meaning : E → FaultMeaning F) (e : E) (r s : Result A F) → r ≡ s → Fails meaning e r → Fails meaning e s
fails_along meaning e r s same h = let P : Result _ _ → Type 0 = λ q. Means (meaning e) q in subst P same h

-- ---- reading each of a list, as a loop does

-- what was read before, and what is still read
abbrev pub with_front : {A E : Type 0} → List A → Result (List A) E → Result (List A) E
with_front front read = read >>= λ xs. Ok (front ++ xs)

one_more : {A E : Type 0} (front : List A) (r : Result A E) (read : Result (List A) E) → with_front front (r >>= λ x. read >>= λ xs. Ok (x ∷ xs)) ≡ (r >>= λ x. with_front (front ++ x ∷ []) read)
one_more {A} front (Ok x) (Ok xs) = ap (λ (ys : List A). Ok ys) (simp append_assoc)
one_more front (Ok x) (Err e) = refl
one_more front (Err e) read = refl

-- where nothing was read before, what is still read is the whole
pub none_before : {A E : Type 0} (read : Result (List A) E) → with_front [] read ≡ read
none_before (Ok xs) = refl
none_before (Err e) = refl

-- the whole, by what is still read: the next one and more, or nothing
module _ {D A E : Type 0} (f : D → Result A E) (front : List A) (rest : List D) (total : Result (List A) E) (so_far : with_front front (each f rest) ≡ total) where
  first_is : (d : D) (more : List D) → rest ≡ d ∷ more → (f d >>= λ x. with_front (front ++ x ∷ []) (each f more)) ≡ total
  unfolding each
  first_is d more is = sym (one_more front (f d) (each f more)) ∙ (rw is at so_far)

  none_is : rest ≡ [] → total ≡ Ok front
  unfolding each
  none_is is = sym (rw is at so_far) ∙ ap (λ (xs : List A). Ok xs) (append-nil front)

-- a list as it stands: the next element, what is read of it, and the end
pub next_plain : {V A E : Type 0} (f : V → Result A E) (front : List A) (vs : List V) (i : ℕ) (v : V) (total : Result (List A) E)
    → i < length vs → v ≡ get_or vs i v → with_front front (each f (drop i vs)) ≡ total → (f v >>= λ x. with_front (front ++ x ∷ []) (each f (drop (i + 1) vs))) ≡ total
next_plain f front vs i v total lt is so_far = first_is f front (drop i vs) total so_far v (drop (i + 1) vs) (rw (add-one, drop-cons vs i v, ← is) refl)

-- the next element was read: its value joins what was read before
pub goes_on_plain : {V A E : Type 0} (f : V → Result A E) (front : List A) (vs : List V) (i : ℕ) (v : V) (x : A) (total : Result (List A) E)
    → i < length vs → v ≡ get_or vs i v → f v ≡ Ok x → with_front front (each f (drop i vs)) ≡ total → with_front (front ++ x ∷ []) (each f (drop (i + 1) vs)) ≡ total
goes_on_plain f front vs i v x total lt is h so_far = rw h at (next_plain f front vs i v total lt is so_far)

-- nothing is left: what was read before is the whole
pub is_done_plain : {V A E : Type 0} (f : V → Result A E) (front : List A) (vs : List V) (i : ℕ) (total : Result (List A) E)
    → length vs ≤ i → with_front front (each f (drop i vs)) ≡ total → total ≡ Ok front
is_done_plain f front vs i total le so_far = none_is f front (drop i vs) total so_far (drop_of_length-le vs le)

-- the next element's fault is the fault of the whole
pub ends_plain : {V A E F : Type 0} (meaning : E → FaultMeaning F) (f : V → Result A F) (e : E) (front : List A) (vs : List V) (i : ℕ) (v : V) (total : Result (List A) F)
    → i < length vs → v ≡ get_or vs i v → Fails meaning e (f v) → with_front front (each f (drop i vs)) ≡ total → Fails meaning e total
ends_plain meaning f e front vs i v total lt is h so_far = fails_whole meaning e (f v) _ total (next_plain f front vs i v total lt is so_far) h

-- the same four of a list whose elements are seen by a view
pub next : {V D A E : Type 0} (f : D → Result A E) (view : V → D) (front : List A) (vs : List V) (i : ℕ) (v : V) (total : Result (List A) E)
    → i < length vs → v ≡ get_or vs i v → with_front front (each f (map view (drop i vs))) ≡ total → (f (view v) >>= λ x. with_front (front ++ x ∷ []) (each f (map view (drop (i + 1) vs)))) ≡ total
next f view front vs i v total lt is so_far =
    first_is f front (map view (drop i vs)) total so_far (view v) (map view (drop (i + 1) vs)) (rw (add-one, drop-cons vs i v, ← is) refl)

pub goes_on : {V D A E : Type 0} (f : D → Result A E) (view : V → D) (front : List A) (vs : List V) (i : ℕ) (v : V) (x : A) (total : Result (List A) E)
    → i < length vs → v ≡ get_or vs i v → f (view v) ≡ Ok x → with_front front (each f (map view (drop i vs))) ≡ total → with_front (front ++ x ∷ []) (each f (map view (drop (i + 1) vs))) ≡ total
goes_on f view front vs i v x total lt is h so_far = rw h at (next f view front vs i v total lt is so_far)

pub is_done : {V D A E : Type 0} (f : D → Result A E) (view : V → D) (front : List A) (vs : List V) (i : ℕ) (total : Result (List A) E)
    → length vs ≤ i → with_front front (each f (map view (drop i vs))) ≡ total → total ≡ Ok front
is_done f view front vs i total le so_far = none_is f front (map view (drop i vs)) total so_far (rw (drop_of_length-le vs le) refl)

pub ends : {V D A E F : Type 0} (meaning : E → FaultMeaning F) (f : D → Result A F) (view : V → D) (e : E) (front : List A) (vs : List V) (i : ℕ) (v : V) (total : Result (List A) F)
    → i < length vs → v ≡ get_or vs i v → Fails meaning e (f (view v)) → with_front front (each f (map view (drop i vs))) ≡ total → Fails meaning e total
ends meaning f view e front vs i v total lt is h so_far = fails_whole meaning e (f (view v)) _ total (next f view front vs i v total lt is so_far) h

-- ---- numbers that pass a test

pushed : (P : ℕ → Type 0) (b : Bool) (n : ℕ) (xs : List ℕ) → All P xs → (b ≡ true → P n) → All P (xs ++ (if b then n ∷ [] else []))
pushed P true n xs h here = All-push P xs n h (here refl)
pushed P false n xs h here = subst (All P) (sym (append-nil xs)) h

-- they are below the bound
pub places_below : (p : ℕ → Bool) (n : ℕ) → All (λ k. k < n) (places p n)
places_below p zero = λ k d lt. absurd (omega (arith, lt))
places_below p (suc n) =
    let before : All (λ k. k < suc n) (places p n) = λ k d lt. let h = places_below p n k d lt in omega (arith, h) in
    pushed (λ k. k < suc n) (p n) n (places p n) before (λ e. omega arith)

-- they pass
pub places_pass : (p : ℕ → Bool) (n : ℕ) → All (λ k. p k ≡ true) (places p n)
places_pass p zero = λ k d lt. absurd (omega (arith, lt))
places_pass p (suc n) = pushed (λ k. p k ≡ true) (p n) n (places p n) (places_pass p n) (λ e. e)

-- none of them stands twice
pub places_apart : (p : ℕ → Bool) (n : ℕ) → repeats nat_eq (places p n) ≡ false
places_apart p zero = refl
places_apart p (suc n) = by_test (p n) (places_apart p n)
  where
    later : is_among nat_eq (places p n) n ≡ false
    later = list_any_none (nat_eq n) (places p n) (λ k d lt. ne_eqb n (get_or (places p n) k d) (λ same. absurd (omega (arith, same, places_below p n k d lt))))

    by_test : (b : Bool) → repeats nat_eq (places p n) ≡ false → repeats nat_eq (places p n ++ (if b then n ∷ [] else [])) ≡ false
    by_test true apart = apart_push nat_eq nat_eq_equiv.symm (places p n) n apart later
    by_test false apart = subst (λ xs. repeats nat_eq xs ≡ false) (sym (append-nil (places p n))) apart

-- a number stands in a list
abbrev pub IsThere : ℕ → List ℕ → Type 0
IsThere g xs = (k : ℕ) × (k < length xs) × (get_or xs k 0 ≡ g)

get_or_left : (xs : List ℕ) (n k : ℕ) → k < length xs → get_or (xs ++ n ∷ []) k 0 ≡ get_or xs k 0
get_or_left xs n k lt = grind (arith, common_steps)

there : (b : Bool) (n g : ℕ) (xs : List ℕ) → (g ≡ n → b ≡ true) → (g ≡ n) ⊎ IsThere g xs → IsThere g (xs ++ (if b then n ∷ [] else []))
there true n g xs passes (inl e) = (length xs, omega (arith, length_push xs n), get_or_at xs n [] 0 (length xs) refl ∙ sym e)
there true n g xs passes (inr w) = (w.0, omega (arith, w.1, length_push xs n), get_or_left xs n w.0 w.1 ∙ w.2)
there false n g xs passes (inl e) = absurd (false≢true (passes e))
there false n g xs passes (inr w) = subst (IsThere g) (sym (append-nil xs)) w

either : (p : ℕ → Bool) (n g : ℕ) → g < suc n → ((g < n) → IsThere g (places p n)) → (g ≡ n) ⊎ IsThere g (places p n)
either p n g lt before = elim (leb_tells n g) [ inl h ↦ inl (omega arith) | inr h ↦ inr (before h.1) ]

-- each that is below the bound and passes is there
pub place_of : (p : ℕ → Bool) (n g : ℕ) → g < n → p g ≡ true → IsThere g (places p n)
place_of p zero g lt passes = absurd (omega arith)
place_of p (suc n) g lt passes =
    there (p n) n g (places p n) (λ e. ap p (sym e) ∙ passes) (either p n g lt (λ less. place_of p n g less passes))

find_step : (a : Bool) (q : ℕ → Bool) (n : ℕ) (xs : List ℕ) → find q (xs ++ (if a then n ∷ [] else [])) ≡ option_or (find q xs) (if a && q n then Some n else None)
find_step true q n xs = find-append q xs (n ∷ [])
find_step false q n xs = find-append q xs []

-- the first of them that passes a second test is the least that passes both
pub find_places : (p q : ℕ → Bool) (n : ℕ) → find q (places p n) ≡ least (λ k. p k && q k) n
find_places p q zero = refl
find_places p q (suc n) = find_step (p n) q n (places p n) ∙ ap (λ (o : Option ℕ). option_or o (if p n && q n then Some n else None)) (find_places p q n)

least_or : (p : ℕ → Bool) (n : ℕ) (o : Option ℕ) (b : Bool) → p n ≡ b → IfSome o (λ k. (k < n) × (p k ≡ true)) → IfSome (option_or o (if b then Some n else None)) (λ k. (k < suc n) × (p k ≡ true))
least_or p n (Some k) b e h = (omega (arith, h.0), h.1)
least_or p n None true e h = (omega arith, e)
least_or p n None false e h = tt

-- the least number is below the bound and passes
pub least_passes : (p : ℕ → Bool) (n : ℕ) → IfSome (least p n) (λ k. (k < n) × (p k ≡ true))
least_passes p zero = tt
least_passes p (suc n) = least_or p n (least p n) (p n) refl (least_passes p n)

found_or : (p : ℕ → Bool) (n : ℕ) (o : Option ℕ) (b : Bool) → p n ≡ b → (p n ≡ true) ⊎ ((j : ℕ) × (o ≡ Some j)) → (j : ℕ) × (option_or o (if b then Some n else None) ≡ Some j)
found_or p n (Some j) b e h = (j, refl)
found_or p n None true e h = (n, refl)
found_or p n None false e (inl h) = absurd (false≢true (sym e ∙ h))
found_or p n None false e (inr h) = absurd (let none : None ≡ Some h.0 = h.1 in cc)

-- where a number passes, there is a least
pub least_found : (p : ℕ → Bool) (n k : ℕ) → k < n → p k ≡ true → (j : ℕ) × (least p n ≡ Some j)
least_found p zero k lt passes = absurd (omega (arith, lt))
least_found p (suc n) k lt passes =
    found_or p n (least p n) (p n) refl (elim (leb_tells n k) [
      | inl h ↦ let same : k ≡ n = omega (arith, h.1, lt) in inl (ap p (sym same) ∙ passes)
      | inr h ↦ inr (least_found p n k h.1 passes)
    ])

-- a number that passes is the least, where no other passes
pub least_is : (p : ℕ → Bool) (n k : ℕ) → k < n → p k ≡ true → ((j : ℕ) → j < n → p j ≡ true → j ≡ k) → least p n ≡ Some k
least_is p n k lt passes only =
    let w = least_found p n k lt passes in
    let h : IfSome (Some w.0) (λ j. (j < n) × (p j ≡ true)) = subst (λ (o : Option ℕ). IfSome o (λ j. (j < n) × (p j ≡ true))) w.1 (least_passes p n) in
    w.1 ∙ ap (λ (j : ℕ). Some j) (only w.0 h.0 h.1)
