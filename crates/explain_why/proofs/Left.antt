-- What is left: characters of a text, the first elements of a list, and links.
use Rattle.std.proofs.Common.{◌≡◌, ℕ, zero, suc, Bool, true, false, not, List, [], ◌∷◌, ◌++◌, length, take, drop, Option, Some, None, refl, sym, ap, ◌∙◌, subst, append_assoc}
use Rattle.imkl_population.specs.Population.{Population}
use Rattle.imkl_population.specs.Consistency.{IsConsistent}
use Rattle.ocl_core.specs.Core.{CoreTrees, no_core, one_core}
use Rattle.rule_values.specs.Value.{Element, Value}
use Rattle.ocl_semantics.specs.Meaning.{meanings}
use Rattle.ocl_semantics.specs.Resolved.{AreResolved, AreThere}
use Rattle.ocl_semantics.proofs.ForAbove.{meaning_there}
use Rattle.std.specs.Prelude.{encode_utf8, if◌then◌else◌}
use Rattle.std.specs.List.{flat_map}
use Rattle.std.specs.List.{AllByRecursion, filter}
use Rattle.std.specs.Str.{chars, IsUtf8}
use Rattle.std.proofs.lemmas.Str.{chars-nil, chars_past_char, IsUtf8-past_char}
use Rattle.std.proofs.lemmas.List.{append-nil, nil_from_length, take-map}
use Rattle.owned_values.specs.declared.value.Element.{Element as OwnedElement}
use Rattle.owned_values.specs.Meant.{meant_element, meant_elements, IsElementThere, IsValueThere, AreElementsThere}
use Rattle.explain_why.specs.Turns.{Turn, turns_from, changes, breaks, last_number, is_told, max_turns, told_by, told_turns, IsTurnThere, AreTurnsThere}

-- a truth value by its negation
pub is_so : (b : Bool) → not b ≡ false → b ≡ true
is_so true h = refl
is_so false h = sym h

pub not_true : (b : Bool) → not b ≡ true → b ≡ false
not_true true h = sym h
not_true false h = refl

-- the first n of no characters are none
nothing_taken : (n : ℕ) (xs : List ℕ) → xs ≡ [] → take n xs ≡ []
nothing_taken zero xs none = refl
nothing_taken (suc n) xs none = ap (take (suc n)) none

-- a character comes off a text of which the first n are put, and what it becomes is put
pub first_put : (f : ℕ → List ℕ) (out whole more text left : List ℕ) (n m c : ℕ) → n ≡ suc m → IsUtf8 text → text ≡ encode_utf8 c ++ left → more ≡ out ++ f c → out ++ flat_map f (take n (chars text)) ≡ whole → (more ++ flat_map f (take m (chars left)) ≡ whole) × IsUtf8 left
first_put f out whole more text left n m c counted u is put so_far =
    let same =
    ap (λ xs. xs ++ flat_map f (take m (chars left))) put
    ∙ append_assoc out (f c) (flat_map f (take m (chars left)))
    ∙ ap (λ xs. out ++ flat_map f (take (suc m) xs)) (sym (chars_past_char text left c u is))
    ∙ ap (λ k. out ++ flat_map f (take k (chars text))) (sym counted)
    ∙ so_far in
    (same, IsUtf8-past_char text left c u is)

-- none is left
pub all_first_put : (f : ℕ → List ℕ) (out whole text : List ℕ) (n : ℕ) → length text ≡ 0 → out ++ flat_map f (take n (chars text)) ≡ whole → out ≡ whole
all_first_put f out whole text n none so_far =
    sym (append-nil out)
    ∙ ap (λ xs. out ++ flat_map f xs) (sym (nothing_taken n (chars text) (ap chars (nil_from_length text none) ∙ chars-nil)))
    ∙ so_far

-- three pieces are put one after another
pub three_put : (out one two three a b c : List ℕ) → one ≡ out ++ a → two ≡ one ++ b → three ≡ two ++ c → three ≡ out ++ (a ++ (b ++ c))
three_put out one two three a b c first second third =
    third ∙ ap (λ xs. xs ++ c) (second ∙ ap (λ xs. xs ++ b) first) ∙ append_assoc (out ++ a) b c ∙ append_assoc out a (b ++ c)

-- a text is put between quotes, and its length behind it
pub quoted_put : (out one two three four f l : List ℕ) → one ≡ out ++ (39 ∷ []) → two ≡ one ++ f → three ≡ two ++ (39 ∷ []) → four ≡ three ++ l → four ≡ out ++ (39 ∷ (f ++ (39 ∷ l)))
quoted_put out one two three four f l first second third fourth =
    fourth
    ∙ ap (λ xs. xs ++ l) (three_put out one two three (39 ∷ []) f (39 ∷ []) first second third)
    ∙ append_assoc out (39 ∷ (f ++ (39 ∷ []))) l
    ∙ ap (λ xs. out ++ (39 ∷ xs)) (append_assoc f (39 ∷ []) l)

-- what holds of all elements holds of the first
pub first_all : {X : Type 0} (P : X → Type 0) (xs : List X) (n : ℕ) → AllByRecursion P xs → AllByRecursion P (take n xs)
first_all P xs zero h = tt
first_all P [] (suc n) h = tt
first_all P (x ∷ xs) (suc n) h = (h.0, first_all P xs n h.1)

-- and of the others
pub left_all : {X : Type 0} (P : X → Type 0) (xs : List X) (n : ℕ) → AllByRecursion P xs → AllByRecursion P (drop n xs)
left_all P xs zero h = h
left_all P [] (suc n) h = tt
left_all P (x ∷ xs) (suc n) h = left_all P xs n h.1

pub first_there : (p : Population) (items : List OwnedElement) (n : ℕ) → AreElementsThere p (meant_elements items) → AreElementsThere p (meant_elements (take n items))
first_there p items n h = subst (AreElementsThere p) (take-map meant_element n items) (first_all (IsElementThere p) (meant_elements items) n h)

-- everything is there in what trees mean
pub meanings_there : (p : Population) → IsConsistent p → (ts : CoreTrees) (vars : List Value) → AreResolved p.model ts → AreThere p vars → AreThere p (meanings p ts vars)
meanings_there p sound no_core vars h there = tt
meanings_there p sound (one_core t ts) vars h there = (meaning_there p sound t vars h.0 there, meanings_there p sound ts vars h.1 there)

-- what holds of all holds of those that a test keeps
all_if : {X : Type 0} (P : X → Type 0) (b : Bool) (x : X) (xs : List X) → P x → AllByRecursion P xs → AllByRecursion P (if b then x ∷ xs else xs)
all_if P true x xs first others = (first, others)
all_if P false x xs first others = others

filter_all : {X : Type 0} (P : X → Type 0) (test : X → Bool) (xs : List X) → AllByRecursion P xs → AllByRecursion P (filter test xs)
filter_all P test [] h = tt
filter_all P test (x ∷ xs) h = all_if P (test x) x (filter test xs) h.0 (filter_all P test xs h.1)

-- everything is there in the elements that a test keeps
pub filter_there : (p : Population) (test : Element → Bool) (es : List Element) → AreElementsThere p es → AreElementsThere p (filter test es)
filter_there p test es h = filter_all (IsElementThere p) test es h

-- everything is there in turns, and in those that are told of
pub turns_there : (p : Population) (n : ℕ) (next : Element → Value → Value) (a : Value) (es : List Element) → ((e : Element) (b : Value) → IsElementThere p e → IsValueThere p b → IsValueThere p (next e b)) → IsValueThere p a → AreElementsThere p es → AreTurnsThere p (turns_from n next a es)
turns_there p n next a [] goes_on here h = tt
turns_there p n next a (e ∷ es) goes_on here h = (record { element = h.0; before = here }, turns_there p (suc n) next (next e a) es goes_on (goes_on e a h.0 here) h.1)

told_there_by : (p : Population) (change break : Option ℕ) (ts : List Turn) → AreTurnsThere p ts → AreTurnsThere p (told_by change break ts)
told_there_by p None None ts h = first_all (IsTurnThere p) ts max_turns h
told_there_by p None (Some n) ts h = filter_all (IsTurnThere p) (is_told None (Some n) (length ts)) ts h
told_there_by p (Some m) break ts h = filter_all (IsTurnThere p) (is_told (Some m) break (length ts)) ts h

pub told_there : (p : Population) (ts : List Turn) → AreTurnsThere p ts → AreTurnsThere p (told_turns ts)
unfolding told_turns
told_there p ts h = told_there_by p (last_number changes None ts) (last_number breaks None ts) ts h
