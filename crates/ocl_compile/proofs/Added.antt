-- What is added to a list unless it is there, and what a unit takes of lists that grow so.
use Rattle.std.proofs.Common.{◌≡◌, ℕ, ◌+◌, ◌≤◌, ◌||◌, Bool, true, false, cond, if◌then◌else◌, List, [], ◌∷◌, ◌++◌, length, Some, Err, position, is_some, bytes_eq, refl, sym, ap, ◌∙◌, subst, arith, length-append}
use Rattle.std.specs.List.{list_any, position_from}
use Rattle.std.proofs.Math.Bool.{or-false}
use Rattle.std.proofs.lemmas.Bool.{or_right}
use Rattle.std.proofs.lemmas.Iterator.Adapters.{position_from-zero}
use Rattle.std.proofs.lemmas.List.Folds.{list_any-append}
use Rattle.std.proofs.lemmas.Slice.Eq.{bytes_eq-Decides}
use Rattle.ocl_base.specs.Lists.{is_among}
use Rattle.imkl_model.specs.ClassModel.{Model}
use Rattle.rule_verify.specs.declared.named.Named.{Named}
use Rattle.ocl_compile.specs.Numbering.{Numbering, Use, UsedText, UsedSymbol, same_named, names_of_symbol, once_more, with_texts, with_use, with_uses}
use Rattle.ocl_compile.specs.declared.limits.TheConstants.{MAX_COUNTED}
use Rattle.ocl_compile.specs.Compiling.{is_long_text}
use Rattle.ocl_compile.specs.declared.numbers.NumberFault.{NumberFault}
use Rattle.ocl_compile.specs.declared.numbers.NumberFault.TheVariants as faults
use Rattle.ocl_compile.specs.NumberWalk.{FitsUnit, NumbersTo}

from_any : {A : Type 0} (p : A → Bool) (xs : List A) (i : ℕ) → is_some (position_from p i xs) ≡ list_any p xs
from_any p [] i = refl
from_any p (x ∷ xs) i = by_test (p x) (from_any p xs (i + 1))
  where
    by_test : (b : Bool) → is_some (position_from p (i + 1) xs) ≡ list_any p xs → is_some (cond b (Some i) (position_from p (i + 1) xs)) ≡ (b || list_any p xs)
    by_test true later = refl
    by_test false later = later

-- what has a place is there
placed_is_among : {A : Type 0} (same : A → A → Bool) (xs : List A) (x : A) → is_some (position (same x) xs) ≡ is_among same xs x
placed_is_among same xs x = ap is_some (position_from-zero (same x) xs) ∙ from_any (same x) xs 0

-- a list stays as it is when what has a place in it is added once more, and else it has one more at its end
pub once_there : {A : Type 0} (same : A → A → Bool) (xs : List A) (x : A) → is_some (position (same x) xs) ≡ true → once_more same xs x ≡ xs
once_there same xs x e = ap (λ (b : Bool). if b then xs else xs ++ x ∷ []) (sym (placed_is_among same xs x) ∙ e)

pub once_new : {A : Type 0} (same : A → A → Bool) (xs : List A) (x : A) → is_some (position (same x) xs) ≡ false → once_more same xs x ≡ xs ++ x ∷ []
once_new same xs x e = ap (λ (b : Bool). if b then xs else xs ++ x ∷ []) (sym (placed_is_among same xs x) ∙ e)

-- nothing new can be added to as many as a unit takes
pub none_more : {A : Type 0} (same : A → A → Bool) (xs : List A) (x : A) → is_some (position (same x) xs) ≡ false → length xs ≡ MAX_COUNTED → length (once_more same xs x) ≤ MAX_COUNTED → ⊥
none_more same xs x e full le = omega (arith, length-append xs (x ∷ []), full, subst (λ ys. length ys ≤ MAX_COUNTED) (once_new same xs x e) le)

-- ---- long texts

among_any : (p : List ℕ → Bool) (xs : List (List ℕ)) (t : List ℕ) → p t ≡ true → is_among bytes_eq xs t ≡ true → list_any p xs ≡ true
among_any p [] t h e = e
among_any p (x ∷ xs) t h e = by_test (bytes_eq t x) refl e (among_any p xs t h)
  where
    by_test : (b : Bool) → bytes_eq t x ≡ b → (b || is_among bytes_eq xs t) ≡ true → (is_among bytes_eq xs t ≡ true → list_any p xs ≡ true) → (p x || list_any p xs) ≡ true
    by_test true is e later = rw (sym (ap p ((bytes_eq-Decides t x).0 is)) ∙ h) refl
    by_test false is e later = or_right (p x) (list_any p xs) (later e)

-- a text added once is one more of those that a test finds
pub once_any : (p : List ℕ → Bool) (xs : List (List ℕ)) (t : List ℕ) → list_any p (once_more bytes_eq xs t) ≡ (list_any p xs || p t)
once_any p xs t = by_test (is_among bytes_eq xs t) refl
  where
    found : (b : Bool) → p t ≡ b → is_among bytes_eq xs t ≡ true → list_any p xs ≡ (list_any p xs || p t)
    found true h e = among_any p xs t h e ∙ sym (rw (among_any p xs t h e) refl)
    found false h e = sym (rw h (or-false (list_any p xs)))

    by_test : (b : Bool) → is_among bytes_eq xs t ≡ b → list_any p (if b then xs else xs ++ t ∷ []) ≡ (list_any p xs || p t)
    by_test true e = found (p t) refl e
    by_test false e = list_any-append p xs (t ∷ []) ∙ ap (λ (b : Bool). list_any p xs || b) (or-false (p t))

-- ---- what a unit takes, it took before more was added

-- each of two tests that fail together
pub or_parts : (a b : Bool) → (a || b) ≡ false → (a ≡ false) × (b ≡ false)
or_parts true b e = cc
or_parts false b e = (refl, e)

once_longer : {A : Type 0} (same : A → A → Bool) (xs : List A) (x : A) → length xs ≤ length (once_more same xs x)
once_longer same xs x = by_test (is_among same xs x)
  where
    by_test : (b : Bool) → length xs ≤ length (if b then xs else xs ++ x ∷ [])
    by_test true = omega arith
    by_test false = omega (arith, length-append xs (x ∷ []))

fit_before_texts : (symbols : List Named) (texts ts : List (List ℕ)) → FitsUnit (record { texts = with_texts texts ts; symbols = symbols }) → FitsUnit (record { texts = texts; symbols = symbols })
fit_before_texts symbols texts [] h = h
fit_before_texts symbols texts (t ∷ ts) h =
    let later = fit_before_texts symbols (once_more bytes_eq texts t) ts h in (
      (omega (arith, once_longer bytes_eq texts t, later.0.0), later.0.1),
      (or_parts (list_any is_long_text texts) (is_long_text t) (sym (once_any is_long_text texts t) ∙ later.1)).0,
    )

fit_before_symbol : (texts : List (List ℕ)) (symbols : List Named) (s : Named) → FitsUnit (record { texts = texts; symbols = once_more same_named symbols s }) → FitsUnit (record { texts = texts; symbols = symbols })
fit_before_symbol texts symbols s h = ((h.0.0, omega (arith, once_longer same_named symbols s, h.0.1)), h.1)

fit_before_use : (m : Model) (n : Numbering) (u : Use) → FitsUnit (with_use m n u) → FitsUnit n
fit_before_use m n (UsedText t) h = fit_before_texts n.symbols n.texts (t ∷ []) h
fit_before_use m n (UsedSymbol s) h =
    fit_before_texts n.symbols n.texts (names_of_symbol m s) (fit_before_symbol (with_texts n.texts (names_of_symbol m s)) n.symbols s h)

-- a unit that takes a numbering took it before some uses were numbered
pub fit_before : (m : Model) (n : Numbering) (us : List Use) → FitsUnit (with_uses m n us) → FitsUnit n
fit_before m n [] h = h
fit_before m n (u ∷ us) h = fit_before_use m n u (fit_before m (with_use m n u) us h)

-- adding texts stops where adding the first of them does
pub stopped_text : (e : NumberFault) (new later : Numbering) (symbols : List Named) (texts : List (List ℕ)) (t : List ℕ) (ts whole : List (List ℕ)) → NumbersTo (Err e) new (record { texts = once_more bytes_eq texts t; symbols = symbols }) → whole ≡ t ∷ ts → NumbersTo (Err e) later (record { texts = with_texts texts whole; symbols = symbols })
stopped_text faults.TooLarge new later symbols texts t ts whole h is = λ fits.
    h (fit_before_texts symbols (once_more bytes_eq texts t) ts (subst (λ (us : List (List ℕ)). FitsUnit (record { texts = with_texts texts us; symbols = symbols })) is fits))
stopped_text faults.OutOfMemory new later symbols texts t ts whole h is = tt
