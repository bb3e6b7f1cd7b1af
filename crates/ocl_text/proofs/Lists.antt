-- A list with commas reads the same under every number of turns that is enough, and can be completed where it stops.
use Rattle.std.proofs.Common.{◌≡◌, ℕ, zero, suc, ◌≤◌, ◌<◌, List, [], ◌∷◌, ◌++◌, length, drop, Ok, Err, refl, ap, ◌∙◌, arith, IfOk}
use Rattle.std.specs.Prelude.{if◌then◌else◌}
use Rattle.ocl_tokens.specs.Terminals.{Terminal}
use Rattle.ocl_base.specs.Steps.{◌>>=◌}
use Rattle.ocl_text.specs.Grammar.{next_is, separates}
use Rattle.ocl_text.specs.Parse.{syntax, Reading, Reader, items}
use Rattle.ocl_text.proofs.Prefixes.{Sees, bind_from, sees_as, pass, either}
use Rattle.ocl_text.proofs.Stops.{May, stops, may_not}
use Rattle.ocl_text.proofs.Spelled.{stop_separates}

-- nothing is longer after it is read
abbrev pub Shortens : {A : Type 0} → Reader A → Type 0
Shortens p = (ts : List Terminal) → IfOk (p ts) (λ x. length x.1 ≤ length ts)

abbrev pub listed : {A : Type 0} → Reader A → List A → Reader (List A)
listed item found us = items item (length us) found us

abbrev turn : {A : Type 0} → Reader A → List A → A → Reader (List A)
turn item found x us = if next_is separates us then listed item (found ++ x ∷ []) (drop 1 us) else Ok (found ++ x ∷ [], us)

module _ {A : Type 0} (item : Reader A) (shortens : Shortens item) (empty : item [] ≡ Err (syntax [])) where
  enough : (f g : ℕ) (found : List A) (us : List Terminal) → length us ≤ f → length us ≤ g → items item f found us ≡ items item g found us
  unfolding items
  enough zero zero found us h k = refl
  enough zero (suc g) found [] h k = rw empty refl
  enough zero (suc g) found (t ∷ us) h k = absurd (omega (arith, h))
  enough (suc f) zero found [] h k = rw empty refl
  enough (suc f) zero found (t ∷ us) h k = absurd (omega (arith, k))
  enough (suc f) (suc g) found us h k = by (item us) (shortens us) (enough f g)
    where
      by : (r : Reading A) → IfOk r (λ x. length x.1 ≤ length us) → ((found : List A) (vs : List Terminal) → length vs ≤ f → length vs ≤ g → items item f found vs ≡ items item g found vs)
          → (r >>= λ x. if next_is separates x.1 then items item f (found ++ x.0 ∷ []) (drop 1 x.1) else Ok (found ++ x.0 ∷ [], x.1)) ≡ (r >>= λ x. if next_is separates x.1 then items item g (found ++ x.0 ∷ []) (drop 1 x.1) else Ok (found ++ x.0 ∷ [], x.1))
      by (Err e) s more = refl
      by (Ok (x, [])) s more = refl
      by (Ok (x, t ∷ rest)) s more = ap (λ r. if separates t.kind then r else Ok (found ++ x ∷ [], t ∷ rest)) (more (found ++ x ∷ []) rest (omega (arith, s, h)) (omega (arith, s, k)))

  listed_is : (found : List A) (us : List Terminal) → listed item found us ≡ (item us >>= λ x. turn item found x.0 x.1)
  unfolding items
  listed_is found us = enough (length us) (suc (length us)) found us (omega arith) (omega arith) ∙ by (item us) (shortens us)
    where
      by : (r : Reading A) → IfOk r (λ x. length x.1 ≤ length us) → (r >>= λ x. if next_is separates x.1 then items item (length us) (found ++ x.0 ∷ []) (drop 1 x.1) else Ok (found ++ x.0 ∷ [], x.1)) ≡ (r >>= λ x. turn item found x.0 x.1)
      by (Err e) s = refl
      by (Ok (x, [])) s = refl
      by (Ok (x, t ∷ rest)) s = ap (λ r. if separates t.kind then r else Ok (found ++ x ∷ [], t ∷ rest)) (enough (length us) (length rest) (found ++ x ∷ []) rest (omega (arith, s)) (omega arith))

module _ {A : Type 0} (item item' : Reader A) (shortens : Shortens item) (shortens' : Shortens item') (empty : item [] ≡ Err (syntax [])) (empty' : item' [] ≡ Err (syntax [])) (S : List Terminal → Type 0) (sees : (ts : List Terminal) → Sees item item' (May stops) S ts) where
  one_turn : (found : List A) (ts : List Terminal) → ((x : A) (us : List Terminal) → length us < length ts → Sees (listed item (found ++ x ∷ [])) (listed item' (found ++ x ∷ [])) (May stops) S us) → Sees (listed item found) (listed item' found) (May stops) S ts
  one_turn found ts h =
      sees_as (listed item found) (listed item' found) (λ us. item us >>= λ x. turn item found x.0 x.1) (λ us. item' us >>= λ x. turn item' found x.0 x.1) (May stops) S ts
      (λ us w. listed_is item shortens empty found us) (λ us w. listed_is item' shortens' empty' found us)
      (bind_from item item' (turn item found) (turn item' found) (May stops) (May stops) (May stops) S ts (λ us g. g) (sees ts)
      (λ x rest l. either separates (listed item (found ++ x ∷ [])) (listed item' (found ++ x ∷ [])) _ _ (May stops) S (May stops) rest
      (λ t us is. h x us (let e : length rest ≡ length (t ∷ us) = ap (λ (l : List Terminal). length l) is in omega (arith, e, l)))
      (pass (found ++ x ∷ []) (May stops) rest)
      (may_not stops separates stop_separates)))

  within : (m : ℕ) (found : List A) (ts : List Terminal) → length ts ≤ m → Sees (listed item found) (listed item' found) (May stops) S ts
  within zero found ts h = one_turn found ts (λ x us l. absurd (omega (arith, h, l)))
  within (suc m) found ts h = one_turn found ts (λ x us l. within m (found ++ x ∷ []) us (omega (arith, h, l)))

  -- where a list with commas stops, it can be completed, if each of its items can be
  pub sees_listed : (found : List A) (ts : List Terminal) → Sees (listed item found) (listed item' found) (May stops) S ts
  sees_listed found ts = within (length ts) found ts (omega arith)
