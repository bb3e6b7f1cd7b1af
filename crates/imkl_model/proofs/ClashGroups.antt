-- Clashes, looked for among the features of one name.
use Rattle.std.proofs.Common.{find, ◌≡◌, ◌≢◌, ℕ, zero, suc, ◌<◌, ◌&&◌, ◌||◌, not, Bool, true, false, List, [], ◌∷◌, length, get_or, eqb, Option, Some, None, refl, sym, ap, ◌∙◌, subst, arith, ◌⊎◌, inl, inr}
use Rattle.std.specs.List.{list_any}
use Rattle.std.proofs.lemmas.Bool.{false≢true, and_parts, or_cases, or_right}
use Rattle.std.proofs.lemmas.Bool.Decides.{eqb_tells}
use Rattle.std.proofs.lemmas.Slice.Eq.{bytes_eq-Decides}
use Rattle.imkl_model.specs.Chains.{any_below}
use Rattle.imkl_model.specs.ClassModel.{Model, supers, feature_at, belongs, is_named, has_clash, IsClash}
use Rattle.ocl_base.specs.Numbers.{places}
use Rattle.imkl_model.specs.Groups.{group, begins_with, has_other_owner, meets_after, meets, group_meets}
use Rattle.imkl_model.proofs.Below.{any_found, found_any}
use Rattle.ocl_base.proofs.ForAbove.{place_of, places_below, places_pass}
use Rattle.imkl_model.proofs.ClashLaws.{joined, unequal, clash_found, found_clash}
use Rattle.imkl_model.proofs.Warshall.{is_or_reaches-decides}

-- g is one of the numbers
abbrev pub IsIn : ℕ → List ℕ → Type 0
IsIn g xs = (k : ℕ) × (k < length xs) × (get_or xs k 0 ≡ g)

-- what some element passes, one at an index does
pub any_of : (p : ℕ → Bool) (xs : List ℕ) → list_any p xs ≡ true → (k : ℕ) × (k < length xs) × (p (get_or xs k 0) ≡ true)
any_of p [] e = absurd (false≢true e)
any_of p (x ∷ xs) e =
    elim (or_cases (p x) (list_any p xs) e) [
      | inl here ↦ (zero, omega arith, here)
      | inr later ↦ let w = any_of p xs later in (suc w.0, omega (arith, w.1), w.2)
    ]

pub of_any : (p : ℕ → Bool) (xs : List ℕ) (k : ℕ) → k < length xs → p (get_or xs k 0) ≡ true → list_any p xs ≡ true
of_any p [] k lt e = absurd (omega (arith, lt))
of_any p (x ∷ xs) zero lt e = rw e refl
of_any p (x ∷ xs) (suc k) lt e = or_right (p x) (list_any p xs) (of_any p xs k (omega (arith, lt)) e)

-- the first that passes, by whether x does
find_cases : (p : ℕ → Bool) (x : ℕ) (xs : List ℕ) (b : Bool) → p x ≡ b → (k : ℕ) → find p (x ∷ xs) ≡ Some k → ((k ≡ x) × (p x ≡ true)) ⊎ (find p xs ≡ Some k)
find_cases p x xs true e k h = inl (some_is k x (sym (rw e at h)), e)
  where
    some_is : (a b : ℕ) → Some a ≡ Some b → a ≡ b
    some_is a b s = cc
find_cases p x xs false e k h = inr (rw e at h)

-- the number that is found stands in the list and passes
pub found_at : (p : ℕ → Bool) (xs : List ℕ) (k : ℕ) → find p xs ≡ Some k → (j : ℕ) × (j < length xs) × (get_or xs j 0 ≡ k) × (p k ≡ true)
found_at p [] k h = absurd (nothing k h)
  where
    nothing : (a : ℕ) → None ≡ Some a → ⊥
    nothing a s = cc
found_at p (x ∷ xs) k h =
    elim (find_cases p x xs (p x) refl k h) [
      | inl here ↦ (zero, omega arith, sym here.0, ap p here.0 ∙ here.1)
      | inr later ↦ let w = found_at p xs k later in (suc w.0, omega (arith, w.1), w.2, w.3)
    ]

some_found : (p : ℕ → Bool) (x : ℕ) (xs : List ℕ) (b : Bool) → p x ≡ b → (b ≡ false → (k : ℕ) × (find p xs ≡ Some k)) → (k : ℕ) × (find p (x ∷ xs) ≡ Some k)
some_found p x xs true e later = (x, rw e refl)
some_found p x xs false e later = let w = later refl in (w.0, rw e w.1)

-- where a number of the list passes, one is found
pub is_found : (p : ℕ → Bool) (xs : List ℕ) (k : ℕ) → k < length xs → p (get_or xs k 0) ≡ true → (f : ℕ) × (find p xs ≡ Some f)
is_found p [] k lt e = absurd (omega (arith, lt))
is_found p (x ∷ xs) zero lt e = some_found p x xs (p x) refl (λ b. absurd (false≢true (sym b ∙ e)))
is_found p (x ∷ xs) (suc k) lt e = some_found p x xs (p x) refl (λ b. is_found p xs k (omega (arith, lt)) e)

-- ---- the features of one name

pub in_group : (m : Model) (f k : ℕ) → k < length (group m f) → (get_or (group m f) k 0 < length m.features) × ((feature_at m f).name ≡ (feature_at m (get_or (group m f) k 0)).name)
in_group m f k lt =
    let name = (feature_at m f).name in
    let g = get_or (group m f) k 0 in
    (places_below (is_named m name) (length m.features) k 0 lt, (bytes_eq-Decides name (feature_at m g).name).0 (places_pass (is_named m name) (length m.features) k 0 lt))

-- two features at places of one group, of different owners, that belong to a class
pair_clash : (m : Model) (f c j k : ℕ) → c < length m.classes → j < length (group m f) → k < length (group m f) → not (eqb (feature_at m (get_or (group m f) j 0)).owner (feature_at m (get_or (group m f) k 0)).owner) ≡ true
    → belongs m c (get_or (group m f) j 0) ≡ true → belongs m c (get_or (group m f) k 0) ≡ true → has_clash m ≡ true
pair_clash m f c j k lc lj lk apart one other =
    let h = get_or (group m f) j 0 in
    let g = get_or (group m f) k 0 in
    let a = in_group m f j lj in
    let b = in_group m f k lk in
    let same : (feature_at m h).name ≡ (feature_at m g).name = sym a.1 ∙ b.1 in
    clash_found m c h g lc a.0 b.0 (joined (is_named m (feature_at m h).name g) (not (eqb (feature_at m h).owner (feature_at m g).owner)) (belongs m c h) (belongs m c g)
    ((bytes_eq-Decides (feature_at m h).name (feature_at m g).name).1 same) apart one other)

meeting : (m : Model) (f c : ℕ) (o : Option ℕ) → c < length m.classes → find (belongs m c) (group m f) ≡ o → meets_after m c (group m f) o ≡ true → has_clash m ≡ true
meeting m f c None lc is e = absurd (false≢true e)
meeting m f c (Some h) lc is e =
    let a = found_at (belongs m c) (group m f) h is in
    let b = any_of (has_other_owner m c (feature_at m h).owner) (group m f) e in
    let parts = and_parts (belongs m c (get_or (group m f) b.0 0)) (not (eqb (feature_at m h).owner (feature_at m (get_or (group m f) b.0 0)).owner)) b.2 in
    pair_clash m f c a.0 b.0 lc a.1 b.1 (rw a.2 parts.1) (rw a.2 a.3) parts.0

-- where two features of one name meet in a class, the model has a clash
pub clash_in_group : (m : Model) (f : ℕ) → group_meets m f ≡ true → has_clash m ≡ true
clash_in_group m f e =
    let p = and_parts (begins_with (group m f) f) (any_below (λ c. meets m c (group m f)) (length m.classes)) e in
    let w = found_any (λ c. meets m c (group m f)) (length m.classes) p.1 in
    meeting m f w.0 (find (belongs m w.0) (group m f)) w.1 refl w.2

-- ---- and back

pub begins : (xs : List ℕ) → 0 < length xs → begins_with xs (get_or xs 0 0) ≡ true
begins [] lt = absurd (omega (arith, lt))
begins (x ∷ xs) lt = elim (eqb_tells x x) [ inl h ↦ h.0 | inr h ↦ absurd (h.1 refl) ]

other : (m : Model) (c owner g : ℕ) → belongs m c g ≡ true → owner ≢ (feature_at m g).owner → has_other_owner m c owner g ≡ true
other m c owner g there apart = rw (there, unequal owner (feature_at m g).owner apart) refl

-- two features of a list that have different owners and belong to a class meet in it
pub meets_at : (m : Model) (c : ℕ) (xs : List ℕ) (f g : ℕ) → IsIn f xs → IsIn g xs → belongs m c f ≡ true → belongs m c g ≡ true → (feature_at m f).owner ≢ (feature_at m g).owner → meets m c xs ≡ true
meets_at m c xs f g at_f at_g in_f in_g apart =
    let w = is_found (belongs m c) xs at_f.0 at_f.1 (rw at_f.2 in_f) in
    let owner = (feature_at m w.0).owner in
    let found : list_any (has_other_owner m c owner) xs ≡ true = elim (eqb_tells owner (feature_at m f).owner) [
      | inl same ↦ of_any (has_other_owner m c owner) xs at_g.0 at_g.1 (rw at_g.2 (other m c owner g in_g (λ e. apart (sym same.1 ∙ e))))
      | inr differs ↦ of_any (has_other_owner m c owner) xs at_f.0 at_f.1 (rw at_f.2 (other m c owner f in_f differs.1))
    ] in
    rw w.1 found

pub same_group : (m : Model) (f h : ℕ) → (feature_at m f).name ≡ (feature_at m h).name → group m f ≡ group m h
same_group m f h e = ap (λ (name : List ℕ). places (is_named m name) (length m.features)) e

grouped : (m : Model) (c f g : ℕ) → IsClash m c f g → any_below (group_meets m) (length m.features) ≡ true
grouped m c f g h =
    let name = (feature_at m f).name in
    let at_f = place_of (is_named m name) (length m.features) f h.first ((bytes_eq-Decides name name).1 refl) in
    let at_g = place_of (is_named m name) (length m.features) g h.second ((bytes_eq-Decides name (feature_at m g).name).1 h.one_name) in
    let some : 0 < length (group m f) = omega (arith, at_f.1) in
    let head = get_or (group m f) 0 0 in
    let a = in_group m f 0 some in
    let met : meets m c (group m f) ≡ true = meets_at m c (group m f) f g at_f at_g ((is_or_reaches-decides (supers m) c (feature_at m f).owner).1 h.first_belongs) ((is_or_reaches-decides (supers m) c (feature_at m g).owner).1 h.second_belongs) h.two_owners in
    let same : group m f ≡ group m head = same_group m f head a.1 in
    let first_here : begins_with (group m head) head ≡ true = subst (λ (xs : List ℕ). begins_with xs head ≡ true) same (begins (group m f) some) in
    let met_here : any_below (λ k. meets m k (group m head)) (length m.classes) ≡ true = any_found (λ k. meets m k (group m head)) (length m.classes) c h.class (subst (λ (xs : List ℕ). meets m c xs ≡ true) same met) in
    any_found (group_meets m) (length m.features) head a.0 (rw (first_here, met_here) refl)

not_both : (m : Model) (b : Bool) → has_clash m ≡ b → any_below (group_meets m) (length m.features) ≡ false → has_clash m ≡ false
not_both m true e none = let w = found_clash m e in absurd (false≢true (sym none ∙ grouped m w.0 w.1 w.2 w.3))
not_both m false e none = e

-- where no features of one name meet in a class, the model has no clash
pub no_clash : (m : Model) → any_below (group_meets m) (length m.features) ≡ false → has_clash m ≡ false
no_clash m none = not_both m (has_clash m) refl none

-- ---- a feature that is alone under its name meets no other

itself : (a : ℕ) → not (eqb a a) ≡ false
itself a = elim (eqb_tells a a) [ inl h ↦ rw h.0 refl | inr h ↦ absurd (h.1 refl) ]

no_other : (b : Bool) → ((b && false) || false) ≡ false
no_other true = refl
no_other false = refl

alone_there : (m : Model) (c x : ℕ) (b : Bool) → belongs m c x ≡ b → meets m c (x ∷ []) ≡ false
alone_there m c x true e = rw (e, itself (feature_at m x).owner) (no_other (belongs m c x))
alone_there m c x false e = rw e refl

-- fewer than two features never meet
pub alone : (m : Model) (c : ℕ) (xs : List ℕ) → length xs < 2 → meets m c xs ≡ false
alone m c [] lt = refl
alone m c (x ∷ []) lt = alone_there m c x (belongs m c x) refl
alone m c (x ∷ y ∷ xs) lt = absurd (omega (arith, lt))
