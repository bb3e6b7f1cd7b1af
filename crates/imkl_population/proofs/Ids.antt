-- Ids and their objects.
use Rattle.std.proofs.Common.{◌≡◌, ℕ, zero, suc, ◌+◌, ◌<◌, Bool, true, false, cond, List, [], ◌∷◌, ◌++◌, length, Option, Some, None, refl, sym, ap, subst, ◌∙◌, bytes_eq, arith, if◌then◌else◌, get_or, set}
use Rattle.std.proofs.lemmas.Cmp.{nat_list_eq_equiv}
use Rattle.std.proofs.lemmas.Slice.Eq.{bytes_eq-Decides}
use Rattle.imkl_population.specs.declared.object.Object.{Object}
use Rattle.imkl_population.specs.Population.{Population, object_number, object_number_in, no_object}

or_last : Option ℕ → Option ℕ → Option ℕ
or_last None b = b
or_last (Some n) b = Some n

or_last-none : (o : Option ℕ) → or_last o None ≡ o
unfolding or_last
or_last-none None = refl
or_last-none (Some n) = refl

found_first : (b : Bool) (n : ℕ) (o r : Option ℕ) → (if b then Some n else or_last o r) ≡ or_last (if b then Some n else o) r
unfolding or_last
found_first true n o r = refl
found_first false n o r = refl

object_number_in-push : (n k : ℕ) (os : List Object) (y : Object) (q : List ℕ) → n + length os ≡ k → object_number_in n (os ++ y ∷ []) q ≡ or_last (object_number_in n os q) (if bytes_eq q y.id then Some k else None)
unfolding or_last
object_number_in-push n k [] y q e = let same : n ≡ k = omega arith in ap (λ (x : ℕ). if bytes_eq q y.id then Some x else None) same
object_number_in-push n k (o ∷ os) y q e =
    let more : suc n + length os ≡ k = omega arith in
    ap (λ (x : Option ℕ). if bytes_eq q o.id then Some n else x) (object_number_in-push (suc n) k os y q more) ∙ found_first (bytes_eq q o.id) n (object_number_in (suc n) os q) (if bytes_eq q y.id then Some k else None)

step : (b : Bool) (os : List Object) (y : Object) (q : List ℕ) → bytes_eq y.id q ≡ b → object_number_in 0 os y.id ≡ None
    → cond b (Some (length os)) (object_number_in 0 os q) ≡ or_last (object_number_in 0 os q) (if bytes_eq q y.id then Some (length os) else None)
unfolding or_last
step true os y q same none =
    let e : y.id ≡ q = (bytes_eq-Decides y.id q).0 same in
    let back : bytes_eq q y.id ≡ true = (bytes_eq-Decides q y.id).1 (sym e) in
    let absent : object_number_in 0 os q ≡ None = subst (λ (x : List ℕ). object_number_in 0 os x ≡ None) e none in
    rw (absent, back) refl
step false os y q same none =
    let back : bytes_eq q y.id ≡ false = nat_list_eq_equiv.symm q y.id ∙ same in
    sym (or_last-none (object_number_in 0 os q)) ∙ ap (λ (b : Bool). or_last (object_number_in 0 os q) (if b then Some (length os) else None)) (sym back)

-- one more object, of an id that isn't there
pub object_number-push : (os : List Object) (y : Object) (q : List ℕ) → object_number_in 0 os y.id ≡ None
    → cond (bytes_eq y.id q) (Some (length os)) (object_number_in 0 os q) ≡ object_number_in 0 (os ++ y ∷ []) q
object_number-push os y q none = step (bytes_eq y.id q) os y q refl none ∙ sym (object_number_in-push 0 (length os) os y q (omega arith))

-- an id that isn't there differs from each that is
differs_at : (b : Bool) (n : ℕ) (r : Option ℕ) → (if b then Some n else r) ≡ None → (b ≡ false) × (r ≡ None)
differs_at true n r h = cc
differs_at false n r h = (refl, h)

-- an id that leads to no object differs from the id of each object
pub absent_differs : (n : ℕ) (os : List Object) (q : List ℕ) (k : ℕ) → object_number_in n os q ≡ None → k < length os → bytes_eq (get_or os k no_object).id q ≡ false
absent_differs n [] q k none lt = absurd (omega arith)
absent_differs n (o ∷ os) q zero none lt = nat_list_eq_equiv.symm o.id q ∙ (differs_at (bytes_eq q o.id) n (object_number_in (suc n) os q) none).0
absent_differs n (o ∷ os) q (suc k) none lt = absent_differs (suc n) os q k (differs_at (bytes_eq q o.id) n (object_number_in (suc n) os q) none).1 (omega arith)

-- an object of the same id in the place of one
pub object_number_in-set : (n : ℕ) (os : List Object) (k : ℕ) (y : Object) (q : List ℕ) → y.id ≡ (get_or os k no_object).id → object_number_in n (set os k y) q ≡ object_number_in n os q
object_number_in-set n [] k y q h = refl
object_number_in-set n (o ∷ os) zero y q h = rw h refl
object_number_in-set n (o ∷ os) (suc k) y q h = ap (λ (r : Option ℕ). if bytes_eq q o.id then Some n else r) (object_number_in-set (suc n) os k y q h)

within_by : (b : Bool) (n k : ℕ) (os : List Object) (r : Option ℕ) → (r ≡ Some k → k < suc n + length os) → (if b then Some n else r) ≡ Some k → k < n + suc (length os)
within_by true n k os r later h = let same : n ≡ k = cc in omega arith
within_by false n k os r later h = omega (arith, later h)

nothing_found : (k : ℕ) → None ≡ Some k → ⊥
nothing_found k h = cc

-- the object that is found is there
pub object_number_in-within : (n : ℕ) (os : List Object) (q : List ℕ) (k : ℕ) → object_number_in n os q ≡ Some k → k < n + length os
object_number_in-within n [] q k h = absurd (nothing_found k h)
object_number_in-within n (o ∷ os) q k h = within_by (bytes_eq q o.id) n k os (object_number_in (suc n) os q) (object_number_in-within (suc n) os q k) h

-- the number that is found for an id is that of an object
pub found-inside : (p q : Population) (id : List ℕ) (found : Option ℕ) (n : ℕ) → p ≡ q → found ≡ object_number p id → found ≡ Some n → n < length q.objects
found-inside p q id found n same is here =
    let within : n < 0 + length p.objects = object_number_in-within 0 p.objects id n (sym is ∙ here) in
    omega (arith, within, ap (λ (r : Population). length r.objects) same)
