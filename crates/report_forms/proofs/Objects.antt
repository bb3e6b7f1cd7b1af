-- The object of an id is the one that a walk over the objects finds first. Ids differ, so a walk may begin anywhere.
use Rattle.std.proofs.Common.{◌≡◌, ℕ, zero, suc, ◌+◌, ◌<◌, ◌≤◌, Bool, true, false, List, [], ◌∷◌, length, drop, get_or, Some, None, refl, ap, ◌∙◌, add-one, drop-cons, bytes_eq, arith, if◌then◌else◌}
use Rattle.std.proofs.lemmas.Cmp.{nat_list_eq_equiv}
use Rattle.std.proofs.lemmas.List.{at_drop_all}
use Rattle.std.proofs.lemmas.Slice.Eq.{bytes_eq-Decides}
use Rattle.imkl_population.specs.declared.object.Object.{Object}
use Rattle.imkl_population.specs.Population.{Population, no_object, object_at, object_number, object_number_in}
use Rattle.imkl_population.specs.Consistency.{IsConsistent}

-- the next object has the id, or the object of the id is looked for behind it
pub next_object : (os : List Object) (i o : ℕ) (id here : List ℕ) (b : Bool) → i < length os → o ≡ i → here ≡ (get_or os o no_object).id → bytes_eq id here ≡ b
    → object_number_in i (drop i os) id ≡ (if b then Some i else object_number_in (i + 1) (drop (i + 1) os) id)
next_object os i o id here b lt number is test =
    let same : here ≡ (get_or os i no_object).id = is ∙ ap (λ (n : ℕ). (get_or os n no_object).id) number in
    rw (add-one, drop-cons os i no_object lt, ← same, test) refl

-- where no object is left none has the id
pub no_object_left : (os : List Object) (i : ℕ) (id : List ℕ) → length os ≤ i → object_number_in i (drop i os) id ≡ None
no_object_left os i id le = at_drop_all (λ (rest : List Object). object_number_in i rest id) os i le

-- where the objects before one have other ids
found_at : (n : ℕ) (os : List Object) (i : ℕ) (id : List ℕ) → i < length os → ((o : ℕ) → o < i → bytes_eq id (get_or os o no_object).id ≡ false)
    → bytes_eq id (get_or os i no_object).id ≡ true → object_number_in n os id ≡ Some (n + i)
found_at n [] i id lt others is = absurd (omega (arith, lt))
found_at n (o ∷ os) zero id lt others is = let same : n ≡ n + 0 = omega arith in rw is (ap Some same)
found_at n (o ∷ os) (suc i) id lt others is =
    let same : suc n + i ≡ n + suc i = omega arith in
    rw (others zero (omega arith)) (found_at (suc n) os i id (omega (arith, lt)) (λ k before. others (suc k) (omega (arith, before))) is ∙ ap Some same)

-- an object that has the id is the object of the id
pub named_is : (p : Population) → IsConsistent p → (i : ℕ) (id : List ℕ) → i < length p.objects → bytes_eq id (object_at p i).id ≡ true → object_number p id ≡ Some i
named_is p consistent i id lt is =
    let same : id ≡ (object_at p i).id = (bytes_eq-Decides id (object_at p i).id).0 is in
    let others : (o : ℕ) → o < i → bytes_eq id (object_at p o).id ≡ false = λ o before.
    nat_list_eq_equiv.symm id (object_at p o).id ∙ (ap (bytes_eq (object_at p o).id) same ∙ consistent.distinct o i before lt) in
    let same_number : 0 + i ≡ i = omega arith in
    found_at 0 p.objects i id lt others is ∙ ap Some same_number
