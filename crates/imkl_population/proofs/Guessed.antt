-- An object that is guessed for an id.
use Rattle.std.proofs.Common.{◌≡◌, ℕ, zero, suc, ◌+◌, ◌<◌, true, false, List, [], ◌∷◌, length, Option, Some, sym, ap, subst, ◌∙◌, bytes_eq, arith, get_or}
use Rattle.std.proofs.lemmas.Cmp.{nat_list_eq_equiv}
use Rattle.std.proofs.lemmas.Slice.Eq.{bytes_eq-Decides}
use Rattle.imkl_model.specs.ClassModel.{Model}
use Rattle.imkl_population.specs.declared.object.Object.{Object}
use Rattle.imkl_population.specs.declared.object.Head.{Head}
use Rattle.imkl_population.specs.Draft.{IsDraft}
use Rattle.imkl_population.specs.IdIndex.{has_id}
use Rattle.imkl_population.specs.Layout.{stored_content}
use Rattle.imkl_population.specs.Population.{Population, object_at, object_number, object_number_in, no_object}
use Rattle.imkl_population.proofs.Layouts.{Maps, length-content, content-at}

-- who has an id is there
has_id-true : (hs : List Head) (k : ℕ) (d : Head) (q : List ℕ) → has_id hs k q ≡ true → (k < length hs) × (bytes_eq (get_or hs k d).id q ≡ true)
has_id-true [] k d q has = cc
has_id-true (g ∷ hs) zero d q has = (omega arith, has)
has_id-true (g ∷ hs) (suc k) d q has = let later = has_id-true hs k d q has in (omega (arith, later.0), later.1)

-- the first object of an id, where none before it has it
object_number_in-at : (n : ℕ) (os : List Object) (q : List ℕ) (k : ℕ) → k < length os → bytes_eq q (get_or os k no_object).id ≡ true
    → ((j : ℕ) → j < k → bytes_eq q (get_or os j no_object).id ≡ false) → object_number_in n os q ≡ Some (n + k)
object_number_in-at n [] q k there mine others = absurd (omega arith)
object_number_in-at n (o ∷ os) q zero there mine others = let same : n ≡ n + 0 = omega arith in rw mine (ap Some same)
object_number_in-at n (o ∷ os) q (suc k) there mine others =
    let first : bytes_eq q o.id ≡ false = others 0 (omega arith) in
    let same : suc n + k ≡ n + suc k = omega arith in
    rw first (object_number_in-at (suc n) os q k (omega arith) mine (λ j lt. others (suc j) (omega (arith, lt))) ∙ ap Some same)

-- who has an id is the object that is found for it, since no two objects share one
pub number-of : (m : Model) (hs : List Head) (maps : Maps) (ids : List ℕ → Option ℕ) (k : ℕ) (q : List ℕ) → IsDraft (stored_content m hs maps) ids → has_id hs k q ≡ true
    → (object_number (stored_content m hs maps) q ≡ Some k) × (k < length (stored_content m hs maps).objects)
number-of m hs maps ids k q draft has =
    let p : Population = stored_content m hs maps in
    let d : Head = record { id = []; class = 0 } in
    let there = has_id-true hs k d q has in
    let inside : k < length p.objects = omega (arith, there.0, length-content m hs maps) in
    let same : (object_at p k).id ≡ q = ap (λ (o : Object). o.id) (content-at m hs maps k d there.0) ∙ (bytes_eq-Decides (get_or hs k d).id q).0 there.1 in
    let number : 0 + k ≡ k = omega arith in (
      object_number_in-at 0 p.objects q k inside ((bytes_eq-Decides q (object_at p k).id).1 (sym same))
          (λ j lt. nat_list_eq_equiv.symm q (object_at p j).id ∙ subst (λ (x : List ℕ). bytes_eq (object_at p j).id x ≡ false) same (draft.distinct j k lt inside))
          ∙ ap Some number,
      inside,
    )
