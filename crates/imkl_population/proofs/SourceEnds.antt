-- The targets written at a source end are those of the pairs that begin with the object.
use Rattle.std.proofs.Common.{◌≡◌, ◌==◌, ℕ, zero, suc, ◌<◌, Bool, true, false, List, [], ◌∷◌, ◌++◌, map, filter, length, refl, sym, ap, subst, ◌∙◌, nat_lt, arith, inl, inr, if◌then◌else◌}
use Rattle.std.specs.List.{list_all}
use Rattle.std.proofs.lemmas.Bool.{and_parts, lt-ltb, le-ltb, ne_eqb, eq-eqb}
use Rattle.std.proofs.lemmas.Bool.Decides.{leb_tells}
use Rattle.std.proofs.lemmas.List.{append-nil, map-append}
use Rattle.std.proofs.lemmas.List.Elements.{filter-append}
use Rattle.imkl_model.specs.declared.feature.ElementType.{ElementType}
use Rattle.imkl_model.specs.declared.feature.ElementType.TheVariants as element
use Rattle.imkl_model.specs.declared.feature.Role.TheVariants.{SourceEnd}
use Rattle.imkl_model.specs.ClassModel.{feature_at}
use Rattle.imkl_population.specs.declared.scalar.Scalar.{Scalar}
use Rattle.imkl_population.specs.declared.scalar.Scalar.TheVariants as scalar
use Rattle.imkl_population.specs.Building.{as_objects}
use Rattle.imkl_population.specs.Consistency.{IsConsistent}
use Rattle.imkl_population.specs.Population.{Population, targets, pairs_of, pairs_below, targets_from, source_end, written_at, values_of}
use Rattle.imkl_population.specs.Values.{is_target_of}

from_append : (o : ℕ) (qs rs : List (ℕ × ℕ)) → targets_from o (qs ++ rs) ≡ targets_from o qs ++ targets_from o rs
from_append o qs rs =
    ap (map (λ (q : ℕ × ℕ). q.1)) (filter-append (λ (q : ℕ × ℕ). q.0 == o) qs rs) ∙ map-append (λ (q : ℕ × ℕ). q.1) (filter (λ (q : ℕ × ℕ). q.0 == o) qs) (filter (λ (q : ℕ × ℕ). q.0 == o) rs)

-- all pairs of one holder begin with it
from_one : (b : Bool) (holder o : ℕ) (ts : List ℕ) → (holder == o) ≡ b → targets_from o (map (λ (t : ℕ). (holder, t)) ts) ≡ (if b then ts else [])
from_one true holder o [] e = refl
from_one false holder o [] e = refl
from_one true holder o (t ∷ ts) e = rw e (ap (λ (l : List ℕ). t ∷ l) (from_one true holder o ts e))
from_one false holder o (t ∷ ts) e = rw e (from_one false holder o ts e)

source_below : (p : Population) (source o n : ℕ) → targets_from o (pairs_below p source n) ≡ (if nat_lt o n then targets (written_at p o source) else [])
source_below p source o zero = rw (le-ltb o 0 (omega arith)) refl
source_below p source o (suc n) =
    let here : List ℕ = targets (written_at p n source) in
    from_append o (pairs_below p source n) (pairs_of n (written_at p n source)) ∙
    elim (leb_tells n o) [
      | inr less ↦
          let apart : (n == o) ≡ false = ne_eqb n o (λ e. absurd (omega (arith, e, less.1))) in
          rw (source_below p source o n, from_one false n o here apart, lt-ltb o n less.1, lt-ltb o (suc n) (omega (arith, less.1))) (append-nil (targets (written_at p o source)))
      | inl le ↦ elim (leb_tells (suc n) o) [
        | inl later ↦
            let apart : (n == o) ≡ false = ne_eqb n o (λ e. absurd (omega (arith, e, later.1))) in
            rw (source_below p source o n, from_one false n o here apart, le-ltb o n le.1, le-ltb o (suc n) later.1) refl
        | inr now ↦
            let same : n ≡ o = omega (arith, le.1, now.1) in
            rw (source_below p source o n, from_one true n o here (eq-eqb n o same), le-ltb o n le.1, lt-ltb o (suc n) now.1) (ap (λ (k : ℕ). targets (written_at p k source)) same)
      ]
    ]

target_is : (p : Population) (t : ElementType) (v : Scalar) → is_target_of p t v ≡ true → (o : ℕ) × (v ≡ scalar.Object o)
target_is p (element.Class c) (scalar.Object o) h = (o, refl)
target_is p t v h = cc

all_objects : (p : Population) (t : ElementType) (vs : List Scalar) → list_all (is_target_of p t) vs ≡ true → as_objects (targets vs) ≡ vs
all_objects p t [] h = refl
all_objects p t (v ∷ vs) h =
    let parts = and_parts (is_target_of p t v) (list_all (is_target_of p t) vs) h in
    let object = target_is p t v parts.0 in
    rw object.1 (ap (λ (l : List Scalar). scalar.Object object.0 ∷ l) (all_objects p t vs parts.1))

-- in a consistent population the values at a source end are the targets of the pairs from the object
pub source_is : (p : Population) (source g o : ℕ) → IsConsistent p → (feature_at p.model source).role ≡ SourceEnd g → o < length p.objects → values_of p o source ≡ as_objects (source_end p source o)
source_is p source g o consistent role there =
    let written : values_of p o source ≡ written_at p o source = rw role refl in
    let joined = consistent.joined o source there (rw role refl) in
    let ends : source_end p source o ≡ targets (written_at p o source) = source_below p source o (length p.objects) ∙ rw (lt-ltb o (length p.objects) there) refl in
    let objects : list_all (is_target_of p (feature_at p.model source).element) (written_at p o source) ≡ true = subst (λ (vs : List Scalar). list_all (is_target_of p (feature_at p.model source).element) vs ≡ true) written joined in
    written ∙ sym (all_objects p (feature_at p.model source).element (written_at p o source) objects) ∙ ap as_objects (sym ends)
