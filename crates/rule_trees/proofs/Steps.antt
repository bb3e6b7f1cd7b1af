-- What is known where a step over core trees succeeds.
use Rattle.std.proofs.Common.{◌≡◌, List, [], ◌∷◌, Option, Some, None, refl, ap}
use Rattle.std.specs.Prelude.{option_and_then}
use Rattle.ocl_core.specs.Core.{CoreTree}
use Rattle.rule_trees.specs.CoreOf.{sole}

-- of two steps that succeed, what the first one gave to the second
pub first_gave : {A B : Type 0} (f : A → Option B) (x : Option A) (d : B) → option_and_then f x ≡ Some d → (a : A) × (x ≡ Some a) × (f a ≡ Some d)
first_gave f None d e = cc
first_gave f (Some a) d e = (a, refl, e)

-- code with one tree leaves that tree alone
pub sole_is : (r : Option (List CoreTree)) (b : CoreTree) → sole r ≡ Some b → r ≡ Some (b ∷ [])
sole_is (Some (c ∷ [])) b e = let same : c ≡ b = cc in ap (λ x. Some (x ∷ [])) same
sole_is r b e = cc
