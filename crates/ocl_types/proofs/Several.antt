-- Lists of arguments, one after another.
use Rattle.std.proofs.Common.{◌≡◌, ℕ, List, [], ◌∷◌, ◌++◌, Result, Ok, Err, refl, append_assoc}
use Rattle.ocl_base.specs.Steps.{◌>>=◌}
use Rattle.ocl_types.specs.TypedTrees.{TypedTree, TypedTrees, typed_trees}

-- what was read before, and what is still to be read
abbrev pub after_classes : {E : Type 0} → List ℕ → Result (List ℕ) E → Result (List ℕ) E
after_classes front (Err e) = Err e
after_classes front (Ok xs) = Ok (front ++ xs)

-- the next class
pub one_more_class : {E : Type 0} (front : List ℕ) (x : ℕ) (r : Result (List ℕ) E) → after_classes front (r >>= λ xs. Ok (x ∷ xs)) ≡ after_classes (front ++ x ∷ []) r
one_more_class front x (Err e) = refl
one_more_class front x (Ok xs) = simp append_assoc refl

-- the same of values
abbrev pub after_values : {E : Type 0} → TypedTrees → Result TypedTrees E → Result TypedTrees E
after_values front (Err e) = Err e
after_values front (Ok xs) = Ok (typed_trees (front.cores ++ xs.cores) (front.kinds ++ xs.kinds))

-- the next value
pub one_more_value : {E : Type 0} (front : TypedTrees) (x : TypedTree) (r : Result TypedTrees E) → after_values front (r >>= λ xs. Ok (typed_trees (x.core ∷ xs.cores) (x.kind ∷ xs.kinds))) ≡ after_values (typed_trees (front.cores ++ x.core ∷ []) (front.kinds ++ x.kind ∷ [])) r
one_more_value front x (Err e) = refl
one_more_value front x (Ok xs) = simp append_assoc refl

pub ruleset several = (one_more_class, one_more_value)
