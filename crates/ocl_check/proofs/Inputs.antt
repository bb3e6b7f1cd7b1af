-- What readers may have had.
use Rattle.std.proofs.Common.{ℕ, List, [], Option, Some, None, refl}
use Rattle.ocl_check.specs.Answers.{MayHave}

-- the bytes that a reader says it has, or none
abbrev pub known_bytes : Option (List ℕ) → List ℕ
known_bytes None = []
known_bytes (Some xs) = xs

-- the bytes that a reader says it has are some that it may have
pub has_known : (known : Option (List ℕ)) → MayHave known (known_bytes known)
has_known None = tt
has_known (Some xs) = refl
