-- What is known of the value of a step that may fail.
use Rattle.std.proofs.Common.{◌≡◌, Bool, true, false, Option, Some, None, IfSome, Result, Ok, Err, IfOk, refl}
use Rattle.ocl_base.specs.Steps.{◌>>=◌, check, found}
use Rattle.ocl_types.specs.Faults.{TypeFaultAt}

-- one step after another
pub chained : {A B : Type 0} (P : A → Type 0) (Q : B → Type 0) (r : Result A TypeFaultAt) (f : A → Result B TypeFaultAt) → IfOk r P → ((x : A) → P x → IfOk (f x) Q) → IfOk (r >>= f) Q
chained P Q (Ok x) f p next = next x p
chained P Q (Err e) f p next = tt

-- a condition that is met
pub checked : (b : Bool) (fault : TypeFaultAt) → IfOk (check b fault) (λ u. b ≡ true)
checked true fault = refl
checked false fault = tt

-- what is there
pub there : {A : Type 0} (P : A → Type 0) (o : Option A) (fault : TypeFaultAt) → IfSome o P → IfOk (found o fault) P
there P None fault h = tt
there P (Some x) fault h = h

-- something with the equation that says so
pub itself : {A : Type 0} (o : Option A) → IfSome o (λ x. o ≡ Some x)
itself None = tt
itself (Some x) = refl
