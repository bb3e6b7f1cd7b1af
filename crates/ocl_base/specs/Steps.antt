-- Steps that may fail, with a fault of any type, and what a function returned for one.
use Rattle.std.specs.Prelude.{◌≡◌, List, [], ◌∷◌, Bool, true, false, Option, Some, None, Result, Ok, Err}

-- one step after another: the first fault ends them
infixl 10 ◌>>=◌
abbrev pub ◌>>=◌ : {A B E : Type 0} → Result A E → (A → Result B E) → Result B E
(Ok x) >>= f = f x
(Err e) >>= f = Err e

-- a condition, else the fault
abbrev pub check : {E : Type 0} → Bool → E → Result (Unit {0}) E
check true fault = Ok tt
check false fault = Err fault

-- what is there, else the fault
abbrev pub found : {A E : Type 0} → Option A → E → Result A E
found None fault = Err fault
found (Some x) fault = Ok x

-- each of a list
unfoldable pub each : {X A E : Type 0} → (X → Result A E) → List X → Result (List A) E
each f [] = Ok []
each f (d ∷ ds) = do
  x ← f d
  xs ← each f ds
  Ok (x ∷ xs)

-- What a fault that a function returned means: the definition has this fault; memory ran out, of which no definition
-- speaks; or the function never returns it.
pub data FaultMeaning (F : Type 0) : Type 0 where
  fault : (f : F) → FaultMeaning F
  out_of_memory : FaultMeaning F
  never : FaultMeaning F

abbrev pub Means : {F Y : Type 0} → FaultMeaning F → Result Y F → Type 0
Means (fault f) given = given ≡ Err f
Means out_of_memory given = Unit {0}
Means never given = ⊥

-- a fault that was returned, where the definition gives this
abbrev pub Fails : {E F Y : Type 0} → (E → FaultMeaning F) → E → Result Y F → Type 0
Fails meaning e given = Means (meaning e) given

-- What a function returned, seen by a view, is what the definition gives, unless memory ran out.
abbrev pub Gives : {E F X Y : Type 0} → (E → FaultMeaning F) → (X → Y) → Result X E → Result Y F → Type 0
Gives meaning view (Ok x) given = given ≡ Ok (view x)
Gives meaning view (Err e) given = Fails meaning e given
