-- How objects are found by their ids.
use Rattle.std.specs.Prelude.{◌≡◌, ℕ, zero, suc, ◌+◌, ◌*◌, ◌/◌, ◌^◌, ◌<◌, ◌≤◌, ◌%◌, ◌==◌, ◌&&◌, Bool, false, List, [], ◌∷◌, ◌++◌, Option, Some, None, Result, Ok, Err, length, bytes_eq, slice_index_or, slice_set, if◌then◌else◌}
use Rattle.std.specs.Option.{option_or}
use Rattle.std.specs.declared.alloc.AllocError.{AllocError}
use Rattle.std.specs.Hash.FoldHasher as folding
use Rattle.std.specs.Map.{update}
use Rattle.imkl_population.specs.declared.limits.TheConstants.{GROUP, NUMBERS, MAX_OBJECTS}
use Rattle.imkl_population.specs.declared.object.Head.{Head}

-- the hash of an id
unfoldable pub hash_of : List ℕ → ℕ
hash_of id = folding.finish (folding.write folding.initial id)

-- a part of the hash that tells ids of one group apart
unfoldable pub mark_of : List ℕ → ℕ
mark_of id = hash_of id / 2 ^ 52

-- how many slots an id's group has, of so many
abbrev pub group_size : ℕ → ℕ
group_size n = if n / GROUP == 0 then 0 else GROUP

-- the first slot of an id's group, of so many
unfoldable pub group_start : List ℕ → ℕ → ℕ
group_start id n = if n / GROUP == 0 then 0 else (hash_of id % (n / GROUP)) * GROUP

-- whether an object is there and has an id
abbrev pub has_id : List Head → ℕ → List ℕ → Bool
has_id [] n id = false
has_id (h ∷ hs) zero id = bytes_eq h.id id
has_id (h ∷ hs) (suc n) id = has_id hs n id

-- what a mark, and a number above an object's, say of an id: its object, if that has the id
abbrev pub told_by_mark : ℕ → ℕ → List Head → List ℕ → Option ℕ
told_by_mark m zero hs id = None
told_by_mark m (suc n) hs id = if (m == mark_of id) && has_id hs n id then Some n else None

-- what a slot says of an id
abbrev pub told : ℕ → List Head → List ℕ → Option ℕ
told w hs id = told_by_mark (w / NUMBERS) (w % NUMBERS) hs id

-- what so many slots say of an id, from one on; where they say nothing, what the others say
abbrev pub told_from : ℕ → ℕ → List ℕ → (List ℕ → Option ℕ) → List Head → List ℕ → Option ℕ
told_from zero a slots others hs id = others id
told_from (suc k) a slots others hs id = option_or (told (slice_index_or slots a 0) hs id) (told_from k (a + 1) slots others hs id)

-- the number found for an id, among objects with these ids
abbrev pub number_found : List ℕ → (List ℕ → Option ℕ) → List Head → List ℕ → Option ℕ
number_found slots others hs id = told_from (group_size (length slots)) (group_start id (length slots)) slots others hs id

-- a slot says nothing
abbrev pub IsEmpty : List ℕ → ℕ → Type 0
IsEmpty slots i = slice_index_or slots i 0 % NUMBERS ≡ 0

-- a slot is one of an id's group
abbrev pub IsOfGroup : List ℕ → List ℕ → ℕ → Type 0
IsOfGroup slots id i = (group_start id (length slots) ≤ i) × (i < group_start id (length slots) + group_size (length slots))

-- behind an empty slot those of the same group are empty
abbrev pub IsFilled : List ℕ → Type 0
IsFilled slots = (i : ℕ) → ((i + 1) % GROUP ≡ 0 → ⊥) → IsEmpty slots i → IsEmpty slots (i + 1)

-- an id whose group has an empty slot isn't among the others
abbrev pub IsGuarded : List ℕ → (List ℕ → Option ℕ) → Type 0
IsGuarded slots others = (id : List ℕ) (i : ℕ) → IsOfGroup slots id i → IsEmpty slots i → others id ≡ None

-- the first empty slot of an id's group
pub record IsFirstEmpty (slots : List ℕ) (id : List ℕ) (i : ℕ) : Type 0 where
  pub there : i < length slots
  pub mine : IsOfGroup slots id i
  pub empty : IsEmpty slots i
  pub first : (j : ℕ) → group_start id (length slots) ≤ j → j < i → IsEmpty slots j → ⊥

-- an id's first empty slot is given to the next object's number
pub record TakesSlot (old : List ℕ) (id : List ℕ) (n : ℕ) (new : List ℕ) : Type 0 where
  pub slot : ℕ
  pub place : IsFirstEmpty old id slot
  pub room : n < MAX_OBJECTS
  pub put : new ≡ slice_set old slot (mark_of id * NUMBERS + n + 1)

-- no slot of an id's group is empty
abbrev pub IsOccupied : List ℕ → List ℕ → Type 0
IsOccupied slots id = (i : ℕ) → IsOfGroup slots id i → IsEmpty slots i → ⊥

-- The id of the next object, which no object has, is given its number. If memory runs out, nothing changes.
abbrev pub AddsId : {X : Type 0} → Result X AllocError → (List Head → List ℕ → Option ℕ) → List ℕ → ℕ → (List Head → List ℕ → Option ℕ) → Type 0
AddsId (Ok x) old id n new = (hs : List Head) (h : Head) → n ≡ length hs → old hs id ≡ None → h.id ≡ id → (q : List ℕ) → new (hs ++ h ∷ []) q ≡ update bytes_eq (old hs) id (Some n) q
AddsId (Err e) old id n new = new ≡ old
