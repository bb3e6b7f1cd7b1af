-- JSON trees: the bytes that write one, JSON objects with a given number of members, and lists.
use Rattle.std.specs.Prelude.{◌≡◌, ℕ, List, [], ◌∷◌, Option, Some, None, IsUtf8, ◌==◌, is_some, option_map, option_and_then, if◌then◌else◌}
use Rattle.serde_json.specs.Data.{Data, Items, no_items, item, Members}
use Rattle.serde_json.specs.Events.{members_len}
use Rattle.serde_json.specs.Find.{get, as_array, as_object, as_number, as_u64}
use Rattle.serde_json.specs.Read.{read}
use Rattle.imkl_json.specs.declared.reading.JsonFault.{JsonFault}
use Rattle.imkl_json.specs.declared.reading.JsonFault.TheVariants.{NotJson, OutOfMemory}

-- the bytes are the JSON text of this tree
abbrev pub IsTree : List ℕ → Data → Type 0
IsTree bytes d = IsUtf8 bytes × (read bytes ≡ Some d)

-- the bytes are the JSON text of no tree
abbrev pub IsNoTree : List ℕ → Type 0
IsNoTree bytes = (d : Data) → IsTree bytes d → ⊥

-- a fault of the bytes: they are no JSON text. Memory may run out anywhere.
abbrev pub IsJsonFault : JsonFault → List ℕ → Type 0
IsJsonFault NotJson bytes = IsNoTree bytes
IsJsonFault OutOfMemory bytes = Unit {0}

abbrev pub elements_of : Items → List Data
elements_of no_items = []
elements_of (item d ds) = d ∷ elements_of ds

-- the elements of a list
unfoldable pub list_from : Data → Option (List Data)
list_from d = option_map elements_of (as_array d)

-- the members of an object that has n of them
unfoldable pub record_from : ℕ → Data → Option Members
record_from n d = option_and_then (λ ms. if members_len ms == n then Some ms else None) (as_object d)

-- a whole number from 0 on, written with no point and no exponent
abbrev pub natural_from : Data → Option ℕ
natural_from d = option_and_then as_u64 (as_number d)

-- How many members of this name a value has, 1 or 0. An object of n members, and perhaps this one, has that many more
-- than n.
abbrev pub member_count : List ℕ → Data → ℕ
member_count name d = if is_some (get name d) then 1 else 0
