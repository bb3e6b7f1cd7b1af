-- The turns of a fold, and which of them tell how it came to its value.
use Rattle.std.specs.Prelude.{ℕ, suc, ◌-◌, ◌==◌, ◌||◌, ◌&&◌, Bool, false, not, List, [], ◌∷◌, length, take, Option, Some, None, if◌then◌else◌}
use Rattle.std.specs.List.{AllByRecursion, filter}
use Rattle.imkl_population.specs.Population.{Population}
use Rattle.rule_values.specs.Value.{Element, Value}
use Rattle.rule_values.specs.Operations.{is_false, is_null, is_invalid, equality}
use Rattle.owned_values.specs.Meant.{meant, meant_element, IsElementThere, IsValueThere}
use Rattle.explain_why.specs.declared.turns.Turn as declared

-- a turn: its number from 0, its element, and what is accumulated before it and after it
pub record Turn : Type 0 where
  pub number : ℕ
  pub element : Element
  pub before : Value
  pub after : Value

abbrev pub fold_turn : declared.Turn → Turn
fold_turn t = record { number = t.number; element = meant_element t.element; before = meant t.before; after = meant t.after }

-- the turns over elements, from the one of this number on
abbrev pub turns_from : ℕ → (Element → Value → Value) → Value → List Element → List Turn
turns_from n next a [] = []
turns_from n next a (e ∷ es) = record { number = n; element = e; before = a; after = next e a } ∷ turns_from (suc n) next (next e a) es

-- what is accumulated is another value after it
abbrev pub changes : Turn → Bool
changes t = is_false (equality t.before t.after)

abbrev pub is_missing : Value → Bool
is_missing v = is_null v || is_invalid v

-- what is accumulated is null or invalid after it, and wasn't before
abbrev pub breaks : Turn → Bool
breaks t = not (is_missing t.before) && is_missing t.after

-- the number of the last turn that is so, else the one that is known before
abbrev pub last_number : (Turn → Bool) → Option ℕ → List Turn → Option ℕ
last_number test found [] = found
last_number test found (t ∷ ts) = last_number test (if test t then Some t.number else found) ts

abbrev pub is_place_of : Option ℕ → ℕ → Bool
is_place_of None n = false
is_place_of (Some m) n = m == n

-- of so many turns one of these two, or the last
abbrev pub is_told : Option ℕ → Option ℕ → ℕ → Turn → Bool
is_told change break count t = is_place_of change t.number || (is_place_of break t.number || (t.number == count - 1))

-- so many turns are shown where none changes anything
abbrev pub max_turns : ℕ
max_turns = 3

abbrev pub told_by : Option ℕ → Option ℕ → List Turn → List Turn
told_by None None ts = take max_turns ts
told_by None (Some n) ts = filter (is_told None (Some n) (length ts)) ts
told_by (Some m) break ts = filter (is_told (Some m) break (length ts)) ts

-- the last turn that changes what is accumulated, the last after which it is null or invalid, and the last of all; else the
-- first ones
unfoldable pub told_turns : List Turn → List Turn
told_turns ts = told_by (last_number changes None ts) (last_number breaks None ts) ts

-- everything is there in turns
pub record IsTurnThere (p : Population) (t : Turn) : Type 0 where
  pub element : IsElementThere p t.element
  pub before : IsValueThere p t.before

abbrev pub AreTurnsThere : Population → List Turn → Type 0
AreTurnsThere p ts = AllByRecursion (IsTurnThere p) ts
