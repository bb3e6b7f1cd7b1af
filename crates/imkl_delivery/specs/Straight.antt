-- What tokens say of a delivery, where they are read at all.
use Rattle.std.specs.Prelude.{◌≡◌, ℕ, ◌+◌, List, ◌∷◌, Bool, true, false, Some, None, Ok, codes, is_some, option_map, if◌then◌else◌}
use Rattle.json.specs.Token.{Token, begin_object, end_object, begin_array, key}
use Rattle.json.specs.Token as token
use Rattle.json.specs.Json.{read_key}
use Rattle.serde_json.specs.Data.{Data, string, object, Items, Members, no_members, put}
use Rattle.serde_json.specs.Events.{members_len}
use Rattle.serde_json.specs.Find.{get_member}
use Rattle.imkl_json.specs.Json.{elements_of}
use Rattle.ocl_base.specs.Steps.{each}
use Rattle.token_tree.specs.Tokens.{data_at, members_at}
use Rattle.imkl_population.specs.Population.{Population}
use Rattle.imkl_delivery.specs.declared.outline.Found.{Found}
use Rattle.imkl_delivery.specs.Document.{Written, entry_from}
use Rattle.imkl_delivery.specs.Loading.{add_entries, put_members}

-- what stands before the first object of a delivery for a class model of this name
abbrev pub opening : List ℕ → List Token → List Token
opening name ts = begin_object ∷ key (codes "model") ∷ token.string name ∷ key (codes "objects") ∷ begin_array ∷ ts

abbrev pub IsObject : Data → Type 0
IsObject d = (ms : Members) × (d ≡ object ms)

abbrev pub one_if : Bool → ℕ
one_if b = if b then 1 else 0

-- there are features, or there are none
abbrev pub HasFeatures : Bool → Members → Type 0
HasFeatures true ms = (fs : Members) × (get_member (codes "features") ms ≡ Some (object fs))
HasFeatures false ms = get_member (codes "features") ms ≡ None

-- members of an entry that were found are there, and no others
pub record AreFound (f : Found) (ms : Members) : Type 0 where
  pub id : get_member (codes "id") ms ≡ option_map (λ s. string s.now) f.id
  pub class : get_member (codes "class") ms ≡ option_map (λ s. string s.now) f.class
  pub features : HasFeatures f.features ms
  pub count : members_len ms ≡ one_if (is_some f.id) + one_if (is_some f.class) + one_if f.features

-- Of the tokens `old` the value of a member k that comes next, if it is read, is put to those found, and leaves `new`.
abbrev pub TakesMember : List ℕ → List Token → Found → List Token → Found → Type 0
TakesMember k old f new g = (d : Data) (r : List Token) → data_at 124 old ≡ Some (d, r) → (r ≡ new) × ((ms : Members) → AreFound f ms → AreFound g (put k d ms))

-- the members of an entry with this id and class
pub record HasHead (i c : List ℕ) (ms : Members) : Type 0 where
  pub id : get_member (codes "id") ms ≡ Some (string i)
  pub class : get_member (codes "class") ms ≡ Some (string c)
  pub features : HasFeatures true ms
  pub count : members_len ms ≡ 3

-- Of the tokens `old` the value that comes next, if it is read, is an entry with this id and class, and leaves `new`.
abbrev pub IsHead : List ℕ → List ℕ → List Token → List Token → Type 0
IsHead id class old new = (d : Data) (r : List Token) → data_at 125 old ≡ Some (d, r)
    → (r ≡ new) × ((fs : Members) × (entry_from d ≡ Ok (record { id = id; class = class; features = fs })))

-- the values are entries, whose objects were added
abbrev pub AreAdded : Items → Population → Population → Type 0
AreAdded all old new = (ws : List Written) × (each entry_from (elements_of all) ≡ Ok ws) × (add_entries ws old ≡ Ok new)

-- Of the tokens `old` members come first that are put one after another, and then the name of the features, which leaves `new`.
abbrev pub StopsBefore : List Token → List Token → Type 0
StopsBefore old new = (found : Members) × (ts : List Token) × (read_key ts ≡ Some (Some (codes "features"), new)) × (members_at 124 no_members old ≡ members_at 124 found ts)

-- Of the tokens `old` the rest of the members comes first, put to those found, and leaves the features and the tokens `new`.
abbrev pub EndsWith : Members → List Token → List Token → Type 0
EndsWith found old new = (all : Members) × (members_at 124 found old ≡ Some (all, new)) × (get_member (codes "features") all ≡ get_member (codes "features") found)

-- Of the tokens `old` a value comes first, and leaves `new`; if it is an entry, what it says was written on an object.
abbrev pub IsEntryPut : ℕ → List Token → Population → List Token → Population → Type 0
IsEntryPut o old p new q = (d : Data) × (data_at 125 old ≡ Some (d, new)) × ((w : Written) → entry_from d ≡ Ok w → put_members o w.features p ≡ Ok q)
