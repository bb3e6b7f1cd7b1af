-- A JSON tree's parts beside the values that stand for it.
use Rattle.std.proofs.Common.{◌≡◌, suc, List, [], ◌∷◌, length, map, String, refl, ap}
use Rattle.std.specs.declared.alloc.Global.{Global}
use Rattle.serde_json.specs.Events.{members_len}
use Rattle.serde_json.specs.View.{view, items_view, members_view}
use Rattle.serde_json.specs.declared.value.Value.{Value}
use Rattle.imkl_json.specs.Json.{elements_of}

-- the tree of a JSON object has as many members as the object has entries
pub members_len-view : (es : List (String Global × Value)) → members_len (members_view es) ≡ length es
members_len-view [] = refl
members_len-view (e ∷ es) = ap suc (members_len-view es)

-- the elements of a list's tree are the trees of its values
pub elements_of-view : (vs : List Value) → elements_of (items_view vs) ≡ map view vs
elements_of-view [] = refl
elements_of-view (v ∷ vs) = ap (λ (ds : List _). view v ∷ ds) (elements_of-view vs)

pub ruleset trees = (members_len-view, elements_of-view)
