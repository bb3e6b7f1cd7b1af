-- What lists of single values write at a feature.
use Rattle.std.proofs.Common.{◌≡◌, List, [], ◌∷◌, map, refl, ap}
use Rattle.serde_json.specs.Data.{Data}
use Rattle.serde_json.specs.View.{items_of}
use Rattle.imkl_json.specs.Json.{elements_of}
use Rattle.token_tree.specs.declared.single.Single.{Single}
use Rattle.token_tree.specs.Single.{single_view, singles_view}

listed : (ds : List Data) → elements_of (items_of ds) ≡ ds
listed [] = refl
listed (d ∷ ds) = ap (λ (es : List Data). d ∷ es) (listed ds)

-- a list of them writes each
pub elements-singles : (ss : List Single) → elements_of (singles_view ss) ≡ map single_view ss
elements-singles ss = listed (map single_view ss)
