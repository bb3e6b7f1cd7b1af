-- Lists of single values as they grow while tokens are read.
use Rattle.std.proofs.Common.{◌≡◌, List, [], ◌∷◌, ◌++◌, refl, ap}
use Rattle.serde_json.specs.Data.{Items, no_items, item}
use Rattle.token_tree.specs.declared.single.Single.{Single}
use Rattle.token_tree.specs.Single.{single_view, singles_view}

-- values before what is still to come
abbrev pub behind : List Single → Items → Items
behind [] rest = rest
behind (v ∷ vs) rest = item (single_view v) (behind vs rest)

pub behind-no_items : (vs : List Single) → behind vs no_items ≡ singles_view vs
behind-no_items [] = refl
behind-no_items (v ∷ vs) = ap (item (single_view v)) (behind-no_items vs)

pub behind-push : (vs : List Single) (v : Single) (rest : Items) → behind (vs ++ v ∷ []) rest ≡ behind vs (item (single_view v) rest)
behind-push [] v rest = refl
behind-push (w ∷ vs) v rest = ap (item (single_view w)) (behind-push vs v rest)
