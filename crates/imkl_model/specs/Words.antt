-- The names of a class model, and the predefined types.
use Rattle.std.specs.Prelude.{ℕ, ◌&&◌, List, [], ◌∷◌, ◌++◌, length, Bool, nat_le, codes, bytes_eq}
use Rattle.std.specs.Str.{chars}
use Rattle.ocl_base.specs.Lists.{is_among}
use Rattle.ocl_base.specs.Words.{is_name}
use Rattle.imkl_model.specs.declared.limits.TheConstants.{MAX_NAME_LENGTH}

-- the name of a class, an enumeration, a literal, a feature or an association
unfoldable pub is_model_name : List ℕ → Bool
is_model_name name = nat_le (length name) MAX_NAME_LENGTH && is_name name

-- the class model's own name: any text of one or more characters, up to the limit
unfoldable pub is_title : List ℕ → Bool
is_title text = nat_le 1 (length (chars text)) && nat_le (length (chars text)) MAX_NAME_LENGTH

-- the predefined types: no class and no enumeration has such a name
abbrev pub predefined_types : List (List ℕ)
predefined_types =
    codes "Boolean" ∷ codes "Integer" ∷ codes "String" ∷ codes "Set" ∷ codes "OrderedSet" ∷ codes "Bag"
    ∷ codes "Sequence" ∷ []

abbrev pub is_predefined : List ℕ → Bool
is_predefined name = is_among bytes_eq predefined_types name

-- a feature's name with that of its owner, as `Owner.feature`
abbrev pub qualified : List ℕ → List ℕ → List ℕ
qualified owner name = owner ++ 46 ∷ name
