-- Tests of all values, as tests of what they stand for.
use Rattle.std.proofs.Common.{◌≡◌, Bool, List, [], ◌∷◌, ◌||◌, map, refl, ap}
use Rattle.std.specs.List.{list_all, list_any}
use Rattle.std.proofs.lemmas.List.Folds.{list_all-map}
use Rattle.owned_values.specs.declared.value.Value.{Value as Held}
use Rattle.rule_values.specs.Value.{Value}
use Rattle.owned_values.specs.Meant.{meant}

-- all values pass a test where all that stand for them do
pub all_bodies : (test : Value → Bool) (bodies : List Held) → list_all test (map meant bodies) ≡ list_all (λ b. test (meant b)) bodies
all_bodies test bodies = list_all-map test meant bodies

-- some value passes a test where some that stands for one does
pub any_bodies : (test : Value → Bool) (bodies : List Held) → list_any test (map meant bodies) ≡ list_any (λ b. test (meant b)) bodies
any_bodies test [] = refl
any_bodies test (b ∷ bodies) = ap (λ t. test (meant b) || t) (any_bodies test bodies)
