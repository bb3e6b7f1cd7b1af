-- The features that need a value.
use Rattle.std.specs.Prelude.{ℕ, ◌==◌, ◌&&◌, ◌||◌, Bool, not, List, length, nat_lt}
use Rattle.std.specs.List.{list_any}
use Rattle.imkl_model.specs.declared.feature.Role.{Role}
use Rattle.imkl_model.specs.ClassModel.{Model, feature_at, belongs}
use Rattle.imkl_population.specs.declared.required.Side.{Side}
use Rattle.imkl_population.specs.declared.required.Side.TheVariants.{Written, Opposite}
use Rattle.ocl_base.specs.Numbers.{places}
use Rattle.imkl_model.specs.Features.{is_opposite}

-- for each class of a model, what it requires on one side
pub record Requirements : Type 0 where
  pub model : Model
  pub side : Side

abbrev pub is_on : Side → Role → Bool
is_on Written role = not (is_opposite role)
is_on Opposite role = is_opposite role

-- a class requires those of its features that have a lower bound above zero
abbrev pub is_required : Requirements → ℕ → ℕ → Bool
is_required r c f = belongs r.model c f && is_on r.side (feature_at r.model f).role && nat_lt 0 (feature_at r.model f).lower

abbrev pub required : Requirements → ℕ → List ℕ
required r c = places (is_required r c) (length r.model.features)

abbrev pub is_one_of : List ℕ → ℕ → Bool
is_one_of fs f = list_any (λ g. f == g) fs

-- some features and those that a class requires, each once, in the model's order
abbrev pub with_required : Requirements → ℕ → List ℕ → List ℕ
with_required r c fs = places (λ f. is_required r c f || is_one_of fs f) (length r.model.features)
