-- What was read of an object's features and is yet to be put, by features.
use Rattle.std.specs.Prelude.{◌≡◌, ℕ, ◌<◌, List, true, false, length, Option, None, option_map, slice_index_or}
use Rattle.serde_json.specs.Data.{Data, null, array, Members}
use Rattle.serde_json.specs.Find.{get_member}
use Rattle.serde_json.specs.View.{view}
use Rattle.token_tree.specs.Single.{single_view, singles_view}
use Rattle.imkl_model.specs.ClassModel.{Model, feature_at, belongs}
use Rattle.imkl_population.specs.Required.{is_one_of}
use Rattle.imkl_delivery.specs.declared.pending_value.Pending.{Pending}
use Rattle.imkl_delivery.specs.declared.pending_value.Pending.TheVariants.{Nothing, One, Many, Tree}
use Rattle.imkl_delivery.specs.Loading.{are_features}

-- the JSON value that is pending
abbrev pub pending_view : Pending → Data
pending_view Nothing = null
pending_view (One s) = single_view s
pending_view (Many v) = array (singles_view v.items)
pending_view (Tree v) = view v

-- what is pending at a feature
abbrev pub pending_at : List (Option Pending) → ℕ → Option Data
pending_at values f = option_map pending_view (slice_index_or values f None)

abbrev pub NonePending : List (Option Pending) → Type 0
NonePending values = (f : ℕ) → pending_at values f ≡ None

-- something is pending at some features alone
abbrev pub IsPendingOnly : List ℕ → List (Option Pending) → Type 0
IsPendingOnly fs values = (f : ℕ) → is_one_of fs f ≡ false → pending_at values f ≡ None

-- what members write at a feature is pending, if it is one of the class
abbrev pub IsPendingAt : Model → ℕ → Members → List (Option Pending) → ℕ → Type 0
IsPendingAt m c ms values f = belongs m c f ≡ true → get_member (feature_at m f).name ms ≡ pending_at values f

-- members name features of a class, and what they write is pending
pub record ArePending (m : Model) (c : ℕ) (ms : Members) (values : List (Option Pending)) : Type 0 where
  pub named : are_features m c ms ≡ true
  pub written : (f : ℕ) → f < length m.features → IsPendingAt m c ms values f
