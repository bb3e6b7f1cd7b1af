-- What inputs describe, as functions of their bytes.
use Rattle.std.proofs.Common.{◌≡◌, ℕ, Bool, true, false, List, Option, None, Some, Result, Err, refl, ap, ◌∙◌}
use Rattle.std.specs.Str.{IsUtf8, is_utf8}
use Rattle.std.proofs.lemmas.Str.{IsUtf8-from_is_utf8, is_utf8-from_IsUtf8}
use Rattle.serde_json.specs.Data.{Data}
use Rattle.serde_json.specs.Read.{read}
use Rattle.imkl_model.specs.declared.fault.ModelFault.{ModelFault}
use Rattle.imkl_model.specs.declared.fault.ModelFault.TheVariants as model
use Rattle.imkl_model.specs.ClassModel.{Model}
use Rattle.imkl_model.specs.Description.{describes_model, IsModelFault}
use Rattle.imkl_population.specs.Population.{Population}
use Rattle.imkl_delivery.specs.declared.fault.DeliveryFault.{DeliveryFault}
use Rattle.imkl_delivery.specs.declared.fault.DeliveryFault.TheVariants as delivery
use Rattle.imkl_delivery.specs.Loading.{describes_population}
use Rattle.imkl_delivery.specs.Description.{IsDeliveryFault}
use Rattle.ocl_pipeline.specs.Inputs.{json_of, model_by, model_of, population_by, population_of}

-- bytes that are the text of a tree have that tree
pub json_is : (bytes : List ℕ) (d : Data) → IsUtf8 bytes → read bytes ≡ Some d → json_of bytes ≡ Some d
json_is bytes d utf8 tree = rw (is_utf8-from_IsUtf8 bytes utf8) tree

-- bytes that are the text of no tree have none
pub no_tree_by : (bytes : List ℕ) (b : Bool) (t : Option Data) → is_utf8 bytes ≡ b → read bytes ≡ t
    → ((d : Data) → IsUtf8 bytes × (read bytes ≡ Some d) → ⊥) → json_of bytes ≡ None
no_tree_by bytes true (Some d) utf8 tree none = absurd (none d (IsUtf8-from_is_utf8 bytes utf8, tree))
no_tree_by bytes true None utf8 tree none = rw utf8 tree
no_tree_by bytes false t utf8 tree none = rw utf8 refl

pub no_json : (bytes : List ℕ) → ((d : Data) → IsUtf8 bytes × (read bytes ≡ Some d) → ⊥) → json_of bytes ≡ None
no_json bytes none = no_tree_by bytes (is_utf8 bytes) (read bytes) refl refl none

-- what a tree describes
pub model_is : (bytes : List ℕ) (x : Result Model ModelFault) → ((d : Data) × (IsUtf8 bytes × (read bytes ≡ Some d)) × (describes_model d ≡ x)) → model_of bytes ≡ x
model_is bytes x h = ap model_by (json_is bytes h.0 h.1.0 h.1.1) ∙ h.2

pub population_is : (m : Model) (bytes : List ℕ) (x : Result Population DeliveryFault)
    → ((d : Data) × (IsUtf8 bytes × (read bytes ≡ Some d)) × (describes_population m d ≡ x)) → population_of m bytes ≡ x
population_is m bytes x h = ap (population_by m) (json_is bytes h.0 h.1.0 h.1.1) ∙ h.2

-- a fault that isn't out of memory is the one described
pub model_is_refused : (bytes : List ℕ) (e : ModelFault) → (e ≡ model.OutOfMemory → ⊥) → IsModelFault e bytes → model_of bytes ≡ Err e
model_is_refused bytes model.OutOfMemory other fault = absurd (other refl)
model_is_refused bytes model.NotJson other fault = ap model_by (no_json bytes fault)
model_is_refused bytes model.Shape other fault = model_is bytes _ fault
model_is_refused bytes model.DuplicateName other fault = model_is bytes _ fault
model_is_refused bytes model.UnknownName other fault = model_is bytes _ fault
model_is_refused bytes model.Cycle other fault = model_is bytes _ fault
model_is_refused bytes model.FeatureClash other fault = model_is bytes _ fault
model_is_refused bytes model.BadMultiplicity other fault = model_is bytes _ fault
model_is_refused bytes model.Limit other fault = model_is bytes _ fault

pub population_is_refused : (m : Model) (bytes : List ℕ) (e : DeliveryFault) → (e ≡ delivery.OutOfMemory → ⊥) → IsDeliveryFault m e bytes → population_of m bytes ≡ Err e
population_is_refused m bytes delivery.OutOfMemory other fault = absurd (other refl)
population_is_refused m bytes delivery.NotJson other fault = ap (population_by m) (no_json bytes fault)
population_is_refused m bytes delivery.Shape other fault = population_is m bytes _ fault
population_is_refused m bytes delivery.OtherModel other fault = population_is m bytes _ fault
population_is_refused m bytes (delivery.UnknownClass o) other fault = population_is m bytes _ fault
population_is_refused m bytes (delivery.UnknownFeature o) other fault = population_is m bytes _ fault
population_is_refused m bytes (delivery.UnknownTarget o) other fault = population_is m bytes _ fault
population_is_refused m bytes (delivery.Population o e) other fault = population_is m bytes _ fault
