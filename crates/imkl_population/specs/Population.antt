-- Populations: objects with what is written on them, and the ends that follow from that.
use Rattle.std.specs.Prelude.{◌≡◌, ◌<◌, ℕ, zero, suc, ◌==◌, Bool, true, List, [], ◌∷◌, ◌++◌, Option, Some, None, length, map, filter, slice_index_or, bytes_eq, if◌then◌else◌}
use Rattle.std.specs.List.{filter_map}
use Rattle.imkl_model.specs.declared.feature.Role.{Role}
use Rattle.imkl_model.specs.declared.feature.Role.TheVariants.{Attribute, SourceEnd, OppositeEnd}
use Rattle.imkl_model.specs.ClassModel.{Model, feature_at, conforms}
use Rattle.imkl_population.specs.declared.scalar.Scalar.{Scalar}
use Rattle.imkl_population.specs.declared.scalar.Scalar.TheVariants as scalar
use Rattle.imkl_population.specs.declared.object.Object.{Object}
use Rattle.ocl_base.specs.Numbers.{places}
use Rattle.imkl_population.specs.Written.{written_in}

-- An object has an id, a class, and a finite map from attributes and source ends to the values written there.
pub record Population : Type 0 where
  pub model : Model
  pub objects : List Object

abbrev pub no_object : Object
no_object = record { id = []; class = 0; written = [] }

abbrev pub object_at : Population → ℕ → Object
object_at p o = slice_index_or p.objects o no_object

abbrev pub class_of : Population → ℕ → ℕ
class_of p o = (object_at p o).class

-- what is written at a feature of an object
abbrev pub written_at : Population → ℕ → ℕ → List Scalar
written_at p o f = written_in (object_at p o).written f

-- the objects among values
abbrev pub target_of : Scalar → Option ℕ
target_of (scalar.Object o) = Some o
target_of v = None

abbrev pub targets : List Scalar → List ℕ
targets vs = filter_map target_of vs

-- an association, named by its source end, has a pair of holder and target for each target written there,
-- in the order of the holders
abbrev pub pairs_of : ℕ → List Scalar → List (ℕ × ℕ)
pairs_of holder vs = map (λ t. (holder, t)) (targets vs)

abbrev pub pairs_below : Population → ℕ → ℕ → List (ℕ × ℕ)
pairs_below p source zero = []
pairs_below p source (suc o) = pairs_below p source o ++ pairs_of o (written_at p o source)

abbrev pub pairs : Population → ℕ → List (ℕ × ℕ)
pairs p source = pairs_below p source (length p.objects)

-- the second members of the pairs that begin with an object, and the first members of those that end at it
abbrev pub targets_from : ℕ → List (ℕ × ℕ) → List ℕ
targets_from o qs = map (λ q. q.1) (filter (λ q. q.0 == o) qs)

abbrev pub holders_of : ℕ → List (ℕ × ℕ) → List ℕ
holders_of o qs = map (λ q. q.0) (filter (λ q. q.1 == o) qs)

abbrev pub held_by : ℕ → ℕ → List Scalar → List ℕ
held_by holder o vs = holders_of o (pairs_of holder vs)

-- the source end of an object: the targets of the pairs that begin with it
abbrev pub source_end : Population → ℕ → ℕ → List ℕ
source_end p source o = targets_from o (pairs p source)

-- the opposite end of an object: the holders of the pairs that end at it
abbrev pub opposite_end : Population → ℕ → ℕ → List ℕ
opposite_end p source o = holders_of o (pairs p source)

-- the values of a feature of an object
abbrev pub values_by : Role → Population → ℕ → ℕ → List Scalar
values_by Attribute p o f = written_at p o f
values_by (SourceEnd g) p o f = written_at p o f
values_by (OppositeEnd source) p o f = map scalar.Object (opposite_end p source o)

abbrev pub values_of : Population → ℕ → ℕ → List Scalar
values_of p o f = values_by (feature_at p.model f).role p o f

-- the objects of a class, those of its subclasses included, in their order
abbrev pub is_instance : Population → ℕ → ℕ → Bool
is_instance p c o = conforms p.model (class_of p o) c

-- an object that is there, of a class or a subclass of it
abbrev pub IsInstance : Population → ℕ → ℕ → Type 0
IsInstance p c o = (o < length p.objects) × (is_instance p c o ≡ true)

abbrev pub instances : Population → ℕ → List ℕ
instances p c = places (is_instance p c) (length p.objects)

-- the number of the first object that has an id
abbrev pub object_number_in : ℕ → List Object → List ℕ → Option ℕ
object_number_in n [] id = None
object_number_in n (o ∷ os) id = if bytes_eq id o.id then Some n else object_number_in (suc n) os id

abbrev pub object_number : Population → List ℕ → Option ℕ
object_number p id = object_number_in 0 p.objects id
