-- What the arguments of calls are, and that what they name is of the class model.
use Rattle.std.specs.Prelude.{◌<◌, ℕ, List, map, length, All}
use Rattle.imkl_model.specs.ClassModel.{Model}
use Rattle.ocl_kinds.specs.Kinds.{IsKindOf}
use Rattle.ocl_types.specs.declared.calls.Arguments as declared
use Rattle.ocl_types.specs.declared.calls.Arguments.TheVariants as a
use Rattle.ocl_types.specs.declared.calls.Values as declared_values
use Rattle.ocl_types.specs.TypedTrees.{TypedTrees, typed_trees}
use Rattle.ocl_core.specs.CoreView.{core_view}
use Rattle.ocl_types.specs.Elaboration.{Arguments, Classes, Values}

abbrev pub values_view : declared_values.Values → TypedTrees
values_view v = typed_trees (map core_view v.cores.items) v.kinds.items

abbrev pub arguments_view : declared.Arguments → Arguments
arguments_view (a.Classes operator classes) = Classes operator classes.items
arguments_view (a.Values values) = Values (values_view values)

abbrev pub AreKnownClasses : Model → List ℕ → Type 0
AreKnownClasses m classes = All (λ c. c < length m.classes) classes

abbrev pub AreKnownArguments : Model → declared.Arguments → Type 0
AreKnownArguments m (a.Classes operator classes) = AreKnownClasses m classes.items
AreKnownArguments m (a.Values values) = All (IsKindOf m) values.kinds.items
