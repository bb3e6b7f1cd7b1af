-- A core tree with its kind, by what it means.
use Rattle.std.specs.Prelude.{Box}
use Rattle.std.specs.Global.{Global}
use Rattle.ocl_core.specs.CoreView.{core_view}
use Rattle.ocl_types.specs.TypedTrees.{TypedTree, typed}
use Rattle.ocl_types.specs.declared.typed.Typed.{Typed}

abbrev pub typed_of : Typed → TypedTree
typed_of t = typed (core_view t.core) t.kind

-- the same in a box
abbrev pub typed_in : Box Typed Global → TypedTree
typed_in b = typed_of b.value
