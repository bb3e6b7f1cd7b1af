use Rattle.std.proofs.Common.{◌≡◌, map, drop, All}
use Rattle.ocl_kinds.specs.Kinds.{IsKindOf}
use Rattle.ocl_text.specs.Tree.{SurfaceTree, trees_of}
use Rattle.ocl_text.specs.View.{view, bound_of}
use Rattle.ocl_types.specs.TypedTrees.{typed_trees}
use Rattle.ocl_core.specs.CoreView.{core_view}
use Rattle.ocl_types.specs.TypedView.{typed_in}
use Rattle.ocl_types.specs.Walk as walk
use Rattle.ocl_types.specs.Walk.{IsLeft}
use Rattle.ocl_types.specs.ScopeView.{AreKnownVariables, Extends}
use Rattle.ocl_types.specs.Elaboration as spec
use Rattle.ocl_types.specs.EnvironmentView.{within}
use Rattle.ocl_types.proofs.Bindings.{after_bound}
use Rattle.ocl_types.proofs.Several.{after_values}
use Rattle.ocl_types.proofs.walk.+walk.Given as goal

abbrev pub invariant-elaborate_all-arguments : goal.invariant-elaborate_all-arguments
invariant-elaborate_all-arguments l =
    (after_values (typed_trees (map core_view l.cores.items) l.kinds.items) (within l.environment spec.elaborates l.fn.scope (trees_of (map view (drop l.argument-index l.arguments))))
    ≡ within l.environment spec.elaborates l.fn.scope (trees_of (map view l.arguments)))
    × All (IsKindOf l.environment.model.now) l.kinds.items
    × (l.scope ≡ l.fn.scope)

abbrev pub invariant-links_after-links : goal.invariant-links_after-links
invariant-links_after-links l =
    ((tree : SurfaceTree) → IsLeft l.environment.model.now l.environment.context l.fn.scope tree (drop l.from l.links) (typed_in l.fn.left) l.fn.left_offset
    → IsLeft l.environment.model.now l.environment.context l.fn.scope tree (drop l.i l.links) (typed_in l.value) l.offset)
    × IsKindOf l.environment.model.now l.value.value.kind
    × (l.scope ≡ l.fn.scope)

abbrev pub invariant-bind_others-bindings : goal.invariant-bind_others-bindings
invariant-bind_others-bindings l =
    (after_bound (map core_view l.values.items) (within l.environment walk.bind_all l.scope (map bound_of (drop l.binding-index l.bindings)))
    ≡ within l.environment walk.bind_others l.fn.scope (map bound_of l.bindings) (core_view l.fn.first))
    × AreKnownVariables l.environment.model.now l.scope
    × Extends l.fn.scope l.scope
