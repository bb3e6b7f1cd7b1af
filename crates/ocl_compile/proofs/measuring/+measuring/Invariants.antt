use Rattle.std.proofs.Common.{◌≡◌, ◌+◌, map, drop}
use Rattle.ocl_core.specs.Core.{CoreTree, cores_of, lets_of}
use Rattle.ocl_core.specs.CoreView.{core_view, core_link_of, core_spine}
use Rattle.ocl_compile.specs.declared.extent.Extent.{Extent}
use Rattle.ocl_compile.specs.Extents.{extent_of, extent_after, cut_extent}
use Rattle.ocl_compile.proofs.measuring.+measuring.Given as goal

abbrev pub invariant-measure-loop-link : goal.invariant-measure-loop-link
invariant-measure-loop-link l =
    (source : CoreTree) × (l.extent ≡ cut_extent (extent_of source))
    × (core_spine source (map core_link_of (drop l.link-index l.link-items)) ≡ core_view l.core)

abbrev pub invariant-measure_link-loop-i : goal.invariant-measure_link-loop-i
invariant-measure_link-loop-i l =
    (source : CoreTree) → l.fn.extent ≡ cut_extent (extent_of source)
    → (x : Extent) × (l.whole ≡ cut_extent x)
    × (extent_after (l.i + 1) x (cores_of (map core_view (drop l.i l.others.items))) ≡ extent_after 1 (extent_of source) (cores_of (map core_view l.others.items)))

abbrev pub invariant-measure_lets-loop-i : goal.invariant-measure_lets-loop-i
invariant-measure_lets-loop-i l =
    (inner : CoreTree) → l.fn.body ≡ cut_extent (extent_of inner) → l.extent ≡ cut_extent (extent_of (lets_of (map core_view (drop l.i l.values)) inner))
