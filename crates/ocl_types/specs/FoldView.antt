-- What the start values of accumulators are, and what folds have before their bodies.
use Rattle.std.specs.Prelude.{Box}
use Rattle.std.specs.Global.{Global}
use Rattle.ocl_types.specs.declared.folds.Begun.{Begun}
use Rattle.ocl_types.specs.declared.folds.Start.{Start}
use Rattle.ocl_core.specs.CoreView.{core_view}
use Rattle.ocl_types.specs.GatheredView.{gathered_view}
use Rattle.ocl_types.specs.Walk.{FoldStart, FoldBegun, fold_start, begun_with}

abbrev pub start_in : Box Start Global → FoldStart
start_in b = fold_start b.value.kind (core_view b.value.core)

abbrev pub begun_in : Box Begun Global → FoldBegun
begun_in b = begun_with (gathered_view b.value.source) b.value.element (start_in b.value.start)
