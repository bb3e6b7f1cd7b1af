-- What the sources of arrows are.
use Rattle.ocl_types.specs.declared.requirements.Gathered as declared
use Rattle.ocl_core.specs.CoreView.{core_view}
use Rattle.ocl_types.specs.Elaboration.{Gathered, gathered}

abbrev pub gathered_view : declared.Gathered → Gathered
gathered_view g = gathered (core_view g.core) g.collection g.element
