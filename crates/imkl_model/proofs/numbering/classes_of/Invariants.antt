use Rattle.std.proofs.Common.{◌≡◌, drop}
use Rattle.ocl_base.specs.Steps.{each}
use Rattle.imkl_model.specs.Numbering.{class_in_scope}
use Rattle.ocl_base.proofs.ForAbove.{with_front}
use Rattle.imkl_model.proofs.numbering.classes_of.Given as goal

abbrev pub invariant-loop-class : goal.invariant-loop-class
invariant-loop-class l = with_front l.found.items (each (class_in_scope l.scope) (drop l.class-index l.classes)) ≡ each (class_in_scope l.scope) l.classes
