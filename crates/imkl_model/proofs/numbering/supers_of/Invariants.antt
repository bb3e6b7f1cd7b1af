use Rattle.std.proofs.Common.{◌≡◌, drop}
use Rattle.ocl_base.specs.Steps.{each}
use Rattle.imkl_model.specs.Numbering.{number_in}
use Rattle.ocl_base.proofs.ForAbove.{with_front}
use Rattle.imkl_model.proofs.numbering.supers_of.Given as goal

abbrev pub invariant-loop-name : goal.invariant-loop-name
invariant-loop-name l = with_front l.found.items (each (number_in l.scope.classes) (drop l.name-index l.supers)) ≡ each (number_in l.scope.classes) l.supers
