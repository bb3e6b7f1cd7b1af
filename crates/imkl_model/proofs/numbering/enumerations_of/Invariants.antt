use Rattle.std.proofs.Common.{◌≡◌, map, take}
use Rattle.imkl_model.specs.Numbering.{enumeration_as_written}
use Rattle.imkl_model.proofs.numbering.enumerations_of.Given as goal

abbrev pub invariant-loop-enumeration : goal.invariant-loop-enumeration
invariant-loop-enumeration l = l.found.items ≡ map enumeration_as_written (take l.enumeration-index l.enumerations)
