use Rattle.std.proofs.Common.{◌≡◌, drop, bytes_eq}
use Rattle.std.specs.List.{list_any}
use Rattle.ocl_base.specs.Lists.{repeats}
use Rattle.imkl_model.proofs.duplicates.repeats_literal.Given as goal

abbrev pub invariant-loop-enumeration : goal.invariant-loop-enumeration
invariant-loop-enumeration l = list_any (λ e. repeats bytes_eq e.literals) (drop l.enumeration-index l.enumerations) ≡ list_any (λ e. repeats bytes_eq e.literals) l.enumerations
