use Rattle.std.proofs.Common.{◌≡◌, drop, length, nat_le}
use Rattle.std.specs.List.{list_all}
use Rattle.imkl_model.specs.declared.limits.TheConstants.{MAX_TYPES}
use Rattle.imkl_model.proofs.checks.few_literals.Given as goal

abbrev pub invariant-loop-enumeration : goal.invariant-loop-enumeration
invariant-loop-enumeration l = list_all (λ e. nat_le (length e.literals) MAX_TYPES) (drop l.enumeration-index l.enumerations) ≡ list_all (λ e. nat_le (length e.literals) MAX_TYPES) l.enumerations
