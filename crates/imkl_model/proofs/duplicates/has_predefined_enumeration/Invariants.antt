use Rattle.std.proofs.Common.{◌≡◌, map, drop}
use Rattle.std.specs.List.{list_any}
use Rattle.imkl_model.specs.Words.{is_predefined}
use Rattle.imkl_model.proofs.duplicates.has_predefined_enumeration.Given as goal

abbrev pub invariant-loop-enumeration : goal.invariant-loop-enumeration
invariant-loop-enumeration l = list_any is_predefined (map (λ e. e.name) (drop l.enumeration-index l.enumerations)) ≡ list_any is_predefined (map (λ e. e.name) l.enumerations)
