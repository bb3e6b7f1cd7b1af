use Rattle.std.proofs.Common.{◌≡◌, map, drop}
use Rattle.std.specs.List.{list_any}
use Rattle.imkl_model.specs.Words.{is_predefined}
use Rattle.imkl_model.proofs.duplicates.has_predefined_class.Given as goal

abbrev pub invariant-loop-class : goal.invariant-loop-class
invariant-loop-class l = list_any is_predefined (map (λ c. c.name) (drop l.class-index l.classes)) ≡ list_any is_predefined (map (λ c. c.name) l.classes)
