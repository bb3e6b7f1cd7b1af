use Rattle.std.proofs.Common.{◌≡◌, map, take}
use Rattle.imkl_model.proofs.numbering.association_names.Given as goal

abbrev pub invariant-loop-association : goal.invariant-loop-association
invariant-loop-association l = l.found.items ≡ map (λ a. a.name) (take l.association-index l.associations)
