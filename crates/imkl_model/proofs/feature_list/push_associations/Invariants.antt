use Rattle.std.proofs.Common.{◌≡◌, ◌++◌, drop, length}
use Rattle.imkl_model.specs.WrittenFeatures.{written_ends}
use Rattle.imkl_model.proofs.feature_list.push_associations.Given as goal

abbrev pub invariant-loop-association : goal.invariant-loop-association
invariant-loop-association l = l.features.items ++ written_ends (length l.features.items) (drop l.association-index l.associations) ≡ l.initial.features.items ++ written_ends (length l.initial.features.items) l.associations
