use Rattle.std.proofs.Common.{◌≡◌, ◌++◌, drop}
use Rattle.imkl_model.specs.WrittenFeatures.{written_attributes}
use Rattle.imkl_model.proofs.feature_list.push_classes.Given as goal

abbrev pub invariant-loop-class : goal.invariant-loop-class
invariant-loop-class l = l.features.items ++ written_attributes (drop l.class-index l.classes) ≡ l.initial.features.items ++ written_attributes l.classes
