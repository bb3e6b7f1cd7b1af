use Rattle.std.proofs.Common.{◌≡◌, ◌++◌, map, take}
use Rattle.imkl_model.specs.WrittenFeatures.{written_attribute_of}
use Rattle.imkl_model.proofs.feature_list.push_attributes.Given as goal

abbrev pub invariant-loop-written : goal.invariant-loop-written
invariant-loop-written l = l.features.items ≡ l.initial.features.items ++ map (written_attribute_of l.owner) (take l.written-index l.attributes)
