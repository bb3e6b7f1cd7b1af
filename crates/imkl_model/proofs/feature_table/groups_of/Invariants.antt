use Rattle.std.specs.BTreeMap.{get_by_text}
use Rattle.imkl_model.specs.Held.{AreGroups}
use Rattle.imkl_model.proofs.feature_table.groups_of.Given as goal

abbrev pub invariant-loop-number : goal.invariant-loop-number
invariant-loop-number l = AreGroups l.features l.number (get_by_text l.groups)
