use Rattle.std.proofs.Common.{subst}
use Rattle.rule_code.specs.WellFormed.{IsUnit}
use Rattle.rule_trees.proofs.Walked.{whole_there}
use Rattle.rule_trees.proofs.building.core_of_rule.Goals as goal

pub sequence-requires-clause-there : goal.sequence-requires-clause-there
sequence-requires-clause-there c =
    let a = c.args.accepted.now in
    let code = c.new-code.ensures in
    let made = c.accepted_rules_have_trees.ensures a.model a.unit c.args.index (subst IsUnit c.unit.ensures c.well_formed-2.ensures) c.accepted.ensures c.requires in
    whole_there c.new-code.result a c.args.index code.accepted code.rule code.code made.0 made.1
