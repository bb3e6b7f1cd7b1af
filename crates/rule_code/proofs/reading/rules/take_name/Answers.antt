use Rattle.rule_code.specs.Taken.{is_name_taken}
use Rattle.rule_code.proofs.RuleNames.{is_name_taken-insert}
use Rattle.rule_code.proofs.reading.rules.take_name.Goals as goal

pub returns-clause-free : goal.returns-clause-free
unfolding is_name_taken
returns-clause-free c = c.in_ok-insert.ensures.added

pub returns-clause-taken : goal.returns-clause-taken
returns-clause-taken c = is_name_taken-insert c.args.name.now c.args.taken.now c.insert.new.self c.in_ok-insert.ensures.updates
