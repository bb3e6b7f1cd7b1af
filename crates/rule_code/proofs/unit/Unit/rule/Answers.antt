use Rattle.rule_code.specs.Content.{rule_content}
use Rattle.rule_code.specs.View.{content}
use Rattle.rule_code.proofs.ForAbove.{rule_at_place, name_in_range, context_is_class, context_in_range, code_fits}
use Rattle.rule_code.proofs.unit.Unit.rule.Goals as goal

pub returns-clause-name : goal.returns-clause-name
returns-clause-name c =
    let u = c.args.self.now in
    name_in_range (content u) u.is_unit c.args.index (rule_content c.index.result.now) (rule_at_place u.rules.items c.args.index c.index.result.now c.requires c.index.ensures)

pub returns-clause-context : goal.returns-clause-context
returns-clause-context c =
    let u = c.args.self.now in
    context_is_class (content u) u.is_unit c.args.index (rule_content c.index.result.now) (rule_at_place u.rules.items c.args.index c.index.result.now c.requires c.index.ensures)

pub returns-clause-context_in_range : goal.returns-clause-context_in_range
returns-clause-context_in_range c =
    let u = c.args.self.now in
    context_in_range (content u) u.is_unit c.args.index (rule_content c.index.result.now) (rule_at_place u.rules.items c.args.index c.index.result.now c.requires c.index.ensures)

pub returns-clause-code : goal.returns-clause-code
returns-clause-code c =
    let u = c.args.self.now in
    code_fits (content u) u.is_unit c.args.index (rule_content c.index.result.now) (rule_at_place u.rules.items c.args.index c.index.result.now c.requires c.index.ensures)
