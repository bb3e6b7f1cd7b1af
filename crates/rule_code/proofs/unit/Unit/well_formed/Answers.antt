use Rattle.rule_code.specs.View.{content}
use Rattle.rule_code.proofs.ForAbove.{unit_holds}
use Rattle.rule_code.proofs.unit.Unit.well_formed.Goals as goal

pub returns : goal.returns
returns c = unit_holds (content c.args.self.now) c.args.self.now.is_unit
