use Rattle.std.proofs.Common.{map}
use Rattle.ocl_text.specs.View.{rule_of}
use Rattle.ocl_core.specs.CoreView.{checked_rule_of}
use Rattle.ocl_pipeline.proofs.TextCompiled.{rules_typed}
use Rattle.ocl_pipeline.proofs.rules.type_rules.Goals as goal

pub returns-clause-rules : goal.returns-clause-rules
returns-clause-rules c = rules_typed c.args.model.now (map rule_of c.args.rules.now) (map checked_rule_of c.in_ok-typed.typed.items) c.in_ok-typed.ensures.gives
