use Rattle.std.proofs.Common.{Ok, ap, sym, ◌∙◌}
use Rattle.rule_code.specs.View.{content}
use Rattle.ocl_pipeline.proofs.Stopping.{unit_accepted, unit_stops}
use Rattle.ocl_pipeline.proofs.rules.accept.Goals as goal

pub returns-in-Ok-clause-accepted : goal.returns-in-Ok-clause-accepted
returns-in-Ok-clause-accepted c =
    unit_accepted c.args.model.now (content c.args.unit) c.in-Ok.ensures.accepted ∙ ap Ok (sym c.in-Ok.ensures.unit)

pub returns-in-Err-clause-refused : goal.returns-in-Err-clause-refused
returns-in-Err-clause-refused c =
    unit_stops c.args.model.now (content c.args.unit) c.in-Err.fault c.from.result c.from.ensures c.in-Err.ensures.refused
