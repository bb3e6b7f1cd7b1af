use Rattle.std.proofs.Common.{map, sym, subst}
use Rattle.ocl_core.specs.CoreView.{checked_rule_of}
use Rattle.rule_code.specs.View.{content}
use Rattle.ocl_pipeline.specs.declared.stopped.Stopped.{Stopped}
use Rattle.ocl_pipeline.specs.TypedRules.{AreRefusedFor}
use Rattle.ocl_pipeline.proofs.TextCompiled.{accepting_fails}
use Rattle.ocl_pipeline.proofs.rules.accept_rules.Goals as goal

pub returns-in-Err-clause-fault : goal.returns-in-Err-clause-fault
returns-in-Err-clause-fault c =
    let m = c.args.model.now in
    let rs = map checked_rule_of c.args.rules.now in
    let u = content c.in_ok-unit.unit in
    subst (AreRefusedFor m rs) (sym c.into_why.ensures)
    (accepting_fails m rs u c.in-Err.rejected.why c.well_formed-2.ensures c.requires.typed c.in_ok-unit.ensures.unit c.in-Err.ensures.refused)
