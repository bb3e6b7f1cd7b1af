use Rattle.ocl_pipeline.specs.CompiledRules.{compiled_rules}
use Rattle.ocl_pipeline.specs.Steps.{text_in}
use Rattle.ocl_check.specs.Compile.{compiled_code, compiled_answer, HasUnit}
use Rattle.ocl_check.proofs.Compiling.{unit_seen, unit_kept, no_unit, text_given, seen_as, refusal_seen, refusal_keeps}
use Rattle.ocl_check.proofs.commands.compile.compile_rule_text.Goals as goal

pub returns-in-Ok : goal.returns-in-Ok
returns-in-Ok g c =
    let h = c.in-Ok.ensures in (
      h.0,
      h.1,
      unit_seen c.compiled_unit.result c.args.model.now h.0 _ h.2 c.compiled_unit.ensures,
      unit_kept c.compiled_unit.result c.args.model.now h.0 _ h.2 c.well_formed-in-Ok.ensures,
    )

pub returns-in-Err : goal.returns-in-Err
returns-in-Err g c =
    let h = c.in-Err.ensures in
    let m = c.args.model.now in
    let x = compiled_rules m h.0 in
    let why = c.in-Err.why in
    let seen = seen_as c.refusal.result _ (compiled_answer x) (text_given m h.0) (refusal_seen c.refusal.result why (text_in m h.0) (λ c. compiled_code c.unit) h.3 c.refusal.ensures) in (
      h.0,
      h.1,
      seen,
      refusal_keeps c.refusal.result why (compiled_answer x) (HasUnit x) (no_unit x) c.refusal.ensures seen,
    )
