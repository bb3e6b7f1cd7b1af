use Rattle.std.proofs.Common.{Result, IfOk, ap, sym, subst}
use Rattle.imkl_model.specs.ClassModel.{Model}
use Rattle.imkl_model.specs.declared.fault.ModelFault.{ModelFault}
use Rattle.ocl_pipeline.specs.Inputs.{model_of}
use Rattle.ocl_pipeline.specs.Steps.{model_in}
use Rattle.ocl_check.specs.Compile.{compile_model_answer, compile_answer, HasUnitFor}
use Rattle.ocl_check.proofs.Compiling.{seen_as, no_unit_for, model_is_read, compiled_for, inputs_given, refusal_seen, refusal_keeps}
use Rattle.ocl_check.proofs.commands.compile.compile_both.Goals as goal

pub returns-in-Ok : goal.returns-in-Ok
returns-in-Ok g c =
    let h = c.compile_rule_text.ensures in
    let is = model_is_read c.args.model.now c.in-Ok.model c.in-Ok.ensures in (
      h.0,
      h.1,
      seen_as c.compile_rule_text.result _ (compile_answer c.args.model.now h.0) (sym (ap (λ m. compile_model_answer m h.0) is)) h.2,
      subst (λ (m : Result Model ModelFault). IfOk c.compile_rule_text.result (λ x. HasUnitFor m h.0)) (sym is) h.3,
    )

pub returns-in-Err : goal.returns-in-Err
returns-in-Err g c =
    let t = c.each_text_is_read.ensures c.args.text.now in
    let model = c.args.model.now in
    let why = c.in-Err.why in
    let answer = compile_answer model t.0 in
    let seen = seen_as c.refusal.result _ answer (inputs_given t.0 model) (refusal_seen c.refusal.result why (model_in model) (compiled_for t.0) c.in-Err.ensures c.refusal.ensures) in (
      t.0,
      t.1,
      seen,
      refusal_keeps c.refusal.result why answer (HasUnitFor (model_of model) t.0) (no_unit_for (model_of model) t.0) c.refusal.ensures seen,
    )
