use Rattle.std.proofs.Common.{◌≡◌, Result, Ok, map, refl, subst, sym}
use Rattle.ocl_base.specs.Steps.{◌>>=◌}
use Rattle.imkl_model.specs.ClassModel.{Model}
use Rattle.imkl_model.specs.WellFormed.{IsClassModel}
use Rattle.ocl_core.specs.CoreView.{checked_rule_of}
use Rattle.ocl_compile.specs.Compiling.{compile_of}
use Rattle.ocl_pipeline.specs.Asked.{AreCompiledFor, with_rules}
use Rattle.ocl_pipeline.specs.CompiledRules.{CompiledRules, TextRefusal, rules_with}
use Rattle.ocl_pipeline.specs.Steps.{refused_as, text_refusal}
use Rattle.ocl_pipeline.proofs.TextCompiled.{text_compiled}
use Rattle.ocl_pipeline.proofs.adapters.ask_rules.Goals as goal

pub returns-in-Ok : goal.returns-in-Ok
returns-in-Ok g c = λ t are.
    let p = c.args.population.now.content in
    let rs = map checked_rule_of c.args.rules.now in
    let u = c.in-Ok.accepted.unit in
    let same = c.model-model.ensures in
    let model : IsClassModel p.model = subst IsClassModel same c.well_formed-2.ensures in
    let compiled = text_compiled p.model t rs u are (subst (λ (m : Model). compile_of m rs ≡ Ok u) same c.in-Ok.ensures.compiled) in
    let for : AreCompiledFor p t (rules_with rs u) = record { model = model; population = c.consistent.ensures; compiled = compiled; unit = c.in-Ok.ensures.unit } in
    let P : Result CompiledRules TextRefusal → Type 0 = λ r. g.A.TextAsker.answers c.args.asker.now (refused_as text_refusal r >>= with_rules p) c.args.into.now c.ask.result c.ask.new.into in
    subst P (sym compiled) (c.ask.ensures t (rules_with rs u) for refl refl)
