use Rattle.std.proofs.Common.{Result, sym, subst}
use Rattle.rule_cost.specs.Admission.{Admission}
use Rattle.ocl_pipeline.specs.declared.refusal.Refusal.{Refusal}
use Rattle.ocl_pipeline.proofs.Stopping.{admitted_is, cost_stops}
use Rattle.ocl_pipeline.proofs.admission.ask_sized.Goals as goal

pub returns-in-Ok : goal.returns-in-Ok
returns-in-Ok g c =
    let h = c.in-Ok.ensures in
    let p = c.args.population.now.content in
    subst (λ (x : Result Admission Refusal). g.A.AdmittedAsker.answers c.args.asker.now p x c.args.into.now c.ask.result c.ask.new.into)
    (sym (admitted_is c.args.budget c.in-Ok.admitted p c.args.accepted.now c.args.sizes.now h.unit h.sizes h.budget c.requires.one_model c.requires.sizes h.admitted)) c.ask.ensures

pub returns-in-Err : goal.returns-in-Err
returns-in-Err g c =
    let p = c.args.population.now.content in
    c.stop.ensures p _ (cost_stops c.args.budget p c.args.accepted.now.unit c.args.sizes.now c.in-Err.fault c.from.result c.from.ensures c.requires.sizes c.in-Err.ensures.admitted)
