use Rattle.std.proofs.Common.{◌≡◌, ap, sym, ◌∙◌, Some}
use Rattle.imkl_model.specs.ClassModel.{feature_at}
use Rattle.imkl_population.specs.Building.{set_outcome}
use Rattle.imkl_delivery.specs.Steps.{at_object, placed_fault}
use Rattle.imkl_delivery.specs.Scalars.{scalar_from, all_found}
use Rattle.imkl_delivery.specs.Loading.{put_values}
use Rattle.ocl_base.proofs.ForAbove.{fails_along}
use Rattle.imkl_delivery.specs.Faults.{delivery_fault}
use Rattle.imkl_delivery.proofs.Refusals.{refused, values_there}
use Rattle.imkl_delivery.proofs.features.put_scalars.Goals as goal

pub returns-in-Ok-clause-leaves : goal.returns-in-Ok-clause-leaves
returns-in-Ok-clause-leaves c = λ ds is.
    let p = c.args.builder.now in
    let found : all_found (scalar_from p.model (feature_at p.model c.args.feature).element) ds ≡ Some c.in-Some.scalars.items = sym (rw c.in-Some.is at is) in
    sym (values_there c.args.object c.args.feature ds p c.in-Some.scalars.items found) ∙ ap (at_object c.args.object) c.in-Ok.ensures.answers

pub returns-in-Err-clause-leaves : goal.returns-in-Err-clause-leaves
returns-in-Err-clause-leaves c = λ ds is.
    let p = c.args.builder.now in
    let o = c.args.object in
    let f = c.args.feature in
    let vs = c.in-Some.scalars.items in
    let found : all_found (scalar_from p.model (feature_at p.model f).element) ds ≡ Some vs = sym (rw c.in-Some.is at is) in
    let fault : c.placed_fault-in-Err.result ≡ placed_fault o c.in-Err.fault = c.placed_fault-in-Err.ensures ∙ ap (λ x. placed_fault x c.in-Err.fault) c.index-in-Err.ensures in
    rw fault (fails_along delivery_fault (placed_fault o c.in-Err.fault) (at_object o (set_outcome p o f vs)) (put_values o f ds p) (values_there o f ds p vs found) (refused (Unit {0}) o c.in-Err.fault (set_outcome p o f vs) p c.set_value.new.self c.in-Err.ensures.answers))
