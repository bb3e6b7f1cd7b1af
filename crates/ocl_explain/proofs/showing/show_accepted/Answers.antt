use Rattle.std.proofs.Common.{ℕ, List, true, ◌++◌, refl, ap, ◌∙◌}
use Rattle.ocl_check.proofs.ForAbove.{ending_as}
use Rattle.ocl_explain.proofs.ShownRules.{marked_unit, unit_marked}
use Rattle.ocl_explain.proofs.showing.show_accepted.Goals as goal

pub returns-in-Ok : goal.returns-in-Ok
returns-in-Ok g c =
    let shown = c.in-Ok.ensures in
    let text = c.as_bytes.ensures.value ∙ (shown.2 ∙ ap (λ (before : List ℕ). before ++ shown.0) c.new-text.ensures.bytes) in
    ((shown.0, 0), (shown.1, refl), ending_as (ap (λ (t : List ℕ). (t, 0)) text) (c.write_answer.ensures true))

pub returns : goal.returns
returns g c =
    let m = c.args.accepted.now.model in
    let u = c.args.accepted.now.unit in
    (marked_unit m u, unit_marked m u, c.stop.ensures true (marked_unit m u) tt)
