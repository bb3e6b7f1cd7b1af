use Rattle.std.proofs.Common.{map, None, sym, ap, ◌∙◌}
use Rattle.std.specs.Prelude.{Option}
use Rattle.std.specs.Option.{option_or}
use Rattle.ocl_kinds.specs.declared.kind.ScalarKind.{ScalarKind}
use Rattle.ocl_core.specs.CoreView.{core_view}
use Rattle.code_as_ocl.specs.WantedKinds.{wanted_of}
use Rattle.code_as_ocl.proofs.WantedNodes.{lets_are}
use Rattle.code_as_ocl.proofs.wanted.wanted_in_lets.Goals as goal

pub returns-in-Some : goal.returns-in-Some
returns-in-Some c =
    let m = c.args.model.now in
    let body = core_view c.args.body.now in
    ap (λ (o : Option ScalarKind). option_or o (wanted_of m c.args.variable body None)) (sym c.in-Some.is ∙ c.wanted_of_each.ensures)
    ∙ lets_are m c.args.variable (map core_view c.args.values.now) body None

pub returns-in-None : goal.returns-in-None
returns-in-None c =
    let m = c.args.model.now in
    let body = core_view c.args.body.now in
    c.wanted_of.ensures
    ∙ ap (λ (o : Option ScalarKind). option_or o (wanted_of m c.args.variable body None)) (sym c.in-None.is ∙ c.wanted_of_each.ensures)
    ∙ lets_are m c.args.variable (map core_view c.args.values.now) body None
