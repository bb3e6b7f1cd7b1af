use Rattle.std.proofs.Common.{◌∙◌, sym, arith, ◌<◌, length}
use Rattle.std.proofs.lemmas.Slice.Eq.{bytes_eq-Decides}
use Rattle.imkl_model.proofs.ForAbove.{classes_have_names}
use Rattle.imkl_delivery.proofs.outline.is_class.Goals as goal

pub returns-then-index-class_count-clause-number : goal.returns-then-index-class_count-clause-number
returns-then-index-class_count-clause-number c same =
    let m = c.args.model.now in
    let there : c.args.class < length m.classes = omega (arith, c.if-index-class_count.true, c.index.ensures, c.class_count.ensures) in
    let named = (bytes_eq-Decides c.class_name.result.now c.args.name.now).0 (sym c.eq.ensures ∙ same) in
    (classes_have_names m c.well_formed-2.ensures c.args.name.now c.args.class).1
    (there, sym c.class_name.ensures ∙ named)
