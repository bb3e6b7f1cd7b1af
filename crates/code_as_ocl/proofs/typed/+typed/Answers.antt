use Rattle.std.proofs.Common.{ℕ, List, ◌∙◌, ap, map, rules}
use Rattle.std.proofs.lemmas.Result.{IfOk-weaker}
use Rattle.ocl_core.specs.declared.core_tree.Core.{the_lemmas}
use Rattle.ocl_core.specs.CoreView.{core_view}
use Rattle.code_as_ocl.specs.TypedTexts.{Printed, printed_of, links_printed, lets_printed, closed_by}
use Rattle.code_as_ocl.specs.PrintedView.{printed_view}
use Rattle.ocl_semantics.proofs.ForAbove.{spine_names, let_names}
use Rattle.code_as_ocl.proofs.TypedNodes.{spine_is, let_is}
use Rattle.code_as_ocl.proofs.typed.+typed.Goals as goal

pub printed_of-printed_of-requires : goal.printed_of-printed_of-requires
printed_of-printed_of-requires t c =
    let p = spine_names c.args.core.now c.in-Spine.first c.in-Spine.links c.in-Spine.is c.args.model.now c.requires in
    (search (rules, the_lemmas), (rw c.deref.ensures p.0))

pub printed_of-links_printed-requires : goal.printed_of-links_printed-requires
printed_of-links_printed-requires t c =
    let p = spine_names c.args.core.now c.in-Spine.first c.in-Spine.links c.in-Spine.is c.args.model.now c.requires in
    (search (rules, the_lemmas), (rw c.deref-in-Spine.ensures.value p.1))

pub printed_of-front_of-requires : goal.printed_of-front_of-requires
printed_of-front_of-requires t c =
    let p = let_names c.args.core.now c.in-Let.values c.in-Let.body c.in-Let.is c.args.model.now c.requires in
    (search (rules, the_lemmas), (rw c.deref-in-Let.ensures.value p.0))

pub printed_of-printed_of-requires-in-Let : goal.printed_of-printed_of-requires-in-Let
printed_of-printed_of-requires-in-Let t c =
    let p = let_names c.args.core.now c.in-Let.values c.in-Let.body c.in-Let.is c.args.model.now c.requires in
    (search (rules, the_lemmas), (rw c.deref-in-Let-3.ensures p.1))

pub printed_of-returns-in_ok-text-in-Spine : goal.printed_of-returns-in_ok-text-in-Spine
printed_of-returns-in_ok-text-in-Spine t c =
    let m = c.args.model.now in
    let g = c.args.kinds.now in
    let first = rw c.deref.ensures at c.in_ok-text-in-Spine.ensures in
    let links = rw c.deref-in-Spine.ensures.value at c.links_printed.ensures in
    let whole = ap (links_printed m g c.in-Spine.links.items) first ∙ spine_is c.args.core.now c.in-Spine.first c.in-Spine.links c.in-Spine.is m g in
    IfOk-weaker c.links_printed.result _ _ (λ x h. h ∙ whole) links

pub printed_of-returns-in_ok-inner-in-Let : goal.printed_of-returns-in_ok-inner-in-Let
printed_of-returns-in_ok-inner-in-Let t c =
    let m = c.args.model.now in
    let g = c.args.kinds.now in
    let values = map core_view c.in-Let.values.items in
    let body = core_view c.in-Let.body.value in
    let text-of-values = rw c.deref-in-Let.ensures.value at c.in_ok-front-in-Let.ensures.text in
    let text = rw c.deref-in-Let-2.ensures at text-of-values in
    let kinds-of-values = rw c.deref-in-Let.ensures.value at c.in_ok-front-in-Let.ensures.kinds in
    let kinds = rw c.deref-in-Let-2.ensures at kinds-of-values in
    let of-body = rw c.deref-in-Let-3.ensures at c.in_ok-inner-in-Let.ensures in
    let inner = (rw c.deref-in-Let-4.ensures.value at of-body) ∙ ap (printed_of m body) kinds in
    let closed = rw c.deref-in-Let-5.ensures.value at c.closed_by.ensures in
    let whole =
    ap (λ (x : List ℕ). closed_by values x (printed_view c.in_ok-inner-in-Let.inner)) text
    ∙ (ap (λ (w : Printed). closed_by values (lets_printed m values body g) w) inner
    ∙ let_is c.args.core.now c.in-Let.values c.in-Let.body c.in-Let.is m g) in
    IfOk-weaker c.closed_by.result _ _ (λ x h. h ∙ whole) closed
