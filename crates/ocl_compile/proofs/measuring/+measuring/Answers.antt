use Rattle.std.proofs.Common.{◌≡◌, ℕ, suc, ◌+◌, ◌<◌, length, List, ◌∷◌, map, drop, refl, sym, ap, ◌∙◌, arith}
use Rattle.std.proofs.lemmas.List.{drop_more, drop_all}
use Rattle.ocl_core.specs.declared.core_tree.Core.{Core}
use Rattle.ocl_core.specs.declared.core_tree.CoreLink.{CoreLink}
use Rattle.ocl_core.specs.Core.{CoreTree, cores_of, lets_of}
use Rattle.ocl_core.specs.CoreView.{CoreOnward, core_view, core_link_of, core_spine}
use Rattle.ocl_core.proofs.ForAbove.{core_view-Spine, core_link_of-Operation, core_link_of-Fold}
use Rattle.ocl_compile.specs.declared.extent.Extent.{Extent}
use Rattle.ocl_compile.specs.Extents.{then_instruction, then_above, then_block, extent_of, extent_after, cut_extent}
use Rattle.ocl_compile.proofs.Cuts.{cut_instruction, cut_above, cut_block}
use Rattle.ocl_compile.proofs.Emitted.{drop_before}
use Rattle.ocl_compile.proofs.measuring.+measuring.Goals as goal

-- src/measuring.rt
pub measure-loop-link-init : goal.measure-loop-link-init
measure-loop-link-init t c = (
  core_view c.in-Spine.first.value,
  c.measure-extent.ensures ∙ ap (λ (x : Core). cut_extent (extent_of (core_view x))) c.deref.ensures,
  ap (λ (ls : List CoreLink). core_spine (core_view c.in-Spine.first.value) (map core_link_of ls)) c.deref-link-items.ensures.value
      ∙ sym (core_view-Spine c.in-Spine.first c.in-Spine.links) ∙ ap core_view (sym c.in-Spine.is),
)

pub measure-loop-link-preserved : goal.measure-loop-link-preserved
measure-loop-link-preserved t c =
    let before = c.loop-link.invariant in
    let link = c.link-item.result in
    let items = c.deref-link-items.result.now in
    let i = c.loop-link.link-index in
    let here = ap (λ (x : CoreLink). x ∷ drop (i + 1) items) c.link-item.is ∙ sym (drop_more items i link c.loop-link-test.true) in
    (core_link_of link before.0, c.measure_link-extent.ensures before.0 before.1, ap (λ (ls : List CoreLink). core_spine before.0 (map core_link_of ls)) here ∙ before.2)

pub measure-returns-after-loop-link : goal.measure-returns-after-loop-link
measure-returns-after-loop-link t c =
    let whole = c.loop-link.invariant in
    let items = c.deref-link-items.result.now in
    let none = drop_all c.loop-link.link-index items (omega (arith, c.loop-link-test.false)) in
    whole.1 ∙ ap (λ (x : CoreTree). cut_extent (extent_of x)) (ap (λ (ls : List CoreLink). core_spine whole.0 (map core_link_of ls)) (sym none) ∙ whole.2)

pub measure_link-loop-i-init : goal.measure_link-loop-i-init
measure_link-loop-i-init t c = λ source e. (extent_of source, e, refl)

pub measure_link-loop-i-preserved : goal.measure_link-loop-i-preserved
measure_link-loop-i-preserved t c = λ source e.
    let before = c.loop-i.invariant source e in
    let i = c.loop-i.i in
    let others = c.in-Operation.others.items in
    let one = c.index.result.now in
    let x = then_above (i + 1) before.0 (extent_of (core_view one)) in
    let within : i < length others = omega (arith, c.loop-i-test.true, c.len-i-end.ensures) in
    let here = drop_more others i one within ∙ ap (λ (y : Core). y ∷ drop (i + 1) others) (sym c.index.ensures) in
    let next : i + 1 + 1 ≡ suc (i + 1) = omega arith in (
      x,
      c.then_above-whole.ensures
          ∙ ap (λ (y : Extent). cut_extent (then_above (i + 1) y c.measure.result)) before.1
          ∙ ap (λ (y : Extent). cut_extent (then_above (i + 1) (cut_extent before.0) y)) c.measure.ensures
          ∙ cut_above (i + 1) before.0 (extent_of (core_view one)),
      ap (λ (n : ℕ). extent_after n x (cores_of (map core_view (drop (i + 1) others)))) next
          ∙ ap (λ (l : List Core). extent_after (i + 1) before.0 (cores_of (map core_view l))) (sym here)
          ∙ before.2,
    )

pub measure_link-returns-after-loop-i : goal.measure_link-returns-after-loop-i
measure_link-returns-after-loop-i t c = λ source e.
    let whole = c.loop-i.invariant source e in
    let others = c.in-Operation.others in
    let none = drop_all c.loop-i.i others.items (omega (arith, c.loop-i-test.false, c.len-i-end.ensures)) in
    let all = ap (λ (l : List Core). extent_after (c.loop-i.i + 1) whole.0 (cores_of (map core_view l))) (sym none) ∙ whole.2 in
    c.then_instruction.ensures
    ∙ ap (λ (x : Extent). cut_extent (then_instruction x)) whole.1
    ∙ cut_instruction whole.0
    ∙ ap (λ (x : Extent). cut_extent (then_instruction x)) all
    ∙ ap (λ (f : CoreOnward). cut_extent (extent_of (f source))) (sym (core_link_of-Operation c.in-Operation.operator others))
    ∙ ap (λ (l : CoreLink). cut_extent (extent_of (core_link_of l source))) (sym c.in-Operation.is)

pub measure_link-returns-in-Fold : goal.measure_link-returns-in-Fold
measure_link-returns-in-Fold t c = λ source e.
    let x = extent_of source in
    let a = extent_of (core_view c.in-Fold.start.value) in
    let b = extent_of (core_view c.in-Fold.body) in
    c.then_block-in-Fold.ensures
    ∙ ap (λ (y : Extent). cut_extent (then_block c.then_above.result y)) c.measure-in-Fold-2.ensures
    ∙ ap (λ (y : Extent). cut_extent (then_block y (cut_extent b))) (c.then_above.ensures ∙ ap (λ (y : Extent). cut_extent (then_above 1 y c.measure-in-Fold.result)) e ∙ ap (λ (y : Extent). cut_extent (then_above 1 (cut_extent x) y)) (c.measure-in-Fold.ensures ∙ ap (λ (y : Core). cut_extent (extent_of (core_view y))) c.deref.ensures) ∙ cut_above 1 x a)
    ∙ cut_block (then_above 1 x a) b
    ∙ ap (λ (f : CoreOnward). cut_extent (extent_of (f source))) (sym (core_link_of-Fold c.in-Fold.kind c.in-Fold.start c.in-Fold.body))
    ∙ ap (λ (l : CoreLink). cut_extent (extent_of (core_link_of l source))) (sym c.in-Fold.is)

-- ---- values with the body that sees them

pub measure_lets-loop-i-init : goal.measure_lets-loop-i-init
measure_lets-loop-i-init t c = λ inner e.
    let xs = c.args.values.now in
    e ∙ ap (λ (ys : List Core). cut_extent (extent_of (lets_of (map core_view ys) inner))) (sym (drop_all (length xs) xs (omega arith)))

pub measure_lets-loop-i-preserved : goal.measure_lets-loop-i-preserved
measure_lets-loop-i-preserved t c = λ inner e.
    let xs = c.args.values.now in
    let i = c.loop-i.i in
    let x = c.index-values-i.result in
    let here = drop_before xs i x c.index-values-i.is c.loop-i-test.true c.loop-i.auto.i in
    c.then_block-extent.ensures
    ∙ ap (λ (y : Extent). cut_extent (then_block y c.loop-i.extent)) c.measure.ensures
    ∙ ap (λ (y : Extent). cut_extent (then_block (cut_extent (extent_of (core_view x))) y)) (c.loop-i.invariant inner e)
    ∙ cut_block (extent_of (core_view x)) (extent_of (lets_of (map core_view (drop i xs)) inner))
    ∙ ap (λ (ys : List Core). cut_extent (extent_of (lets_of (map core_view ys) inner))) (sym here)

pub measure_lets-returns : goal.measure_lets-returns
measure_lets-returns t c = λ inner e.
    let xs = c.args.values.now in
    let none : c.loop-i.i ≡ 0 = omega (arith, c.loop-i-test.false) in
    c.loop-i.invariant inner e ∙ ap (λ (k : ℕ). cut_extent (extent_of (lets_of (map core_view (drop k xs)) inner))) none
