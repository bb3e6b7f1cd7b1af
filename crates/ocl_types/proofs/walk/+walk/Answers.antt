use Rattle.std.proofs.Common.{ℕ, List, ◌+◌, map, drop, Ok, sym, ap, ◌∙◌, rules}
use Rattle.std.proofs.Math.ListN.{drop_of_length-le}
use Rattle.std.proofs.lemmas.Result.{err_from_is_err_and}
use Rattle.ocl_base.proofs.ForAbove.{fails_whole, fails_along}
use Rattle.ocl_text.specs.declared.tree.Expression.{the_lemmas}
use Rattle.ocl_text.specs.Tree as surface
use Rattle.ocl_text.specs.Tree.{SurfaceTree}
use Rattle.ocl_text.specs.View.{view, bound_of, view_variable, link_of, spine_of}
use Rattle.ocl_text.proofs.ForAbove.{view-Spine, view-Let}
use Rattle.ocl_types.specs.CallView.{arguments_view}
use Rattle.ocl_types.specs.Elaboration.{elaborate}
use Rattle.ocl_types.specs.Faults.{type_fault}
use Rattle.ocl_types.proofs.Bindings.{let_steps}
use Rattle.ocl_types.specs.TypedTrees.{TypedTree}
use Rattle.ocl_types.specs.TypedView.{typed_in}
use Rattle.ocl_types.specs.FoldView.{begun_in}
use Rattle.ocl_types.specs.Walk.{fold_rest}
use Rattle.ocl_types.proofs.Links.{binary_link, property_link, call_link, iterate_link, fold_link, name_bound, fold_goes_on, instances_link, first_plain, more_links, first_fails, after_instances, instances_fail, next_left, last_left, left_fails, went_on, carried}
use Rattle.ocl_types.proofs.walk.+walk.Goals as goal

pub link_after-returns-in-Binary-clause-gives : goal.link_after-returns-in-Binary-clause-gives
link_after-returns-in-Binary-clause-gives t c = λ tree value stands plain.
    carried _ _ _ (binary_link c.args.environment.now.model.now c.args.environment.now.context c.args.scope.now c.args.link.now c.in-Binary.operator c.in-Binary.right c.in-Binary.offset tree (typed_in c.args.left) c.in-Binary.is value)
    (rw stands c.binary_link.ensures.gives)

pub link_after-returns-in-Property-clause-gives : goal.link_after-returns-in-Property-clause-gives
link_after-returns-in-Property-clause-gives t c = λ tree value stands plain.
    carried _ _ _ (property_link c.args.environment.now.model.now c.args.environment.now.context c.args.scope.now c.args.link.now c.in-Property.name c.in-Property.offset tree (typed_in c.args.left) c.in-Property.is value)
    (rw (c.len.ensures, c.as_str.ensures.text) at c.property_of.ensures.gives)

pub link_after-returns-in-Call-clause-gives : goal.link_after-returns-in-Call-clause-gives
link_after-returns-in-Call-clause-gives t c = λ tree value stands plain.
    carried _ _ _ (call_link c.args.environment.now.model.now c.args.environment.now.context c.args.scope.now c.args.link.now c.in-Call.navigation c.in-Call.name c.in-Call.arguments c.in-Call.offset tree (typed_in c.args.left) c.in-Call.is value plain)
    (rw (c.as_str-name.ensures.text, c.deref.ensures.value) at c.call_link.ensures.gives)

pub link_after-returns-in-Iterate-clause-gives : goal.link_after-returns-in-Iterate-clause-gives
link_after-returns-in-Iterate-clause-gives t c = λ tree value stands plain.
    carried _ _ _ (iterate_link c.args.environment.now.model.now c.args.environment.now.context c.args.scope.now c.args.link.now c.in-Iterate.iterator c.in-Iterate.variables c.in-Iterate.body c.in-Iterate.offset tree (typed_in c.args.left) c.in-Iterate.is value)
    c.iterate_link.ensures.gives

pub link_after-returns-in_err-begun-in-Fold-clause-gives : goal.link_after-returns-in_err-begun-in-Fold-clause-gives
link_after-returns-in_err-begun-in-Fold-clause-gives t c = λ tree value stands plain.
    let m = c.args.environment.now.model.now in
    let k = c.args.environment.now.context in
    let x = typed_in c.args.left in
    let whole = fold_link m k c.args.scope.now c.args.link.now c.in-Fold.variable c.in-Fold.accumulator c.in-Fold.body c.in-Fold.offset tree x c.in-Fold.is value
    ∙ fold_goes_on m k c.args.scope.now x (view_variable c.in-Fold.variable) (bound_of c.in-Fold.accumulator.value) (view c.in-Fold.body) in
    let p = err_from_is_err_and c.from_residual.result c.from_residual.ensures.1 in
    rw (p.1, p.2) (fails_whole type_fault c.in_err-begun-in-Fold.field-0.0 _ _ _ (sym whole) (rw c.deref-in-Fold.ensures at c.in_err-begun-in-Fold.ensures.gives))

pub link_after-returns-in_ok-begun-in-Fold-clause-gives : goal.link_after-returns-in_ok-begun-in-Fold-clause-gives
link_after-returns-in_ok-begun-in-Fold-clause-gives t c = λ tree value stands plain.
    let m = c.args.environment.now.model.now in
    let k = c.args.environment.now.context in
    let x = typed_in c.args.left in
    let whole = fold_link m k c.args.scope.now c.args.link.now c.in-Fold.variable c.in-Fold.accumulator c.in-Fold.body c.in-Fold.offset tree x c.in-Fold.is value
    ∙ fold_goes_on m k c.args.scope.now x (view_variable c.in-Fold.variable) (bound_of c.in-Fold.accumulator.value) (view c.in-Fold.body)
    ∙ went_on _ _ _ (rw c.deref-in-Fold.ensures at c.in_ok-begun-in-Fold.ensures.gives)
    ∙ ap (λ (name : List ℕ). fold_rest m k c.args.scope.now c.in-Fold.variable.name name (begun_in c.in_ok-begun-in-Fold.begun) (view c.in-Fold.body)) (name_bound c.in-Fold.accumulator.value) in
    carried _ _ _ whole (rw (c.in_ok-begun-in-Fold.ensures.kept, c.deref-in-Fold-2.ensures) at c.fold_link.ensures.gives)

pub fold_body-elaborate-requires : goal.fold_body-elaborate-requires
fold_body-elaborate-requires t c = (search (rules, the_lemmas), (c.requires.environment.0, c.in_ok-push_both.ensures.known))

pub link_after-call_link-requires : goal.link_after-call_link-requires
link_after-call_link-requires t c = (search (rules, the_lemmas), (c.requires.environment, c.requires.left))

pub links_after-links-preserved : goal.links_after-links-preserved
links_after-links-preserved t c = (
  λ tree left.
      let link = c.index-links-i.result in
      let more = drop (c.links.i + 1) c.args.links.now in
      let l = c.links.invariant.0 tree left in
      let is = more_links c.args.links.now c.links.i link c.index-links-i.is c.links-test.true in
      next_left c.args.environment.now.model.now c.args.environment.now.context c.args.scope.now tree link more (drop c.links.i c.args.links.now) (typed_in c.links.value) (typed_in c.in_ok-value.value) c.links.offset c.offset-offset.result l is
      ((rw c.links.invariant.2 at c.in_ok-value.ensures.gives) l.left l.value l.stands (first_plain (drop c.links.i c.args.links.now) more link l.left is l.plain)) (c.offset-offset.ensures l.left),
  c.in_ok-value.ensures.known,
  c.in_ok-value.ensures.kept ∙ c.links.invariant.2,
)

pub links_after-returns-in_err-value-clause-gives : goal.links_after-returns-in_err-value-clause-gives
links_after-returns-in_err-value-clause-gives t c = λ tree left.
    let link = c.index-links-i.result in
    let more = drop (c.links.i + 1) c.args.links.now in
    let l = c.links.invariant.0 tree left in
    let is = more_links c.args.links.now c.links.i link c.index-links-i.is c.links-test.true in
    let p = err_from_is_err_and c.from_residual.result c.from_residual.ensures.1 in
    rw (p.1, p.2) (left_fails c.args.environment.now.model.now c.args.environment.now.context c.args.scope.now tree link more (drop c.links.i c.args.links.now) (typed_in c.links.value) c.links.offset c.in_err-value.field-0.0 l is
    ((rw c.links.invariant.2 at c.in_err-value.ensures.gives) l.left l.value l.stands (first_plain (drop c.links.i c.args.links.now) more link l.left is l.plain)))

pub links_after-returns-clause-gives : goal.links_after-returns-clause-gives
links_after-returns-clause-gives t c = λ tree left.
    last_left c.args.environment.now.model.now c.args.environment.now.context c.args.scope.now tree (drop c.links.i c.args.links.now) (typed_in c.links.value) c.links.offset (c.links.invariant.0 tree left)
    (drop_of_length-le c.args.links.now c.links-test.false)

pub elaborate-returns-in_err-value-in-Some-clause-gives : goal.elaborate-returns-in_err-value-in-Some-clause-gives
elaborate-returns-in_err-value-in-Some-clause-gives t c =
    let s = c.args.scope.now in
    let first = view c.in-Spine.first.value in
    let seen = ap (elaborate c.args.environment.now.model.now c.args.environment.now.context s) (ap view c.in-Spine.is ∙ view-Spine c.in-Spine.first c.in-Spine.links) in
    let asked = sym (rw (c.deref-in-Spine.ensures, c.deref-in-Spine-2.ensures.value) at c.in-Some.ensures) in
    let p = err_from_is_err_and c.from_residual-in_err-value-in-Some.result c.from_residual-in_err-value-in-Some.ensures.1 in
    rw (p.1, p.2) (fails_along type_fault c.in_err-value-in-Some.field-0.0 _ _ (sym seen)
    (instances_fail c.args.environment.now.model.now c.args.environment.now.context s c.in_err-value-in-Some.field-0.0 first c.in-Spine.links.items c.index-link.result.now (c.in-Some.class.now, c.in-Some.at) asked c.index-link.ensures c.in_err-value-in-Some.ensures.gives))

pub elaborate-returns-in_err-left-in-None-clause-gives : goal.elaborate-returns-in_err-left-in-None-clause-gives
elaborate-returns-in_err-left-in-None-clause-gives t c =
    let s = c.args.scope.now in
    let seen = ap (elaborate c.args.environment.now.model.now c.args.environment.now.context s) (ap view c.in-Spine.is ∙ view-Spine c.in-Spine.first c.in-Spine.links) in
    let plain = sym (rw (c.deref-in-Spine.ensures, c.deref-in-Spine-2.ensures.value) at c.in-None.ensures) in
    let p = err_from_is_err_and c.from_residual-in_err-left-in-None.result c.from_residual-in_err-left-in-None.ensures.1 in
    rw (p.1, p.2) (fails_along type_fault c.in_err-left-in-None.field-0.0 _ _ (sym seen)
    (first_fails c.args.environment.now.model.now c.args.environment.now.context s c.in_err-left-in-None.field-0.0 (view c.in-Spine.first.value) c.in-Spine.links.items plain (rw c.deref-in-None.ensures at c.in_err-left-in-None.ensures.gives)))

pub elaborate-returns-in_ok-value-in-Some-clause-gives : goal.elaborate-returns-in_ok-value-in-Some-clause-gives
elaborate-returns-in_ok-value-in-Some-clause-gives t c =
    let s = c.args.scope.now in
    let first = view c.in-Spine.first.value in
    let seen = ap (elaborate c.args.environment.now.model.now c.args.environment.now.context s) (ap view c.in-Spine.is ∙ view-Spine c.in-Spine.first c.in-Spine.links) in
    let asked = sym (rw (c.deref-in-Spine.ensures, c.deref-in-Spine-2.ensures.value) at c.in-Some.ensures) in
    let left = after_instances c.args.environment.now.model.now c.args.environment.now.context s first c.in-Spine.links.items c.index-link.result.now (c.in-Some.class.now, c.in-Some.at) (typed_in c.in_ok-value-in-Some.value) c.offset.result asked c.index-link.ensures c.in_ok-value-in-Some.ensures.gives (c.offset.ensures (surface.Name c.in-Some.class.now c.in-Some.at)) in
    carried _ _ _ seen ((rw c.in_ok-value-in-Some.ensures.kept at c.links_after.ensures.gives) (spine_of first (map link_of c.in-Spine.links.items)) (rw c.deref-in-Some.ensures.value left))

pub let_value-bind_others-requires : goal.let_value-bind_others-requires
let_value-bind_others-requires t c = (search (rules, the_lemmas), (c.requires.environment.0, c.in_ok-outer.ensures.known))

pub let_value-returns-in_err-values-clause-gives : goal.let_value-returns-in_err-values-clause-gives
let_value-returns-in_err-values-clause-gives t c =
    let s = c.args.scope.now in
    let body = view c.in-Let.body.value in
    let seen = ap view c.in-Let.is ∙ view-Let c.in-Let.first c.in-Let.others c.in-Let.body c.in-Let.offset in
    let whole = ap (elaborate c.args.environment.now.model.now c.args.environment.now.context s) seen
    ∙ let_steps c.args.environment.now.model.now c.args.environment.now.context s (bound_of c.in-Let.first.value) (map bound_of c.in-Let.others.items) body c.in-Let.offset
    ∙ went_on _ _ _ (rw c.deref.ensures at c.in_ok-outer.ensures.gives) in
    let p = err_from_is_err_and c.from_residual-in_err-values.result c.from_residual-in_err-values.ensures.1 in
    rw (p.1, p.2) (fails_whole type_fault c.in_err-values.field-0.0 _ _ _ (sym whole) (rw c.deref-2.ensures.value at c.in_err-values.ensures.gives))

pub let_value-returns-in_err-value-clause-gives : goal.let_value-returns-in_err-value-clause-gives
let_value-returns-in_err-value-clause-gives t c =
    let s = c.args.scope.now in
    let body = view c.in-Let.body.value in
    let seen = ap view c.in-Let.is ∙ view-Let c.in-Let.first c.in-Let.others c.in-Let.body c.in-Let.offset in
    let whole = ap (elaborate c.args.environment.now.model.now c.args.environment.now.context s) seen
    ∙ let_steps c.args.environment.now.model.now c.args.environment.now.context s (bound_of c.in-Let.first.value) (map bound_of c.in-Let.others.items) body c.in-Let.offset
    ∙ went_on _ _ _ (rw c.deref.ensures at c.in_ok-outer.ensures.gives)
    ∙ went_on _ _ _ (rw c.deref-2.ensures.value at c.in_ok-values.ensures.gives) in
    let p = err_from_is_err_and c.from_residual-in_err-value.result c.from_residual-in_err-value.ensures.1 in
    rw (p.1, p.2) (fails_whole type_fault c.in_err-value.field-0.0 _ _ _ (sym whole) (rw c.deref-3.ensures at c.in_err-value.ensures.gives))

pub let_value-returns-clause-gives : goal.let_value-returns-clause-gives
let_value-returns-clause-gives t c =
    let s = c.args.scope.now in
    let body = view c.in-Let.body.value in
    let seen = ap view c.in-Let.is ∙ view-Let c.in-Let.first c.in-Let.others c.in-Let.body c.in-Let.offset in
    let whole = ap (elaborate c.args.environment.now.model.now c.args.environment.now.context s) seen
    ∙ let_steps c.args.environment.now.model.now c.args.environment.now.context s (bound_of c.in-Let.first.value) (map bound_of c.in-Let.others.items) body c.in-Let.offset
    ∙ went_on _ _ _ (rw c.deref.ensures at c.in_ok-outer.ensures.gives)
    ∙ went_on _ _ _ (rw c.deref-2.ensures.value at c.in_ok-values.ensures.gives)
    ∙ went_on _ _ _ (rw c.deref-3.ensures at c.in_ok-value.ensures.gives) in
    whole ∙ ap (λ (x : TypedTree). Ok x) (sym c.in_ok-let_of.ensures.value)

pub instances_link-returns-in_err-class-clause-gives : goal.instances_link-returns-in_err-class-clause-gives
instances_link-returns-in_err-class-clause-gives t c =
    let p = err_from_is_err_and c.from_residual.result c.from_residual.ensures.1 in
    let whole = instances_link c.args.environment.now.model.now c.args.environment.now.context c.args.scope.now c.args.link.now c.in-Call.navigation c.in-Call.name c.in-Call.arguments c.in-Call.offset c.args.class.now c.args.class_offset c.in-Call.is c.requires.call in
    rw (p.1, p.2) (fails_whole type_fault c.in_err-class.field-0.0 _ _ _ (sym whole) (rw c.as_str.ensures.text at c.in_err-class.ensures.gives))

pub instances_link-arguments_of-requires : goal.instances_link-arguments_of-requires
instances_link-arguments_of-requires t c = (search (rules, the_lemmas), c.requires.environment)

pub instances_link-returns-in_err-values-clause-gives : goal.instances_link-returns-in_err-values-clause-gives
instances_link-returns-in_err-values-clause-gives t c =
    let p = err_from_is_err_and c.from_residual-in_err-values.result c.from_residual-in_err-values.ensures.1 in
    let whole = instances_link c.args.environment.now.model.now c.args.environment.now.context c.args.scope.now c.args.link.now c.in-Call.navigation c.in-Call.name c.in-Call.arguments c.in-Call.offset c.args.class.now c.args.class_offset c.in-Call.is c.requires.call
    ∙ went_on _ _ c.in_ok-class.class (rw c.as_str.ensures.text at c.in_ok-class.ensures.gives) in
    rw (p.1, p.2) (fails_whole type_fault c.in_err-values.field-0.0 _ _ _ (sym whole) (rw (c.as_str-2.ensures.text, c.deref.ensures.value) at c.in_err-values.ensures.gives))

pub instances_link-returns-clause-gives : goal.instances_link-returns-clause-gives
instances_link-returns-clause-gives t c =
    let whole = instances_link c.args.environment.now.model.now c.args.environment.now.context c.args.scope.now c.args.link.now c.in-Call.navigation c.in-Call.name c.in-Call.arguments c.in-Call.offset c.args.class.now c.args.class_offset c.in-Call.is c.requires.call
    ∙ went_on _ _ c.in_ok-class.class (rw c.as_str.ensures.text at c.in_ok-class.ensures.gives)
    ∙ went_on _ _ (arguments_view c.in_ok-values.values) (rw (c.as_str-2.ensures.text, c.deref.ensures.value) at c.in_ok-values.ensures.gives) in
    carried _ _ _ whole c.instances_call.ensures.gives
