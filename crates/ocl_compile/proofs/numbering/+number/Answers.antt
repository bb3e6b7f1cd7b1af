use Rattle.std.proofs.Common.{◌++◌, map, List, Err, refl, rules, subst}
use Rattle.ocl_core.specs.declared.core_tree.Core.{Core, the_lemmas}
use Rattle.ocl_core.specs.declared.core_tree.CoreLink.{CoreLink}
use Rattle.ocl_core.specs.Core.{cores_of}
use Rattle.ocl_core.specs.CoreView.{core_view}
use Rattle.ocl_compile.specs.EmitWalk.{link_node}
use Rattle.ocl_compile.specs.Numbering.{tree_uses, trees_uses, scalar_uses, kind_uses, operator_uses, iteration_uses, with_uses}
use Rattle.ocl_compile.specs.NumberWalk.{AreUsesOf, links_uses}
use Rattle.std.proofs.lemmas.Result.{err_from_is_err_and}
use Rattle.ocl_compile.proofs.Numbered.{numbered_then, stopped, stopped_here, iterate_uses, uses_parts, spine_uses, let_uses, if_uses, if_parts, operation_uses, fold_uses, fold_parts, uses_here, numbered_on, all_numbered}
use Rattle.ocl_compile.proofs.numbering.+number.Goals as goal

-- ---- a first operand with its links

pub number_tree-number_tree-requires : goal.number_tree-number_tree-requires
number_tree-number_tree-requires t c =
    let m = c.args.model.now in
    let first = c.in-Spine.first in
    let p = uses_parts m (tree_uses m (core_view first.value)) (links_uses m c.in-Spine.links.items) (subst (AreUsesOf m) (spine_uses m c.args.core.now first c.in-Spine.links c.in-Spine.is) c.requires) in
    (search (rules, the_lemmas), rw c.deref.ensures p.0)

pub number_tree-number_links-requires : goal.number_tree-number_links-requires
number_tree-number_links-requires t c =
    let m = c.args.model.now in
    let first = c.in-Spine.first in
    let p = uses_parts m (tree_uses m (core_view first.value)) (links_uses m c.in-Spine.links.items) (subst (AreUsesOf m) (spine_uses m c.args.core.now first c.in-Spine.links c.in-Spine.is) c.requires) in
    (search (rules, the_lemmas), rw c.deref-in-Spine.ensures.value p.1)

pub number_tree-returns-in_ok-number_tree-in-Spine : goal.number_tree-returns-in_ok-number_tree-in-Spine
number_tree-returns-in_ok-number_tree-in-Spine t c =
    let m = c.args.model.now in
    let first = rw c.deref.ensures at c.in_ok-number_tree-in-Spine.ensures in
    let after = rw c.deref-in-Spine.ensures.value at c.number_links.ensures in
    numbered_then m _ _ _ _ (tree_uses m (core_view c.in-Spine.first.value)) (links_uses m c.in-Spine.links.items) _ after first (spine_uses m c.args.core.now c.in-Spine.first c.in-Spine.links c.in-Spine.is)

pub number_tree-returns-in_err-number_tree-in-Spine : goal.number_tree-returns-in_err-number_tree-in-Spine
number_tree-returns-in_err-number_tree-in-Spine t c =
    let m = c.args.model.now in
    let p = err_from_is_err_and c.from_residual.result c.from_residual.ensures.1 in
    let first = rw c.deref.ensures at c.in_err-number_tree-in-Spine.ensures in
    rw (p.1, p.2) (stopped m _ _ _ _ (tree_uses m (core_view c.in-Spine.first.value)) (links_uses m c.in-Spine.links.items) _ first (spine_uses m c.args.core.now c.in-Spine.first c.in-Spine.links c.in-Spine.is))

-- ---- values with the body that sees them

pub number_tree-number_trees-requires : goal.number_tree-number_trees-requires
number_tree-number_trees-requires t c =
    let m = c.args.model.now in
    let p = uses_parts m (trees_uses m (cores_of (map core_view c.in-Let.values.items))) (tree_uses m (core_view c.in-Let.body.value)) (subst (AreUsesOf m) (let_uses m c.args.core.now c.in-Let.values c.in-Let.body c.in-Let.is) c.requires) in
    (search (rules, the_lemmas), rw c.deref-in-Let.ensures.value p.0)

pub number_tree-number_tree-requires-in-Let : goal.number_tree-number_tree-requires-in-Let
number_tree-number_tree-requires-in-Let t c =
    let m = c.args.model.now in
    let p = uses_parts m (trees_uses m (cores_of (map core_view c.in-Let.values.items))) (tree_uses m (core_view c.in-Let.body.value)) (subst (AreUsesOf m) (let_uses m c.args.core.now c.in-Let.values c.in-Let.body c.in-Let.is) c.requires) in
    (search (rules, the_lemmas), rw c.deref-in-Let-2.ensures p.1)

pub number_tree-returns-in_ok-number_trees-in-Let : goal.number_tree-returns-in_ok-number_trees-in-Let
number_tree-returns-in_ok-number_trees-in-Let t c =
    let m = c.args.model.now in
    let first = rw c.deref-in-Let.ensures.value at c.in_ok-number_trees-in-Let.ensures in
    let after = rw c.deref-in-Let-2.ensures at c.number_tree-in-Let.ensures in
    numbered_then m _ _ _ _ (trees_uses m (cores_of (map core_view c.in-Let.values.items))) (tree_uses m (core_view c.in-Let.body.value)) _ after first (let_uses m c.args.core.now c.in-Let.values c.in-Let.body c.in-Let.is)

pub number_tree-returns-in_err-number_trees-in-Let : goal.number_tree-returns-in_err-number_trees-in-Let
number_tree-returns-in_err-number_trees-in-Let t c =
    let m = c.args.model.now in
    let p = err_from_is_err_and c.from_residual-in_err-number_trees-in-Let.result c.from_residual-in_err-number_trees-in-Let.ensures.1 in
    let first = rw c.deref-in-Let.ensures.value at c.in_err-number_trees-in-Let.ensures in
    rw (p.1, p.2) (stopped m _ _ _ _ (trees_uses m (cores_of (map core_view c.in-Let.values.items))) (tree_uses m (core_view c.in-Let.body.value)) _ first (let_uses m c.args.core.now c.in-Let.values c.in-Let.body c.in-Let.is))

-- ---- a condition with its branches

pub number_tree-number_tree-requires-in-If : goal.number_tree-number_tree-requires-in-If
number_tree-number_tree-requires-in-If t c =
    let p = if_parts c.args.model.now c.args.core.now c.in-If.kind c.in-If.condition c.in-If.then_branch c.in-If.else_branch c.in-If.is c.requires in
    (search (rules, the_lemmas), rw c.deref-in-If.ensures p.0)

pub number_tree-number_kind-requires : goal.number_tree-number_kind-requires
number_tree-number_kind-requires t c =
    (if_parts c.args.model.now c.args.core.now c.in-If.kind c.in-If.condition c.in-If.then_branch c.in-If.else_branch c.in-If.is c.requires).1

pub number_tree-number_tree-requires-in-If-2 : goal.number_tree-number_tree-requires-in-If-2
number_tree-number_tree-requires-in-If-2 t c =
    let p = if_parts c.args.model.now c.args.core.now c.in-If.kind c.in-If.condition c.in-If.then_branch c.in-If.else_branch c.in-If.is c.requires in
    (search (rules, the_lemmas), rw c.deref-in-If-2.ensures p.2)

pub number_tree-number_tree-requires-in-If-3 : goal.number_tree-number_tree-requires-in-If-3
number_tree-number_tree-requires-in-If-3 t c =
    let p = if_parts c.args.model.now c.args.core.now c.in-If.kind c.in-If.condition c.in-If.then_branch c.in-If.else_branch c.in-If.is c.requires in
    (search (rules, the_lemmas), rw c.deref-in-If-3.ensures p.3)

pub number_tree-returns-in_ok-number_tree-in-If-2 : goal.number_tree-returns-in_ok-number_tree-in-If-2
number_tree-returns-in_ok-number_tree-in-If-2 t c =
    let m = c.args.model.now in
    let node = c.in-If in
    let condition = tree_uses m (core_view node.condition.value) in
    let kinds = kind_uses node.kind in
    let first = tree_uses m (core_view node.then_branch.value) in
    let second = tree_uses m (core_view node.else_branch.value) in
    let old = c.args.numbers.now in
    let one = c.number_tree-in-If.new.numbers in
    let two = c.number_kind.new.numbers in
    let three = c.number_tree-in-If-2.new.numbers in
    let new = c.number_tree-in-If-3.new.numbers in
    let is_one = rw c.deref-in-If.ensures at c.in_ok-number_tree-in-If.ensures in
    let is_two = c.in_ok-number_kind-in-If.ensures in
    let is_three = rw c.deref-in-If-2.ensures at c.in_ok-number_tree-in-If-2.ensures in
    let after = rw c.deref-in-If-3.ensures at c.number_tree-in-If-3.ensures in
    let is = if_uses m c.args.core.now node.kind node.condition node.then_branch node.else_branch node.is in
    let r = c.number_tree-in-If-3.result in
    numbered_then m r new one old condition (kinds ++ (first ++ second)) _ (numbered_then m r new two one kinds (first ++ second) _ (numbered_then m r new three two first second _ after is_three refl) is_two refl) is_one is

pub number_tree-returns-in_err-number_tree-in-If : goal.number_tree-returns-in_err-number_tree-in-If
number_tree-returns-in_err-number_tree-in-If t c =
    let m = c.args.model.now in
    let p = err_from_is_err_and c.from_residual-in_err-number_tree-in-If.result c.from_residual-in_err-number_tree-in-If.ensures.1 in
    let node = c.in-If in
    let condition = tree_uses m (core_view node.condition.value) in
    let kinds = kind_uses node.kind in
    let first = tree_uses m (core_view node.then_branch.value) in
    let second = tree_uses m (core_view node.else_branch.value) in
    let is = if_uses m c.args.core.now node.kind node.condition node.then_branch node.else_branch node.is in
    rw (p.1, p.2) (stopped m _ _ _ _ condition (kinds ++ (first ++ second)) _ (rw c.deref-in-If.ensures at c.in_err-number_tree-in-If.ensures) is)

pub number_tree-returns-in_err-number_kind-in-If : goal.number_tree-returns-in_err-number_kind-in-If
number_tree-returns-in_err-number_kind-in-If t c =
    let m = c.args.model.now in
    let p = err_from_is_err_and c.from_residual-in_err-number_kind-in-If.result c.from_residual-in_err-number_kind-in-If.ensures.1 in
    let node = c.in-If in
    let condition = tree_uses m (core_view node.condition.value) in
    let kinds = kind_uses node.kind in
    let first = tree_uses m (core_view node.then_branch.value) in
    let second = tree_uses m (core_view node.else_branch.value) in
    let is = if_uses m c.args.core.now node.kind node.condition node.then_branch node.else_branch node.is in
    let is_one = rw c.deref-in-If.ensures at c.in_ok-number_tree-in-If.ensures in
    let later = c.number_kind.new.numbers in
    let stop = stopped m _ _ later _ kinds (first ++ second) _ c.in_err-number_kind-in-If.ensures refl in
    rw (p.1, p.2) (numbered_then m (Err c.in_err-number_kind-in-If.field-0.0) later _ _ condition (kinds ++ (first ++ second)) _ stop is_one is)

pub number_tree-returns-in_err-number_tree-in-If-2 : goal.number_tree-returns-in_err-number_tree-in-If-2
number_tree-returns-in_err-number_tree-in-If-2 t c =
    let m = c.args.model.now in
    let p = err_from_is_err_and c.from_residual-in_err-number_tree-in-If-2.result c.from_residual-in_err-number_tree-in-If-2.ensures.1 in
    let node = c.in-If in
    let condition = tree_uses m (core_view node.condition.value) in
    let kinds = kind_uses node.kind in
    let first = tree_uses m (core_view node.then_branch.value) in
    let second = tree_uses m (core_view node.else_branch.value) in
    let is = if_uses m c.args.core.now node.kind node.condition node.then_branch node.else_branch node.is in
    let is_one = rw c.deref-in-If.ensures at c.in_ok-number_tree-in-If.ensures in
    let is_two = c.in_ok-number_kind-in-If.ensures in
    let e = Err c.in_err-number_tree-in-If-2.field-0.0 in
    let later = c.number_tree-in-If-2.new.numbers in
    let stop = stopped m _ _ later _ first second _ (rw c.deref-in-If-2.ensures at c.in_err-number_tree-in-If-2.ensures) refl in
    rw (p.1, p.2) (numbered_then m e later _ _ condition (kinds ++ (first ++ second)) _ (numbered_then m e later _ _ kinds (first ++ second) _ stop is_two refl) is_one is)

-- ---- links

pub number_link-number_operator-requires : goal.number_link-number_operator-requires
number_link-number_operator-requires t c =
    let m = c.args.model.now in
    let others = c.in-Operation.others in
    (uses_parts m (trees_uses m (cores_of (map core_view others.items))) (operator_uses c.in-Operation.operator) (subst (AreUsesOf m) (operation_uses m c.args.link.now c.in-Operation.operator others c.in-Operation.is) c.requires)).1

pub number_link-returns-in_ok-number_trees-in-Operation : goal.number_link-returns-in_ok-number_trees-in-Operation
number_link-returns-in_ok-number_trees-in-Operation t c =
    let m = c.args.model.now in
    let first = rw c.deref.ensures.value at c.in_ok-number_trees-in-Operation.ensures in
    numbered_then m _ _ _ _ (trees_uses m (cores_of (map core_view c.in-Operation.others.items))) (operator_uses c.in-Operation.operator) _ c.number_operator.ensures first (operation_uses m c.args.link.now c.in-Operation.operator c.in-Operation.others c.in-Operation.is)

pub number_link-returns-in_err-number_trees-in-Operation : goal.number_link-returns-in_err-number_trees-in-Operation
number_link-returns-in_err-number_trees-in-Operation t c =
    let m = c.args.model.now in
    let p = err_from_is_err_and c.from_residual.result c.from_residual.ensures.1 in
    let first = rw c.deref.ensures.value at c.in_err-number_trees-in-Operation.ensures in
    rw (p.1, p.2) (stopped m _ _ _ _ (trees_uses m (cores_of (map core_view c.in-Operation.others.items))) (operator_uses c.in-Operation.operator) _ first (operation_uses m c.args.link.now c.in-Operation.operator c.in-Operation.others c.in-Operation.is))

pub number_link-returns-in_err-number_iteration-in-Iterate : goal.number_link-returns-in_err-number_iteration-in-Iterate
number_link-returns-in_err-number_iteration-in-Iterate t c =
    let m = c.args.model.now in
    let p = err_from_is_err_and c.from_residual-in_err-number_iteration-in-Iterate.result c.from_residual-in_err-number_iteration-in-Iterate.ensures.1 in
    rw (p.1, p.2) (stopped m _ _ _ _ (iteration_uses c.in-Iterate.iteration) (tree_uses m (core_view c.in-Iterate.body)) _ c.in_err-number_iteration-in-Iterate.ensures (iterate_uses m c.args.link.now c.in-Iterate.iteration c.in-Iterate.body c.in-Iterate.is))

-- a start value, its kind, and the body that sees it

pub number_link-number_tree-requires-in-Fold : goal.number_link-number_tree-requires-in-Fold
number_link-number_tree-requires-in-Fold t c =
    let p = fold_parts c.args.model.now c.args.link.now c.in-Fold.kind c.in-Fold.start c.in-Fold.body c.in-Fold.is c.requires in
    (search (rules, the_lemmas), rw c.deref-in-Fold.ensures p.0)

pub number_link-number_scalar-requires-in-Fold : goal.number_link-number_scalar-requires-in-Fold
number_link-number_scalar-requires-in-Fold t c =
    (fold_parts c.args.model.now c.args.link.now c.in-Fold.kind c.in-Fold.start c.in-Fold.body c.in-Fold.is c.requires).1

pub number_link-number_tree-requires-in-Fold-2 : goal.number_link-number_tree-requires-in-Fold-2
number_link-number_tree-requires-in-Fold-2 t c =
    let p = fold_parts c.args.model.now c.args.link.now c.in-Fold.kind c.in-Fold.start c.in-Fold.body c.in-Fold.is c.requires in
    (search (rules, the_lemmas), p.2)

pub number_link-returns-in_ok-number_scalar-in-Fold : goal.number_link-returns-in_ok-number_scalar-in-Fold
number_link-returns-in_ok-number_scalar-in-Fold t c =
    let m = c.args.model.now in
    let node = c.in-Fold in
    let start = tree_uses m (core_view node.start.value) in
    let kinds = scalar_uses node.kind in
    let body = tree_uses m (core_view node.body) in
    let old = c.args.numbers.now in
    let one = c.number_tree-in-Fold.new.numbers in
    let two = c.number_scalar-in-Fold.new.numbers in
    let new = c.number_tree-in-Fold-2.new.numbers in
    let is_one = rw c.deref-in-Fold.ensures at c.in_ok-number_tree-in-Fold.ensures in
    let r = c.number_tree-in-Fold-2.result in
    numbered_then m r new one old start (kinds ++ body) _ (numbered_then m r new two one kinds body _ c.number_tree-in-Fold-2.ensures c.in_ok-number_scalar-in-Fold.ensures refl) is_one (fold_uses m c.args.link.now node.kind node.start node.body node.is)

pub number_link-returns-in_err-number_tree-in-Fold : goal.number_link-returns-in_err-number_tree-in-Fold
number_link-returns-in_err-number_tree-in-Fold t c =
    let m = c.args.model.now in
    let node = c.in-Fold in
    let p = err_from_is_err_and c.from_residual-in_err-number_tree-in-Fold.result c.from_residual-in_err-number_tree-in-Fold.ensures.1 in
    rw (p.1, p.2) (stopped m _ _ _ _ (tree_uses m (core_view node.start.value)) (scalar_uses node.kind ++ tree_uses m (core_view node.body)) _ (rw c.deref-in-Fold.ensures at c.in_err-number_tree-in-Fold.ensures) (fold_uses m c.args.link.now node.kind node.start node.body node.is))

pub number_link-returns-in_err-number_scalar-in-Fold : goal.number_link-returns-in_err-number_scalar-in-Fold
number_link-returns-in_err-number_scalar-in-Fold t c =
    let m = c.args.model.now in
    let node = c.in-Fold in
    let p = err_from_is_err_and c.from_residual-in_err-number_scalar-in-Fold.result c.from_residual-in_err-number_scalar-in-Fold.ensures.1 in
    let kinds = scalar_uses node.kind in
    let body = tree_uses m (core_view node.body) in
    let is_one = rw c.deref-in-Fold.ensures at c.in_ok-number_tree-in-Fold.ensures in
    let later = c.number_scalar-in-Fold.new.numbers in
    let stop = stopped m _ _ later _ kinds body _ c.in_err-number_scalar-in-Fold.ensures refl in
    rw (p.1, p.2) (numbered_then m (Err c.in_err-number_scalar-in-Fold.field-0.0) later _ _ (tree_uses m (core_view node.start.value)) (kinds ++ body) _ stop is_one (fold_uses m c.args.link.now node.kind node.start node.body node.is))

pub number_links-links-init : goal.number_links-links-init
number_links-links-init t c = (refl, c.requires)

pub number_links-number_link-requires : goal.number_links-number_link-requires
number_links-number_link-requires t c =
    let m = c.args.model.now in
    let p = uses_here m (λ (x : CoreLink). tree_uses m (link_node x)) (links_uses m) (λ x xs. refl) c.args.links.now c.links.link-index c.link-item.result c.link-item.is c.links-test.true c.links.invariant.1 in
    (search (rules, the_lemmas), p.0)

pub number_links-links-preserved : goal.number_links-links-preserved
number_links-links-preserved t c =
    let m = c.args.model.now in
    let f = λ (x : CoreLink). tree_uses m (link_node x) in
    let p = uses_here m f (links_uses m) (λ x xs. refl) c.args.links.now c.links.link-index c.link-item.result c.link-item.is c.links-test.true c.links.invariant.1 in
    (numbered_on m f (links_uses m) (λ x xs. refl) c.args.links.now c.links.link-index c.link-item.result c.link-item.is c.links-test.true c.links.numbers c.number_link.new.numbers (with_uses m c.args.numbers.now (links_uses m c.args.links.now)) c.in_ok-number_link.ensures c.links.invariant.0, p.1)

pub number_links-returns : goal.number_links-returns
number_links-returns t c =
    let m = c.args.model.now in
    all_numbered m (λ (x : CoreLink). tree_uses m (link_node x)) (links_uses m) (λ x xs. refl) refl c.args.links.now c.links.link-index c.links-test.false c.links.numbers (with_uses m c.args.numbers.now (links_uses m c.args.links.now)) c.links.invariant.0

pub number_links-returns-in_err-number_link : goal.number_links-returns-in_err-number_link
number_links-returns-in_err-number_link t c =
    let m = c.args.model.now in
    let p = err_from_is_err_and c.from_residual.result c.from_residual.ensures.1 in
    rw (p.1, p.2) (stopped_here m (λ (x : CoreLink). tree_uses m (link_node x)) (links_uses m) (λ x xs. refl) c.args.links.now c.links.link-index c.link-item.result c.link-item.is c.links-test.true _ c.links.numbers _ _ (with_uses m c.args.numbers.now (links_uses m c.args.links.now)) c.in_err-number_link.ensures c.links.invariant.0)

-- ---- several trees

pub number_trees-trees-init : goal.number_trees-trees-init
number_trees-trees-init t c = (refl, c.requires)

pub number_trees-number_tree-requires : goal.number_trees-number_tree-requires
number_trees-number_tree-requires t c =
    let m = c.args.model.now in
    let F = λ (xs : List Core). trees_uses m (cores_of (map core_view xs)) in
    let p = uses_here m (λ (x : Core). tree_uses m (core_view x)) F (λ x xs. refl) c.args.trees.now c.trees.tree-index c.tree-item.result c.tree-item.is c.trees-test.true c.trees.invariant.1 in
    (search (rules, the_lemmas), p.0)

pub number_trees-trees-preserved : goal.number_trees-trees-preserved
number_trees-trees-preserved t c =
    let m = c.args.model.now in
    let f = λ (x : Core). tree_uses m (core_view x) in
    let F = λ (xs : List Core). trees_uses m (cores_of (map core_view xs)) in
    let p = uses_here m f F (λ x xs. refl) c.args.trees.now c.trees.tree-index c.tree-item.result c.tree-item.is c.trees-test.true c.trees.invariant.1 in
    (numbered_on m f F (λ x xs. refl) c.args.trees.now c.trees.tree-index c.tree-item.result c.tree-item.is c.trees-test.true c.trees.numbers c.number_tree.new.numbers (with_uses m c.args.numbers.now (F c.args.trees.now)) c.in_ok-number_tree.ensures c.trees.invariant.0, p.1)

pub number_trees-returns : goal.number_trees-returns
number_trees-returns t c =
    let m = c.args.model.now in
    let F = λ (xs : List Core). trees_uses m (cores_of (map core_view xs)) in
    all_numbered m (λ (x : Core). tree_uses m (core_view x)) F (λ x xs. refl) refl c.args.trees.now c.trees.tree-index c.trees-test.false c.trees.numbers (with_uses m c.args.numbers.now (F c.args.trees.now)) c.trees.invariant.0

pub number_trees-returns-in_err-number_tree : goal.number_trees-returns-in_err-number_tree
number_trees-returns-in_err-number_tree t c =
    let m = c.args.model.now in
    let p = err_from_is_err_and c.from_residual.result c.from_residual.ensures.1 in
    let F = λ (xs : List Core). trees_uses m (cores_of (map core_view xs)) in
    rw (p.1, p.2) (stopped_here m (λ (x : Core). tree_uses m (core_view x)) F (λ x xs. refl) c.args.trees.now c.trees.tree-index c.tree-item.result c.tree-item.is c.trees-test.true _ c.trees.numbers _ _ (with_uses m c.args.numbers.now (F c.args.trees.now)) c.in_err-number_tree.ensures c.trees.invariant.0)
