use Rattle.std.proofs.Common.{ap, sym, ◌∙◌, rules}
use Rattle.ocl_core.specs.declared.core_tree.Core.{the_lemmas}
use Rattle.ocl_core.specs.Core.{CoreTree}
use Rattle.owned_values.specs.Meant.{meant}
use Rattle.owned_values.proofs.ForAbove.{instances_there, read_there}
use Rattle.ocl_semantics.specs.Evaluated.{on_null, node_value}
use Rattle.ocl_semantics.proofs.MeaningThere.{variable_there, operation_there, node_there}
use Rattle.ocl_semantics.proofs.Nodes.{spine_names, spine_is, let_names, let_is, iterate_is, fold_is, means_where, there_where}
use Rattle.ocl_semantics.proofs.evaluating.+evaluate.Goals as goal

pub evaluate-returns-in-Variable-clause-there : goal.evaluate-returns-in-Variable-clause-there
evaluate-returns-in-Variable-clause-there t c =
    there_where c.args.population.now.content c.value.result _ c.value.ensures (variable_there c.args.population.now.content c.args.variables.now c.in-Variable.number c.requires.there)

pub evaluate-returns-in-AllInstances-clause-there : goal.evaluate-returns-in-AllInstances-clause-there
evaluate-returns-in-AllInstances-clause-there t c =
    there_where c.args.population.now.content c.all_instances.result _ c.all_instances.ensures (instances_there c.args.population.now.content c.in-AllInstances.class)

-- ---- a first operand with its links

pub evaluate-evaluate-requires : goal.evaluate-evaluate-requires
evaluate-evaluate-requires t c =
    let p = spine_names c.args.core.now c.in-Spine.first c.in-Spine.links c.in-Spine.is c.args.population.now.content.model c.requires.resolved in
    (search (rules, the_lemmas), (rw c.deref.ensures (p.0, c.requires.there)))

pub evaluate-evaluate_links-requires : goal.evaluate-evaluate_links-requires
evaluate-evaluate_links-requires t c =
    let p = spine_names c.args.core.now c.in-Spine.first c.in-Spine.links c.in-Spine.is c.args.population.now.content.model c.requires.resolved in
    (search (rules, the_lemmas), (rw (c.deref-in-Spine.ensures.value, c.in_ok-value-in-Spine.ensures.kept) (c.in_ok-value-in-Spine.ensures.there, (p.1, c.requires.there))))

pub evaluate-returns-in-Spine-clause-value : goal.evaluate-returns-in-Spine-clause-value
evaluate-returns-in-Spine-clause-value t c =
    let after = rw (c.in_ok-value-in-Spine.ensures.kept, c.in_ok-value-in-Spine.ensures.value, c.deref.ensures, c.deref-in-Spine.ensures.value) at c.evaluate_links.ensures.value in
    means_where c.evaluate_links.result _ _ (spine_is c.args.core.now c.in-Spine.first c.in-Spine.links c.in-Spine.is c.args.population.now.content c.args.variables.now) after

-- ---- values with the body that sees them

pub evaluate-bind_all-requires : goal.evaluate-bind_all-requires
evaluate-bind_all-requires t c =
    let p = let_names c.args.core.now c.in-Let.values c.in-Let.body c.in-Let.is c.args.population.now.content.model c.requires.resolved in
    (search (rules, the_lemmas), (rw c.deref-in-Let.ensures.value (p.0, c.requires.there)))

pub evaluate-evaluate-requires-in-Let : goal.evaluate-evaluate-requires-in-Let
evaluate-evaluate-requires-in-Let t c =
    let p = let_names c.args.core.now c.in-Let.values c.in-Let.body c.in-Let.is c.args.population.now.content.model c.requires.resolved in
    (search (rules, the_lemmas), (rw c.deref-in-Let-2.ensures (p.1, c.in_ok-bind_all-in-Let.ensures.there)))

pub evaluate-returns-in-Let-clause-value : goal.evaluate-returns-in-Let-clause-value
evaluate-returns-in-Let-clause-value t c =
    let after = rw (c.in_ok-bind_all-in-Let.ensures.bound, c.deref-in-Let-2.ensures, c.deref-in-Let.ensures.value) at c.in_ok-value-in-Let.ensures.value in
    after ∙ let_is c.args.core.now c.in-Let.values c.in-Let.body c.in-Let.is c.args.population.now.content c.args.variables.now

-- ---- iterations and folds

pub evaluate_fold-returns-in-Collection-clause-value : goal.evaluate_fold-returns-in-Collection-clause-value
evaluate_fold-returns-in-Collection-clause-value t c =
    rw c.in-Collection.is (rw c.deref.ensures.value at c.fold_elements.ensures.value)

pub evaluate_iteration-returns-in_ok-bodies-in-Collection-clause-value : goal.evaluate_iteration-returns-in_ok-bodies-in-Collection-clause-value
evaluate_iteration-returns-in_ok-bodies-in-Collection-clause-value t c =
    rw c.in-Collection.is (rw (c.deref-in-Collection.ensures.value, c.deref-in-Collection-2.ensures.value, c.in_ok-bodies-in-Collection.ensures.bodies, c.deref.ensures.value) at c.iteration_value.ensures)

-- ---- links

pub evaluate_link-returns-in-Feature-clause-there : goal.evaluate_link-returns-in-Feature-clause-there
evaluate_link-returns-in-Feature-clause-there t c =
    there_where c.args.population.now.content c.value_read.result _ c.value_read.ensures (read_there c.args.population.now.content c.consistent.ensures c.in-Feature.feature (meant c.args.first.now) c.requires.first)

pub evaluate_link-returns-in_ok-others-in-Operation-clause-there : goal.evaluate_link-returns-in_ok-others-in-Operation-clause-there
evaluate_link-returns-in_ok-others-in-Operation-clause-there t c =
    there_where c.args.population.now.content c.operation_value.result _ c.operation_value.ensures (operation_there c.args.population.now.content c.in-Operation.operator (meant c.args.first.now) _ c.requires.first)

pub evaluate_link-returns-in-Iterate-clause-value : goal.evaluate_link-returns-in-Iterate-clause-value
evaluate_link-returns-in-Iterate-clause-value t c =
    let same = sym (iterate_is c.args.link.now c.in-Iterate.iteration c.in-Iterate.body c.in-Iterate.is) in
    means_where c.evaluate_iteration.result _ _ (ap (λ (n : CoreTree). node_value c.args.population.now.content c.args.variables.now n (meant c.args.first.now)) same) c.evaluate_iteration.ensures.value

pub evaluate_link-returns-in-Iterate-clause-there : goal.evaluate_link-returns-in-Iterate-clause-there
evaluate_link-returns-in-Iterate-clause-there t c =
    there_where c.args.population.now.content c.evaluate_iteration.result _ (evaluate_link-returns-in-Iterate-clause-value t c) (node_there c.args.population.now.content c.consistent.ensures (on_null c.args.link.now) c.args.variables.now (meant c.args.first.now) c.requires.resolved c.requires.there c.requires.first)

pub evaluate_link-returns-in_ok-start-in-Fold-clause-value : goal.evaluate_link-returns-in_ok-start-in-Fold-clause-value
evaluate_link-returns-in_ok-start-in-Fold-clause-value t c =
    let after = rw (c.in_ok-start-in-Fold.ensures.kept, c.in_ok-start-in-Fold.ensures.value, c.deref-in-Fold.ensures) at c.evaluate_fold.ensures.value in
    let same = sym (fold_is c.args.link.now c.in-Fold.kind c.in-Fold.start c.in-Fold.body c.in-Fold.is) in
    means_where c.evaluate_fold.result _ _ (ap (λ (n : CoreTree). node_value c.args.population.now.content c.args.variables.now n (meant c.args.first.now)) same) after

pub evaluate_link-returns-in_ok-start-in-Fold-clause-there : goal.evaluate_link-returns-in_ok-start-in-Fold-clause-there
evaluate_link-returns-in_ok-start-in-Fold-clause-there t c =
    there_where c.args.population.now.content c.evaluate_fold.result _ (evaluate_link-returns-in_ok-start-in-Fold-clause-value t c) (node_there c.args.population.now.content c.consistent.ensures (on_null c.args.link.now) c.args.variables.now (meant c.args.first.now) c.requires.resolved c.requires.there c.requires.first)
