use Rattle.std.proofs.Common.{◌≡◌, ◌∷◌, ◌++◌, ◌-◌, arith, length, map, string_bytes, refl, sym, ap, ◌∙◌, rules}
use Rattle.std.specs.Prelude.{min}
use Rattle.std.proofs.lemmas.List.{length-map}
use Rattle.std.proofs.lemmas.Result.{on_ok_weaker}
use Rattle.ocl_core.specs.declared.core_tree.Core.{the_lemmas}
use Rattle.ocl_core.specs.CoreView.{core_view}
use Rattle.ocl_semantics.specs.Meaning.{meaning}
use Rattle.rule_values.specs.Value.{Element, Value, element_value}
use Rattle.owned_values.specs.Meant.{meant, meant_elements, AreElementsThere, IsElementThere, IsValueThere}
use Rattle.owned_values.proofs.ForAbove.{kept_there, element_there}
use Rattle.ocl_semantics.proofs.ForAbove.{meaning_there, spine_names, let_names}
use Rattle.explain_why.proofs.Left.{first_there, left_all, told_there, turns_there}
use Rattle.explain_why.specs.Names.{past}
use Rattle.explain_why.specs.NameWalk.{naming_view, inner_view}
use Rattle.explain_why.specs.Turns.{fold_turn, turns_from}
use Rattle.explain_why.specs.Explanation.{batch_of}
use Rattle.explain_why.specs.PartWalk.{element_lines, step_lines}
use Rattle.explain_why.proofs.PartNodes.{let_value, spine_put, let_parts, first_parts, second_parts, no_parts, iterate_lines, fold_put, turns_shown, batch_shown, iteration_shown, two_put, three_put}
use Rattle.explain_why.proofs.explainer.Explainer.+explain.Goals as goal

-- ---- a first operand with its links

pub explain-put_nodes-requires-clause-first : goal.explain-put_nodes-requires-clause-first
explain-put_nodes-requires-clause-first t c =
    let p = spine_names c.args.core.now c.in-Spine.first c.in-Spine.links c.in-Spine.is c.args.self.population.now.content.model c.requires.resolved in
    rw c.deref.ensures p.0

pub explain-put_nodes-requires-clause-links : goal.explain-put_nodes-requires-clause-links
explain-put_nodes-requires-clause-links t c =
    let p = spine_names c.args.core.now c.in-Spine.first c.in-Spine.links c.in-Spine.is c.args.self.population.now.content.model c.requires.resolved in
    rw c.deref-in-Spine.ensures.value p.1

pub explain-explain_if-requires : goal.explain-explain_if-requires
explain-explain_if-requires t c =
    let p = spine_names c.args.core.now c.in-Spine.first c.in-Spine.links c.in-Spine.is c.args.self.population.now.content.model c.requires.resolved in
    (search (rules, the_lemmas), (rw (c.deref-in-Spine-2.ensures, c.in_ok-below-in-Spine.ensures.kept) (p.0, c.requires.there)))

pub explain-value_before-requires : goal.explain-value_before-requires
explain-value_before-requires t c =
    let p = spine_names c.args.core.now c.in-Spine.first c.in-Spine.links c.in-Spine.is c.args.self.population.now.content.model c.requires.resolved in
    record {
      first = rw c.deref-in-Spine-3.ensures p.0;
      links = rw c.deref-in-Spine-4.ensures.value p.1;
      from = rw c.deref-in-Spine-4.ensures.value (rw c.deref-in-Spine.ensures.value at c.in_ok-below-in-Spine.ensures.within);
      there = rw (c.in_ok-explain_if-in-Spine.ensures.kept, c.in_ok-below-in-Spine.ensures.kept) c.requires.there;
    }

pub explain-naming_before-requires : goal.explain-naming_before-requires
explain-naming_before-requires t c =
    rw c.deref-in-Spine-6.ensures.value (rw c.deref-in-Spine.ensures.value at c.in_ok-below-in-Spine.ensures.within)

pub explain-explain_links-requires : goal.explain-explain_links-requires
explain-explain_links-requires t c =
    let p = spine_names c.args.core.now c.in-Spine.first c.in-Spine.links c.in-Spine.is c.args.self.population.now.content.model c.requires.resolved in
    let within = rw c.deref-in-Spine.ensures.value at c.in_ok-below-in-Spine.ensures.within in
    (search (rules, the_lemmas), (rw (c.deref-in-Spine-7.ensures.value, c.in_ok-value-in-Spine.ensures.kept, c.in_ok-explain_if-in-Spine.ensures.kept, c.in_ok-below-in-Spine.ensures.kept) (c.in_ok-value-in-Spine.ensures.there, (p.1, (within, c.requires.there)))))

pub explain_links-links-init : goal.explain_links-links-init
explain_links-links-init t c = (refl, (c.requires.first, (left_all _ c.args.links.now c.args.from c.requires.links, refl)))

-- ---- values with the body that sees them

pub explain-explain_values-requires : goal.explain-explain_values-requires
explain-explain_values-requires t c =
    let p = let_names c.args.core.now c.in-Let.values c.in-Let.body c.in-Let.is c.args.self.population.now.content.model c.requires.resolved in
    let value = c.in_ok-whole-in-Let.ensures.value ∙ let_value c.args.core.now c.in-Let.values c.in-Let.body c.in-Let.is c.args.self.population.now.content c.args.variables.now in
    (search (rules, the_lemmas), (rw (c.deref-in-Let.ensures.value, c.deref-in-Let-2.ensures, c.in_ok-whole-in-Let.ensures.kept) (p.0, (p.1, (c.in_ok-whole-in-Let.ensures.there, (c.requires.there, value))))))

pub explain-explain-requires : goal.explain-explain-requires
explain-explain-requires t c =
    let p = let_names c.args.core.now c.in-Let.values c.in-Let.body c.in-Let.is c.args.self.population.now.content.model c.requires.resolved in
    (search (rules, the_lemmas), (rw c.deref-in-Let-3.ensures (p.1, c.in_ok-below-in-Let.ensures.there)))

-- ---- iterations and folds

pub explain_batch-explain_elements-requires : goal.explain_batch-explain_elements-requires
explain_batch-explain_elements-requires t c =
    let chosen : AreElementsThere c.args.self.population.now.content (meant_elements c.deref.result.now) = rw (c.deref.ensures.value, c.in_ok-chosen.ensures) (kept_there c.args.self.population.now.content _ _ _ c.requires.elements) in
    (search (rules, the_lemmas), (first_there c.args.self.population.now.content c.deref.result.now c.min-shown.result chosen, (c.requires.body, c.requires.there)))

pub explain_fold-explain_turns-requires : goal.explain_fold-explain_turns-requires
explain_fold-explain_turns-requires t c =
    let p = c.args.self.population.now.content in
    let body = core_view c.args.body.now in
    let next : Element → Value → Value = λ e a. meaning p body (a ∷ element_value e ∷ c.args.variables.now) in
    let source = rw c.in-Collection.is at c.requires.source in
    let goes_on : (e : Element) (b : Value) → IsElementThere p e → IsValueThere p b → IsValueThere p (next e b) = λ e b first before. meaning_there p c.consistent.ensures body (b ∷ element_value e ∷ c.args.variables.now) c.requires.body (before, (element_there p e first, c.requires.there)) in
    let turns = rw c.deref.ensures.value at c.in_ok-turns.ensures.turns in
    let told = rw (c.deref-2.ensures.value, turns) at c.in_ok-told.ensures in
    let there = told_there p _ (turns_there p 0 next (meant c.args.start) (meant_elements c.in-Collection.elements.items) goes_on c.requires.start source) in
    (search (rules, the_lemmas), (rw (c.deref-3.ensures.value, told, c.in_ok-turns.ensures.kept) (there, (c.requires.body, c.requires.there))))

-- ---- what is put

pub explain-returns-in-Spine-clause-text : goal.explain-returns-in-Spine-clause-text
explain-returns-in-Spine-clause-text t c =
    let nodes = rw (c.deref.ensures, c.deref-in-Spine.ensures.value) at c.in_ok-below-in-Spine.ensures.text in
    let operand = rw (c.deref-in-Spine-2.ensures, c.in_ok-below-in-Spine.ensures.kept) at c.in_ok-explain_if-in-Spine.ensures.text in
    let value = rw (c.deref-in-Spine-3.ensures, c.deref-in-Spine-4.ensures.value, c.in_ok-explain_if-in-Spine.ensures.kept, c.in_ok-below-in-Spine.ensures.kept) at c.in_ok-value-in-Spine.ensures.value in
    let behind = rw (c.deref-in-Spine-5.ensures, c.deref-in-Spine-6.ensures.value) at c.in_ok-naming-in-Spine.ensures in
    let links = rw (c.deref-in-Spine-7.ensures.value, c.in_ok-value-in-Spine.ensures.kept, c.in_ok-explain_if-in-Spine.ensures.kept, c.in_ok-below-in-Spine.ensures.kept) at c.explain_links.ensures.text in
    let below = c.in_ok-below-in-Spine.below in
    on_ok_weaker c.explain_links.result (λ h. spine_put c.args.core.now c.in-Spine.first c.in-Spine.links c.in-Spine.is c.args.self.population.now.content c.args.variables.now (naming_view c.args.self.naming) (naming_view c.in_ok-naming-in-Spine.naming) c.args.self.level below.level below.from below.is_whole (meant c.in_ok-value-in-Spine.value) _ _ _ _ nodes operand value behind h) links

pub explain-returns-in-Let-clause-text : goal.explain-returns-in-Let-clause-text
explain-returns-in-Let-clause-text t c =
    let lets = rw (c.deref-in-Let.ensures.value, c.deref-in-Let-2.ensures, c.in_ok-whole-in-Let.ensures.kept) at c.in_ok-below-in-Let.ensures.text in
    let deep = rw c.deref-in-Let.ensures.value at c.in_ok-below-in-Let.ensures.level in
    let bound = rw (c.deref-in-Let.ensures.value, c.in_ok-whole-in-Let.ensures.kept) at c.in_ok-below-in-Let.ensures.bound in
    let body = rw (c.deref-in-Let-3.ensures, bound, c.naming.ensures) at c.in_ok-explain-in-Let.ensures.text in
    let names = rw c.deref-in-Let.ensures.value at c.in_ok-below-in-Let.ensures.names in
    let whole = let_parts c.args.core.now c.in-Let.values c.in-Let.body c.in-Let.is c.args.self.population.now.content c.args.variables.now (naming_view c.args.self.naming) (inner_view c.in_ok-below-in-Let.below.inner) c.args.self.level c.in_ok-below-in-Let.below.level deep names in
    two_put _ _ _ _ _ _ lets body whole

pub explain-returns-then-is_true-clause-text : goal.explain-returns-then-is_true-clause-text
explain-returns-then-is_true-clause-text t c =
    let part = rw (c.choice_reason-reason.ensures, c.in_ok-chosen-in-If.ensures.kept) at c.in_ok-put_tree-in-If.ensures.text in
    let condition = rw (c.deref-in-If-2.ensures, c.in_ok-level-in-If.ensures, c.in_ok-put_tree-in-If.ensures.kept, c.in_ok-chosen-in-If.ensures.kept) at c.in_ok-explain-in-If.ensures.text in
    let branch = rw (c.deref-then-is_true.ensures, c.in_ok-behind-in-If.ensures, c.deref-in-If-3.ensures, c.in_ok-level-in-If.ensures, c.in_ok-explain-in-If.ensures.kept, c.in_ok-put_tree-in-If.ensures.kept, c.in_ok-chosen-in-If.ensures.kept) at c.explain-then-is_true.ensures.text in
    let chosen = rw c.deref-in-If.ensures at c.in_ok-chosen-in-If.ensures.value in
    let whole = first_parts c.args.core.now c.in-If.kind c.in-If.condition c.in-If.then_branch c.in-If.else_branch c.in-If.is c.args.self.population.now.content c.args.self.level c.args.variables.now (naming_view c.args.self.naming) (meant c.in_ok-chosen-in-If.chosen) chosen (sym c.is_true.ensures ∙ c.if-is_true.true) in
    on_ok_weaker c.explain-then-is_true.result (λ h. three_put _ _ _ _ _ _ _ _ part condition h whole) branch

pub explain-returns-then-is_false-clause-text : goal.explain-returns-then-is_false-clause-text
explain-returns-then-is_false-clause-text t c =
    let part = rw (c.choice_reason-reason.ensures, c.in_ok-chosen-in-If.ensures.kept) at c.in_ok-put_tree-in-If.ensures.text in
    let condition = rw (c.deref-in-If-2.ensures, c.in_ok-level-in-If.ensures, c.in_ok-put_tree-in-If.ensures.kept, c.in_ok-chosen-in-If.ensures.kept) at c.in_ok-explain-in-If.ensures.text in
    let behind = rw c.deref-in-If-3.ensures at c.in_ok-behind-in-If.ensures in
    let last = rw c.deref-in-If-4.ensures at c.in_ok-last-in-If.ensures in
    let names = last ∙ ap (past (core_view c.in-If.then_branch.value)) behind in
    let branch = rw (c.deref-then-is_false.ensures, names, c.in_ok-level-in-If.ensures, c.in_ok-explain-in-If.ensures.kept, c.in_ok-put_tree-in-If.ensures.kept, c.in_ok-chosen-in-If.ensures.kept) at c.explain-then-is_false.ensures.text in
    let chosen = rw c.deref-in-If.ensures at c.in_ok-chosen-in-If.ensures.value in
    let whole = second_parts c.args.core.now c.in-If.kind c.in-If.condition c.in-If.then_branch c.in-If.else_branch c.in-If.is c.args.self.population.now.content c.args.self.level c.args.variables.now (naming_view c.args.self.naming) (meant c.in_ok-chosen-in-If.chosen) chosen (sym c.is_true.ensures ∙ c.if-is_true.false) (sym c.is_false.ensures ∙ c.if-is_false.true) in
    on_ok_weaker c.explain-then-is_false.result (λ h. three_put _ _ _ _ _ _ _ _ part condition h whole) branch

pub explain-returns-clause-text : goal.explain-returns-clause-text
explain-returns-clause-text t c =
    let part = rw (c.choice_reason-reason.ensures, c.in_ok-chosen-in-If.ensures.kept) at c.in_ok-put_tree-in-If.ensures.text in
    let condition = rw (c.deref-in-If-2.ensures, c.in_ok-level-in-If.ensures, c.in_ok-put_tree-in-If.ensures.kept, c.in_ok-chosen-in-If.ensures.kept) at c.in_ok-explain-in-If.ensures.text in
    let chosen = rw c.deref-in-If.ensures at c.in_ok-chosen-in-If.ensures.value in
    let whole = no_parts c.args.core.now c.in-If.kind c.in-If.condition c.in-If.then_branch c.in-If.else_branch c.in-If.is c.args.self.population.now.content c.args.self.level c.args.variables.now (naming_view c.args.self.naming) (meant c.in_ok-chosen-in-If.chosen) chosen (sym c.is_true.ensures ∙ c.if-is_true.false) (sym c.is_false.ensures ∙ c.if-is_false.false) in
    two_put _ _ _ _ _ _ part condition whole

pub explain_link-returns-in-Iterate-clause-text : goal.explain_link-returns-in-Iterate-clause-text
explain_link-returns-in-Iterate-clause-text t c =
    let lines = iterate_lines c.args.self.population.now.content c.args.link.now c.args.self.level c.args.variables.now (naming_view c.args.self.naming) (meant c.args.source.now) c.in-Iterate.iteration c.in-Iterate.body c.in-Iterate.is in
    on_ok_weaker c.explain_iteration.result (λ h. h ∙ ap (λ xs. string_bytes c.args.out.now ++ xs) lines) c.explain_iteration.ensures.text

pub explain_link-returns-in_ok-start-in-Fold-clause-text : goal.explain_link-returns-in_ok-start-in-Fold-clause-text
explain_link-returns-in_ok-start-in-Fold-clause-text t c =
    let parts = rw c.deref-in-Fold.ensures at c.in_ok-explain-in-Fold.ensures.text in
    let value = rw (c.deref-in-Fold-3.ensures, c.in_ok-explain-in-Fold.ensures.kept) at c.in_ok-start-in-Fold.ensures.value in
    let behind = rw c.deref-in-Fold-2.ensures at c.in_ok-naming-in-Fold.ensures in
    let steps = rw (c.in_ok-start-in-Fold.ensures.kept, c.in_ok-explain-in-Fold.ensures.kept) at c.explain_fold.ensures.text in
    on_ok_weaker c.explain_fold.result (λ h. fold_put c.args.self.population.now.content c.args.link.now c.args.self.level c.args.variables.now (naming_view c.args.self.naming) (naming_view c.in_ok-naming-in-Fold.naming) (meant c.args.source.now) (meant c.in_ok-start-in-Fold.start) c.in-Fold.kind c.in-Fold.start c.in-Fold.body c.in-Fold.is (string_bytes c.args.out.now) _ _ parts value behind h) steps

pub explain_fold-returns-clause-text : goal.explain_fold-returns-clause-text
explain_fold-returns-clause-text t c =
    let p = c.args.self.population.now.content in
    let body = core_view c.args.body.now in
    let next : Element → Value → Value = λ e a. meaning p body (a ∷ element_value e ∷ c.args.variables.now) in
    let show = step_lines p body c.args.self.level c.args.variables.now (naming_view c.args.self.naming) in
    let turns = rw c.deref.ensures.value at c.in_ok-turns.ensures.turns in
    let told = rw (c.deref-2.ensures.value, turns) at c.in_ok-told.ensures in
    let put = rw (c.deref-3.ensures.value, c.in_ok-turns.ensures.kept) at c.in_ok-explain_turns.ensures.text in
    let all = turns_from 0 next (meant c.args.start) (meant_elements c.in-Collection.elements.items) in
    let many : length all ≡ length c.in_ok-turns.turns.items = ap length (sym turns) ∙ length-map c.in_ok-turns.turns.items fold_turn in
    let few : length (map fold_turn c.in_ok-told.told.items) ≡ length c.in_ok-told.told.items = length-map c.in_ok-told.told.items fold_turn in
    let count : c.saturating_sub-more.result ≡ length all - length (map fold_turn c.in_ok-told.told.items) = omega (arith, c.saturating_sub-more.ensures, c.len.ensures, c.len-2.ensures, many, few) in
    let whole = turns_shown show c.args.self.level c.saturating_sub-more.result (map fold_turn c.in_ok-told.told.items) all told count in
    rw c.in-Collection.is (on_ok_weaker c.put_more.result (λ h. two_put _ _ _ _ _ _ put h whole) c.put_more.ensures)

pub explain_batch-returns-clause-text : goal.explain_batch-returns-clause-text
explain_batch-returns-clause-text t c =
    let shown : c.min-shown.result ≡ min (length c.in_ok-chosen.chosen.items) c.args.batch.now.most = search rules in
    let many : c.len-2.result ≡ length c.in_ok-chosen.chosen.items = search rules in
    let elements = rw c.deref.ensures.value at c.in_ok-explain_elements.ensures.text in
    let more = rw many at c.put_more.ensures in
    let whole = batch_shown (element_lines c.args.self.population.now.content (core_view c.args.body.now) c.args.self.level c.args.variables.now (naming_view c.args.self.naming)) c.args.self.level (batch_of c.args.batch.now) (meant_elements c.args.elements.now) (map meant c.args.bodies.now) c.in_ok-chosen.chosen.items c.args.batch.now.most c.min-shown.result refl c.in_ok-chosen.ensures shown in
    on_ok_weaker c.put_more.result (λ h. two_put _ _ _ _ _ _ elements h whole) more

pub explain_iteration-returns-clause-text : goal.explain_iteration-returns-clause-text
explain_iteration-returns-clause-text t c =
    let bodies = rw c.deref.ensures.value at c.in_ok-bodies.ensures.bodies in
    let first_is = rw c.deref-2.ensures.value at c.batch_that_decides-first.ensures in
    let second_is = rw c.deref-5.ensures.value at c.batch_beside-second.ensures in
    let first = rw (c.deref-3.ensures.value, c.deref-4.ensures.value, c.in_ok-bodies.ensures.kept) at c.in_ok-explain_batch.ensures.text in
    let second = rw (c.deref-6.ensures.value, c.deref-7.ensures.value, c.in_ok-explain_batch.ensures.kept, c.in_ok-bodies.ensures.kept) at c.explain_batch-2.ensures.text in
    let whole = iteration_shown c.args.iteration (element_lines c.args.self.population.now.content (core_view c.args.body.now) c.args.self.level c.args.variables.now (naming_view c.args.self.naming)) (λ e. meaning c.args.self.population.now.content (core_view c.args.body.now) (element_value e ∷ c.args.variables.now)) c.args.self.level c.in-Collection.field-0 (meant_elements c.in-Collection.elements.items) (map meant c.in_ok-bodies.bodies.items) (batch_of c.batch_that_decides-first.result) (batch_of c.batch_beside-second.result) bodies first_is second_is in
    rw c.in-Collection.is (on_ok_weaker c.explain_batch-2.result (λ h. two_put _ _ _ _ _ _ first h whole) second)
