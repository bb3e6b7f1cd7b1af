use Rattle.std.proofs.Common.{◌<◌, ◌≤◌, ◌++◌, ◌-◌, length, take, drop, string_bytes, refl, ap, ◌∙◌, arith}
use Rattle.ocl_core.specs.CoreView.{core_view}
use Rattle.explain_why.specs.NameWalk.{naming_view}
use Rattle.explain_why.proofs.PartNodes.{last_taken, next_left, all_links, node_goes_on, node_ends}
use Rattle.explain_why.proofs.explainer.Explainer.put_nodes.Goals as goal

pub loop-index-init : goal.loop-index-init
loop-index-init c =
    (ap (λ xs. string_bytes c.args.out.now ++ xs) (all_links c.args.self.population.now.content c.args.variables.now (naming_view c.args.self.naming) (core_view c.args.first.now) c.args.links.now c.args.self.level), refl)

pub loop-index-preserved : goal.loop-index-preserved
loop-index-preserved c =
    let i = c.loop-index.index - 1 in
    let link = c.index-links-index.result in
    let some : 0 < c.loop-index.index = omega (arith, c.loop-index-test.true) in
    let within : c.loop-index.index ≤ length c.args.links.now = omega (arith, c.loop-index.auto.index) in
    let last = last_taken c.args.links.now c.loop-index.index link some within c.index-links-index.is in
    let left = next_left c.args.links.now c.loop-index.index link some within c.index-links-index.is in
    let kept = c.loop-index.invariant.1 in
    let put = rw kept at c.in_ok-is_shown.ensures.text in
    let which = rw kept at c.in_ok-is_shown.ensures.shown in
    let text = node_goes_on c.args.self.population.now.content c.args.variables.now (naming_view c.args.self.naming) (take c.loop-index.index c.args.links.now) (take i c.args.links.now) (drop i c.args.links.now) (drop c.loop-index.index c.args.links.now) link (core_view c.args.first.now) c.in_ok-is_shown.is_shown c.loop-index.level c.in_ok-level.level _ _ _ c.if-not-is_shown.false last left c.in_ok-level.ensures which put c.loop-index.invariant.0 in
    (text, c.in_ok-is_shown.ensures.kept ∙ kept)

pub returns-then-not-is_shown-clause-text : goal.returns-then-not-is_shown-clause-text
returns-then-not-is_shown-clause-text c =
    let i = c.loop-index.index - 1 in
    let link = c.index-links-index.result in
    let some : 0 < c.loop-index.index = omega (arith, c.loop-index-test.true) in
    let within : c.loop-index.index ≤ length c.args.links.now = omega (arith, c.loop-index.auto.index) in
    let last = last_taken c.args.links.now c.loop-index.index link some within c.index-links-index.is in
    let left = next_left c.args.links.now c.loop-index.index link some within c.index-links-index.is in
    let kept = c.loop-index.invariant.1 in
    let put = rw kept at c.in_ok-is_shown.ensures.text in
    let which = rw kept at c.in_ok-is_shown.ensures.shown in
    node_ends c.args.self.population.now.content c.args.variables.now (naming_view c.args.self.naming) c.args.links.now i (take c.loop-index.index c.args.links.now) (drop c.loop-index.index c.args.links.now) link (core_view c.args.first.now) c.in_ok-is_shown.is_shown c.loop-index.level c.in_ok-level.level _ _ _ c.if-not-is_shown.true last left c.in_ok-level.ensures which put c.loop-index.invariant.0
