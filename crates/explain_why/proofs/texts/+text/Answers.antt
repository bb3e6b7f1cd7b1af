use Rattle.std.proofs.Common.{rules}
use Rattle.ocl_core.specs.declared.core_tree.Core.{the_lemmas}
use Rattle.ocl_semantics.proofs.ForAbove.{spine_names, let_names}
use Rattle.explain_why.specs.NameWalk.{naming_view, inner_view}
use Rattle.explain_why.proofs.TextNodes.{spine_written, let_written, let_wraps, bytes_where, wraps_where}
use Rattle.explain_why.proofs.texts.+text.Goals as goal

pub text_of-text_of-requires : goal.text_of-text_of-requires
text_of-text_of-requires t c =
    let p = spine_names c.args.core.now c.in-Spine.first c.in-Spine.links c.in-Spine.is c.args.model.now c.requires in
    (search (rules, the_lemmas), (rw c.deref.ensures p.0))

pub text_of-links_text-requires : goal.text_of-links_text-requires
text_of-links_text-requires t c =
    let p = spine_names c.args.core.now c.in-Spine.first c.in-Spine.links c.in-Spine.is c.args.model.now c.requires in
    (search (rules, the_lemmas), (rw c.deref-in-Spine-2.ensures.value p.1))

pub text_of-put_lets-requires : goal.text_of-put_lets-requires
text_of-put_lets-requires t c =
    let p = let_names c.args.core.now c.in-Let.values c.in-Let.body c.in-Let.is c.args.model.now c.requires in
    (search (rules, the_lemmas), (rw c.deref-in-Let.ensures.value p.0))

pub text_of-text_of-requires-in-Let : goal.text_of-text_of-requires-in-Let
text_of-text_of-requires-in-Let t c =
    let p = let_names c.args.core.now c.in-Let.values c.in-Let.body c.in-Let.is c.args.model.now c.requires in
    (search (rules, the_lemmas), (rw c.deref-in-Let-2.ensures p.1))

pub text_of-returns-in_ok-behind-in-Spine-clause-text : goal.text_of-returns-in_ok-behind-in-Spine-clause-text
text_of-returns-in_ok-behind-in-Spine-clause-text t c =
    let behind = rw c.deref-in-Spine.ensures at c.in_ok-behind-in-Spine.ensures in
    let bytes = rw c.deref.ensures at c.in_ok-text-in-Spine.ensures.text in
    let wraps = rw c.deref.ensures at c.in_ok-text-in-Spine.ensures.wraps in
    bytes_where c.links_text.result _ _ (spine_written c.args.core.now c.in-Spine.first c.in-Spine.links c.in-Spine.is c.args.model.now (naming_view c.args.naming) (naming_view c.in_ok-behind-in-Spine.behind) c.in_ok-text-in-Spine.text behind bytes wraps) (rw c.deref-in-Spine-2.ensures.value at c.links_text.ensures)

pub text_of-returns-in_ok-behind-in-Spine-clause-wraps : goal.text_of-returns-in_ok-behind-in-Spine-clause-wraps
text_of-returns-in_ok-behind-in-Spine-clause-wraps t c =
    let behind = rw c.deref-in-Spine.ensures at c.in_ok-behind-in-Spine.ensures in
    let bytes = rw c.deref.ensures at c.in_ok-text-in-Spine.ensures.text in
    let wraps = rw c.deref.ensures at c.in_ok-text-in-Spine.ensures.wraps in
    wraps_where c.links_text.result _ _ (spine_written c.args.core.now c.in-Spine.first c.in-Spine.links c.in-Spine.is c.args.model.now (naming_view c.args.naming) (naming_view c.in_ok-behind-in-Spine.behind) c.in_ok-text-in-Spine.text behind bytes wraps) (rw c.deref-in-Spine-2.ensures.value at c.links_text.ensures)

pub text_of-returns-in_ok-put-in-Let-clause-text : goal.text_of-returns-in_ok-put-in-Let-clause-text
text_of-returns-in_ok-put-in-Let-clause-text t c =
    let names = rw c.deref-in-Let.ensures.value at c.in_ok-within-in-Let.ensures.names in
    let front = rw c.deref-in-Let.ensures.value at c.in_ok-within-in-Let.ensures.text in
    let inner = rw c.deref-in-Let-2.ensures at c.in_ok-inner-in-Let.ensures.text in
    let whole = let_written c.args.core.now c.in-Let.values c.in-Let.body c.in-Let.is c.args.model.now (naming_view c.args.naming) (inner_view c.in_ok-within-in-Let.within) names in
    search rules

pub text_of-returns-in_ok-put-in-Let-clause-wraps : goal.text_of-returns-in_ok-put-in-Let-clause-wraps
text_of-returns-in_ok-put-in-Let-clause-wraps t c =
    let inner = rw c.deref-in-Let-2.ensures at c.in_ok-inner-in-Let.ensures.wraps in
    let whole = let_wraps c.args.core.now c.in-Let.values c.in-Let.body c.in-Let.is in
    search rules
