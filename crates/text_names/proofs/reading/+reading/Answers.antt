use Rattle.std.proofs.Common.{◌≡◌, List, ℕ, Bor, length, map, refl, ◌∙◌, vec_len, rules}
use Rattle.std.proofs.lemmas.Result.{on_ok_weaker}
use Rattle.ocl_text.specs.View.{bound_of, view_variables}
use Rattle.text_names.specs.GivenNames.{names_bound}
use Rattle.text_names.specs.ReadingWalk.{reading_view, names_seen}
use Rattle.text_names.proofs.ReadNodes.{spine_goes_on, let_goes_on, fold_goes_on, let_cut, cut_after, cut_twice, cut_seen}
use Rattle.text_names.proofs.reading.+reading.Goals as goal

-- ---- what is read

pub read-returns-in_ok-read-in-Spine-clause-read : goal.read-returns-in_ok-read-in-Spine-clause-read
read-returns-in_ok-read-in-Spine-clause-read t c =
    let first = rw c.deref-in-Spine.ensures at c.in_ok-read-in-Spine.ensures.read in
    let links = rw c.deref-in-Spine-2.ensures.value at c.read_links.ensures.read in
    on_ok_weaker c.read_links.result (λ h. spine_goes_on c.args.expression.now c.in-Spine.first c.in-Spine.links c.in-Spine.is (names_seen c.args.reading.now) _ (reading_view c.args.reading.now) _ _ c.in_ok-read-in-Spine.ensures.seen first h) links

pub read-returns-in_ok-read-in-Let-clause-read : goal.read-returns-in_ok-read-in-Let-clause-read
read-returns-in_ok-read-in-Let-clause-read t c =
    let seen = rw c.deref-in-Let.ensures at c.in_ok-read_binding-in-Let.ensures.seen in
    let first = rw c.deref-in-Let.ensures at c.in_ok-read_binding-in-Let.ensures.read in
    let others_seen = rw c.deref-in-Let-2.ensures.value at c.in_ok-read_bindings-in-Let.ensures.seen in
    let others = rw c.deref-in-Let-2.ensures.value at c.in_ok-read_bindings-in-Let.ensures.read in
    let body = rw c.deref-in-Let-3.ensures at c.in_ok-read-in-Let.ensures.read in
    let_goes_on c.args.expression.now c.in-Let.first c.in-Let.others c.in-Let.body c.in-Let.offset c.in-Let.is (names_seen c.args.reading.now) _ _ (reading_view c.args.reading.now) _ _ _ seen first others_seen others body

pub read_link-returns-in_ok-read-in-Fold-2-clause-read : goal.read_link-returns-in_ok-read-in-Fold-2-clause-read
read_link-returns-in_ok-read-in-Fold-2-clause-read t c =
    let start = rw c.deref-in-Fold.ensures at c.in_ok-read-in-Fold.ensures.read in
    let first_seen = rw c.as_str-in-Fold.ensures.text at c.in_ok-bind_named-in-Fold.ensures.seen in
    let first = rw c.as_str-in-Fold.ensures.text at c.in_ok-bind_named-in-Fold.ensures.read in
    let second_seen = rw (c.as_str-in-Fold-2.ensures.text, c.deref-in-Fold-2.ensures) at c.in_ok-bind_named-in-Fold-2.ensures.seen in
    let second = rw (c.as_str-in-Fold-2.ensures.text, c.deref-in-Fold-2.ensures) at c.in_ok-bind_named-in-Fold-2.ensures.read in
    fold_goes_on c.args.link.now c.in-Fold.variable c.in-Fold.accumulator c.in-Fold.body c.in-Fold.offset c.in-Fold.is (names_seen c.args.reading.now) _ _ _ (reading_view c.args.reading.now) _ _ _ _ c.in_ok-read-in-Fold.ensures.seen start first_seen first second_seen second c.in_ok-read-in-Fold-2.ensures.read

-- ---- names that are seen

pub read-returns-in_ok-read-in-Let-clause-seen : goal.read-returns-in_ok-read-in-Let-clause-seen
read-returns-in_ok-read-in-Let-clause-seen t c =
    let seen = rw c.deref-in-Let.ensures at c.in_ok-read_binding-in-Let.ensures.seen in
    let others_seen = rw c.deref-in-Let-2.ensures.value at c.in_ok-read_bindings-in-Let.ensures.seen in
    let left = let_cut (bound_of c.in-Let.first.value) (map bound_of c.in-Let.others.items) (names_seen c.args.reading.now) _ _ _ seen others_seen c.in_ok-read-in-Let.ensures.seen in
    let len : vec_len c.args.reading.now.seen ≡ length c.args.reading.now.seen.items = search rules in
    rw (c.truncate.ensures.items, c.len-outside.ensures ∙ len) (cut_seen (λ (n : Bor (List ℕ)). n.now) c.args.reading.now.seen.items c.read-in-Let.new.reading.seen.items (names_seen c.read-in-Let.new.reading) refl left)

pub read_link-returns-in_ok-read-in-Iterate-clause-seen : goal.read_link-returns-in_ok-read-in-Iterate-clause-seen
read_link-returns-in_ok-read-in-Iterate-clause-seen t c =
    let left = cut_after (names_seen c.args.reading.now) (names_bound (view_variables c.in-Iterate.variables)) _ _ c.in_ok-bind_variables-in-Iterate.ensures.seen c.in_ok-read-in-Iterate.ensures.seen in
    let len : vec_len c.args.reading.now.seen ≡ length c.args.reading.now.seen.items = search rules in
    rw (c.truncate.ensures.items, c.len-outside.ensures ∙ len) (cut_seen (λ (n : Bor (List ℕ)). n.now) c.args.reading.now.seen.items c.read-in-Iterate.new.reading.seen.items (names_seen c.read-in-Iterate.new.reading) refl left)

pub read_link-returns-in_ok-read-in-Fold-2-clause-seen : goal.read_link-returns-in_ok-read-in-Fold-2-clause-seen
read_link-returns-in_ok-read-in-Fold-2-clause-seen t c =
    let left = cut_twice _ _ (names_seen c.args.reading.now) _ _ _ _ c.in_ok-read-in-Fold.ensures.seen c.in_ok-bind_named-in-Fold.ensures.seen c.in_ok-bind_named-in-Fold-2.ensures.seen c.in_ok-read-in-Fold-2.ensures.seen in
    let len : vec_len c.args.reading.now.seen ≡ length c.args.reading.now.seen.items = search rules in
    rw (c.truncate-in-Fold.ensures.items, c.len-outside-in-Fold.ensures ∙ len) (cut_seen (λ (n : Bor (List ℕ)). n.now) c.args.reading.now.seen.items c.read-in-Fold-2.new.reading.seen.items (names_seen c.read-in-Fold-2.new.reading) refl left)
