use Rattle.std.proofs.Common.{◌≡◌, ◌∙◌, [], ℕ, List, Some, None, true, false, not, map, take, eqb, string_bytes, bytes_eq, sym, ap, subst}
use Rattle.std.specs.List.{list_any}
use Rattle.std.proofs.lemmas.Bool.{not-true, not-false}
use Rattle.ocl_base.specs.Lists.{repeats}
use Rattle.imkl_model.specs.Ranks.{rank_in}
use Rattle.imkl_model.proofs.Ranks.{AreTaken, is_taken, one_more, has_rank, names_more}
use Rattle.imkl_model.proofs.Repeated.{again_at}
use Rattle.imkl_model.proofs.names.Names.of.Goals as goal

pub returns-in_default-clause-differ : goal.returns-in_default-clause-differ
returns-in_default-clause-differ c =
    let none : rank_in (map string_bytes c.in_ok-sorted.sorted.items) (string_bytes c.text-item.result) ≡ None = sym (rw (c.as_slice.ensures.value, c.as_str.ensures.value) at c.in_default.ensures) in
    absurd (has_rank c.args.texts.now c.in_ok-sorted.sorted.items c.loop-text.text-index c.text-item.result c.in_ok-sorted.ensures.same c.loop-text-test.true c.text-item.is none)

pub returns-then-not-branch-clause-differ : goal.returns-then-not-branch-clause-differ
returns-then-not-branch-clause-differ c =
    let sorted = map string_bytes c.in_ok-sorted.sorted.items in
    let so_far = map string_bytes (take c.loop-text.text-index c.args.texts.now) in
    let x = c.text-item.result in
    let rank = c.in-Some.rank in
    let at_rank : rank_in sorted (string_bytes x) ≡ Some rank = sym (rw (c.as_slice.ensures.value, c.as_str.ensures.value) at c.in-Some.ensures) in
    let there : list_any (eqb rank) c.loop-text.ranks.keys ≡ true = not-false (list_any (eqb rank) c.loop-text.ranks.keys) (sym c.in_ok-insert.ensures.added ∙ c.if-not-branch.true) in
    let named = is_taken sorted so_far c.loop-text.ranks.keys (string_bytes x) rank c.loop-text.invariant at_rank in
    let twice : repeats bytes_eq (map string_bytes c.args.texts.now) ≡ true = again_at string_bytes [] c.args.texts.now c.loop-text.text-index x c.loop-text-test.true c.text-item.is (sym named ∙ there) in
    ap not (sym twice)

pub loop-text-preserved : goal.loop-text-preserved
loop-text-preserved c =
    let sorted = map string_bytes c.in_ok-sorted.sorted.items in
    let so_far = map string_bytes (take c.loop-text.text-index c.args.texts.now) in
    let x = c.text-item.result in
    let rank = c.in-Some.rank in
    let at_rank : rank_in sorted (string_bytes x) ≡ Some rank = sym (rw (c.as_slice.ensures.value, c.as_str.ensures.value) at c.in-Some.ensures) in
    let is_new : c.in_ok-insert.field-0 ≡ true = c.if-not-branch.false in
    let fresh : list_any (eqb rank) c.loop-text.ranks.keys ≡ false = not-true (list_any (eqb rank) c.loop-text.ranks.keys) (sym c.in_ok-insert.ensures.added ∙ is_new) in
    let more = one_more sorted so_far c.loop-text.ranks.keys c.insert.new.self.keys (string_bytes x) rank c.loop-text.invariant at_rank fresh c.in_ok-insert.ensures.keys in
    subst (λ (names : List (List ℕ)). AreTaken sorted names c.insert.new.self.keys) (sym (names_more c.args.texts.now c.loop-text.text-index x c.loop-text-test.true c.text-item.is)) more
