use Rattle.std.proofs.Common.{◌∙◌, List, ℕ, ap, sym, not}
use Rattle.std.specs.BTreeSet.{contains_text}
use Rattle.std.proofs.lemmas.Map.Text.{btree_set_updates_text}
use Rattle.imkl_population.proofs.Encoded.{encoded, encodable}
use Rattle.imkl_population.proofs.Sets.{text_more, literal_more}
use Rattle.imkl_population.proofs.repeats.is_new.Goals as goal

pub returns-in_ok-insert-in-Text-clause-encodable : goal.returns-in_ok-insert-in-Text-clause-encodable
returns-in_ok-insert-in-Text-clause-encodable c = rw c.in-Text.is (encodable c.as_str.result.now _ c.as_str.utf8 c.as_str.ensures)

pub returns-in_ok-insert-in-Text-clause-new : goal.returns-in_ok-insert-in-Text-clause-new
returns-in_ok-insert-in-Text-clause-new c =
    rw c.in-Text.is (c.in_ok-insert-in-Text.ensures.added
    ∙ ap (λ (bs : List ℕ). not (contains_text c.args.seen.now.texts bs)) (c.in_ok-key-in-Text.ensures.ok ∙ sym (encoded c.as_str.result.now _ c.as_str.utf8 c.as_str.ensures)))

pub returns-in_ok-insert-in-Text-clause-more : goal.returns-in_ok-insert-in-Text-clause-more
returns-in_ok-insert-in-Text-clause-more c =
    rw c.in-Text.is (text_more c.args.seen.now (record c.args.seen.now { texts = c.insert-in-Text.new.self }) _ _
    (encodable c.as_str.result.now _ c.as_str.utf8 c.as_str.ensures)
    (encoded c.as_str.result.now _ c.as_str.utf8 c.as_str.ensures ∙ sym c.in_ok-key-in-Text.ensures.ok)
    (btree_set_updates_text _ c.args.seen.now.texts c.insert-in-Text.new.self _ c.in_ok-insert-in-Text.ensures.updates))

pub returns-in_ok-insert-in-Literal-clause-more : goal.returns-in_ok-insert-in-Literal-clause-more
returns-in_ok-insert-in-Literal-clause-more c =
    rw c.in-Literal.is (literal_more c.args.seen.now (record c.args.seen.now { literals = c.insert-in-Literal.new.self }) _ _ _ _ c.index.ensures c.index-in-Literal.ensures c.in_ok-insert-in-Literal.ensures.updates.0)
