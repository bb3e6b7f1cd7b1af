use Rattle.std.proofs.Common.{List, ℕ, ◌+◌, get_or, drop, take_all, sym, ap, ◌∙◌, arith}
use Rattle.std.proofs.lemmas.List.{length-drop}
use Rattle.ocl_tokens.specs.Lexical.{ends_comment}
use Rattle.ocl_tokens.proofs.Runs.{comment_more}
use Rattle.ocl_tokens.proofs.lexeme.comment_len.Goals as goal

pub loop-at-preserved : goal.loop-at-preserved
loop-at-preserved c = sym (comment_more c.loop-at.at c.loop-at.at c.args.bytes.now c.loop-at-test.true (ap (λ (l : List ℕ). ends_comment (get_or c.args.bytes.now c.loop-at.at 0) l) (sym (take_all _ (drop (c.loop-at.at + 1) c.args.bytes.now) (omega (arith, length-drop (c.loop-at.at + 1) c.args.bytes.now)))) ∙ sym c.ends_comment.ensures ∙ c.if-ends_comment.false)) ∙ c.loop-at.invariant
