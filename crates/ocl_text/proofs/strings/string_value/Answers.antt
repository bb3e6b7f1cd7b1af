use Rattle.ocl_text.proofs.Decoding.{after_escape, after_plain, after_quote, after_backslash, at_the_end}
use Rattle.ocl_text.proofs.strings.string_value.Goals as goal

pub returns : goal.returns
returns c = at_the_end c.characters.after_backslash _ _ _ c.in-None.ensures.steps.0.0 c.characters.invariant

pub characters-preserved-then-after_backslash : goal.characters-preserved-then-after_backslash
characters-preserved-then-after_backslash c = after_escape _ _ _ _ c.in-Some.character c.in-Some.ensures.steps.0 _ (rw c.escape_value.ensures at c.in_ok-push.ensures.bytes) (rw c.if-after_backslash.true at c.characters.invariant)

pub characters-preserved-then-character-eq92 : goal.characters-preserved-then-character-eq92
characters-preserved-then-character-eq92 c = after_backslash _ _ _ _ c.in-Some.character c.in-Some.ensures.steps.0 c.if-character-eq92.true (rw c.if-after_backslash.false at c.characters.invariant)

pub characters-preserved-in-Continue-branch-2 : goal.characters-preserved-in-Continue-branch-2
characters-preserved-in-Continue-branch-2 c = rw c.if-after_backslash.false (after_plain _ _ _ _ c.in-Some.character c.in-Some.ensures.steps.0 _ c.if-character-ne39.true c.if-character-eq92.false c.in_ok-push-2.ensures.bytes (rw c.if-after_backslash.false at c.characters.invariant))

pub characters-preserved : goal.characters-preserved
characters-preserved c = rw c.if-after_backslash.false (after_quote _ _ _ _ c.in-Some.character c.in-Some.ensures.steps.0 c.if-character-ne39.false (rw c.if-after_backslash.false at c.characters.invariant))
