use Rattle.std.proofs.Common.{◌-◌, arith}
use Rattle.explain_why.specs.Values.{quoted_character}
use Rattle.explain_why.proofs.Left.{first_put, all_first_put}
use Rattle.explain_why.proofs.values.put_characters.Goals as goal

pub characters-preserved : goal.characters-preserved
characters-preserved c = first_put quoted_character _ _ _ _ _ c.characters.left (c.characters.left - 1) c.in-Some.character (omega (arith, c.if-left-eq0.false)) c.characters.invariant.1 c.in-Some.ensures.steps.0 c.in_ok-put_character.ensures c.characters.invariant.0

pub returns : goal.returns
returns c = all_first_put quoted_character _ _ _ c.characters.left c.in-None.ensures.steps.0.0 c.characters.invariant.0
