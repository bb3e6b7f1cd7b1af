use Rattle.explain_why.specs.Values.{quoted_character}
use Rattle.code_as_ocl.proofs.PutCharacters.{character_put, all_put}
use Rattle.code_as_ocl.proofs.quoted.put_characters.Goals as goal

pub characters-preserved : goal.characters-preserved
characters-preserved c = character_put quoted_character _ _ _ _ _ c.in-Some.character c.characters.invariant.1 c.in-Some.ensures.steps.0 c.in_ok-put_character.ensures c.characters.invariant.0

pub returns : goal.returns
returns c = all_put quoted_character _ _ _ c.in-None.ensures.steps.0.0 c.characters.invariant.0
