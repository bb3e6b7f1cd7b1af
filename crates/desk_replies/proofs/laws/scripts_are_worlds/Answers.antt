use Rattle.desk_replies.proofs.Scripts.{worlds}
use Rattle.desk_replies.proofs.laws.scripts_are_worlds.Goals as goal

pub returns : goal.returns
returns c = worlds
