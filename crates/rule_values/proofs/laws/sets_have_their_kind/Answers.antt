use Rattle.rule_values.proofs.SetKinds.{as_set_in}
use Rattle.rule_values.proofs.laws.sets_have_their_kind.Goals as goal

pub returns : goal.returns
returns c = as_set_in
