use Rattle.rule_values.proofs.ForAbove.{fits_in}
use Rattle.rule_values.proofs.laws.values_in_wider_kinds.Goals as goal

pub returns : goal.returns
returns c = fits_in
