use Rattle.ocl_text.proofs.Refused.{spells_or_is_refused}
use Rattle.ocl_text.proofs.laws.each_list_spells_or_is_refused.Goals as goal

pub returns : goal.returns
returns c = spells_or_is_refused
