use Rattle.ocl_pipeline.proofs.TextReadings.{have_reading}
use Rattle.ocl_pipeline.proofs.laws.each_text_is_read.Goals as goal

pub returns : goal.returns
returns c = have_reading c.each_text_has_tokens_or_a_fault.ensures c.each_list_spells_or_is_refused.ensures
