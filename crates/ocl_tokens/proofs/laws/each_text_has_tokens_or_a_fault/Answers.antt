use Rattle.ocl_tokens.proofs.Total.{tokens_or_a_fault}
use Rattle.ocl_tokens.proofs.laws.each_text_has_tokens_or_a_fault.Goals as goal

pub returns : goal.returns
returns c = tokens_or_a_fault
