use Rattle.ocl_tokens.proofs.OneReading.{one_token_list, one_flaw, tokens_or_flaw}
use Rattle.ocl_tokens.proofs.laws.tokens_are_determined.Goals as goal

pub returns-clause-tokens : goal.returns-clause-tokens
returns-clause-tokens c = λ text some others d e. one_token_list d others e

pub returns-clause-fault : goal.returns-clause-fault
returns-clause-fault c = λ text one other here there d e. one_flaw d other there e

pub returns-clause-never_both : goal.returns-clause-never_both
returns-clause-never_both c = λ text ts flaw offset d e. tokens_or_flaw d e
