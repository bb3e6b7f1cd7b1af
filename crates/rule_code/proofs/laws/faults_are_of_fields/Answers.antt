use Rattle.rule_code.proofs.FirstFault.{faults_are_of_fields}
use Rattle.rule_code.proofs.laws.faults_are_of_fields.Goals as goal

pub returns : goal.returns
returns c = faults_are_of_fields
