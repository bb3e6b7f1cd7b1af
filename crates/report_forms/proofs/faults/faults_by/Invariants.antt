use Rattle.std.proofs.Common.{◌≡◌, take}
use Rattle.report_forms.specs.FaultForms.{faults_by}
use Rattle.report_forms.proofs.faults.faults_by.Given as goal

abbrev pub invariant-loop-fault : goal.invariant-loop-fault
invariant-loop-fault l = l.out.items ≡ faults_by l.part (take l.fault-index l.faults)
