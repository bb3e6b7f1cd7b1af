use Rattle.std.proofs.Common.{◌≡◌, None, length}
use Rattle.imkl_population.specs.Numbers.{first_below}
use Rattle.imkl_population.specs.Finishing.{end_fault}
use Rattle.imkl_population.proofs.Idle.{opposite_side}
use Rattle.imkl_population.proofs.finishing.first_end_fault.Given as goal

abbrev pub invariant-loop-object : goal.invariant-loop-object
invariant-loop-object l = record {
  required : l.required ≡ opposite_side l.builder;
  none : first_below (λ o. first_below (end_fault l.builder o) (length l.builder.model.features)) l.object ≡ None;
}
