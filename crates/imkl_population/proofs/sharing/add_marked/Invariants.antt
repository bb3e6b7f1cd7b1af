use Rattle.std.proofs.Common.{◌≡◌, ◌++◌, false, get_or}
use Rattle.ocl_base.specs.Numbers.{places}
use Rattle.imkl_population.proofs.sharing.add_marked.Given as goal

abbrev pub invariant-loop-object : goal.invariant-loop-object
invariant-loop-object l = l.list.items ≡ l.fn.list.items ++ places (λ o. get_or l.marks (get_or l.classes o 0) false) l.object
