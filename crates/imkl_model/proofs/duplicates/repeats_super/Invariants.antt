use Rattle.std.proofs.Common.{◌≡◌, drop, bytes_eq}
use Rattle.std.specs.List.{list_any}
use Rattle.ocl_base.specs.Lists.{repeats}
use Rattle.imkl_model.proofs.duplicates.repeats_super.Given as goal

abbrev pub invariant-loop-class : goal.invariant-loop-class
invariant-loop-class l = list_any (λ c. repeats bytes_eq c.supers) (drop l.class-index l.classes) ≡ list_any (λ c. repeats bytes_eq c.supers) l.classes
