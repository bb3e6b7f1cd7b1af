use Rattle.std.proofs.Common.{ap, option_map}
use Rattle.imkl_delivery.specs.Pending.{pending_view}
use Rattle.imkl_delivery.proofs.features.none_pending.Goals as goal

pub returns-clause-none : goal.returns-clause-none
returns-clause-none c = λ f. ap (option_map pending_view) (c.loop.invariant.empty f)
