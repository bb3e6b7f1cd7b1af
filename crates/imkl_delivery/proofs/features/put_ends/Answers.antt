use Rattle.std.proofs.Common.{map}
use Rattle.token_tree.specs.Single.{single_view}
use Rattle.imkl_delivery.proofs.Singles.{elements-singles}
use Rattle.imkl_delivery.proofs.features.put_ends.Goals as goal

pub returns-in_ok-ids-in-Many-clause-leaves : goal.returns-in_ok-ids-in-Many-clause-leaves
returns-in_ok-ids-in-Many-clause-leaves c =
    let ss = c.in-Many.singles.items in
    rw (c.in-Many.is, elements-singles ss) (c.put_targets-in-Many.ensures.leaves (map single_view ss) (rw c.deref.ensures.value at c.in_ok-ids-in-Many.ensures))
