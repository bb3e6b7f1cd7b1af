use Rattle.std.proofs.Common.{map}
use Rattle.serde_json.specs.View.{view}
use Rattle.serde_json.proofs.Views.{view-Array}
use Rattle.imkl_json.proofs.ForAbove.{elements_of-view}
use Rattle.imkl_delivery.proofs.features.put_tree.Goals as goal

pub returns-in_ok-scalars-in-Array-clause-leaves : goal.returns-in_ok-scalars-in-Array-clause-leaves
returns-in_ok-scalars-in-Array-clause-leaves c =
    let vs = c.in-Array.values.items in
    rw (c.in-Array.is, view-Array c.in-Array.values, elements_of-view vs) (c.put_scalars-in-Array.ensures.leaves (map view vs) (rw (← c.model-model.ensures, ← c.feature_info-info.ensures) c.in_ok-scalars-in-Array.ensures))
