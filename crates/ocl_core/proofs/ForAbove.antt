-- What the crates above cite: how each kind of node is seen, so that they open a node by these equations alone.
use Rattle.ocl_core.proofs.CoreViews as v
pub use Rattle.ocl_core.proofs.CoreViews.{core_view-Constant, core_view-Variable, core_view-AllInstances, core_view-Spine, core_view-Let, core_view-If, core_link_of-Feature, core_link_of-Operation, core_link_of-AsCollection, core_link_of-Iterate, core_link_of-Fold}

pub ruleset views = (v.core_view-Constant, v.core_view-Variable, v.core_view-AllInstances, v.core_view-Spine, v.core_view-Let, v.core_view-If, v.core_link_of-Feature, v.core_link_of-Operation, v.core_link_of-AsCollection, v.core_link_of-Iterate, v.core_link_of-Fold)
