-- What the crates above cite: how each kind of node is seen, so that they open a node by these equations alone.
use Rattle.ocl_text.proofs.Views as v
pub use Rattle.ocl_text.proofs.Views.{view-Spine, view-Let, link_of-Binary, link_of-Property, link_of-Call, link_of-Iterate, link_of-Fold}

pub ruleset type_views = (v.view_type-Named, v.view_type-Collection)

pub ruleset views = (v.view-Number, v.view-String, v.view-Keyword, v.view-Name, v.view-EnumerationLiteral, v.view-Prefix, v.view-Spine, v.view-Let, v.view-If, v.bound_of-Binding, v.link_of-Binary, v.link_of-Property, v.link_of-Call, v.link_of-Iterate, v.link_of-Fold)
