-- What the crates above cite: that everything is there in what a tree means, what links mean, and that names of typed trees
-- are those of the class model.
pub use Rattle.ocl_semantics.proofs.MeaningThere.{meaning_there, node_there}
pub use Rattle.ocl_semantics.proofs.Nodes.{link_meaning, link_resolved, spine_meaning, spine_resolved, spine_names, let_names, lets_resolved, iterate_is, fold_is, there_where}
pub use Rattle.ocl_semantics.proofs.TypedResolved.{typed_resolved}
