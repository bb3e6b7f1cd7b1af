-- What the crates above cite: the parts of a JSON tree beside the values that stand for it.
pub use Rattle.imkl_json.proofs.Trees.{members_len-view, elements_of-view, trees}
