-- What the crates above cite: what symbols name, also where there are old names, the trees of stretches of code, what an
-- instruction took, the rules of accepted units, and items taken off a stack.
pub use Rattle.rule_verify.proofs.Stretches.{at_some, named_known, tree_cons, code_tree_count, stretch_none, stretch_length, stretch_first, stretch_take, stretch_drop, tree_plain, tree_block, tree_branch, tree_torn, tree_torn_branch}
pub use Rattle.rule_verify.proofs.Walking.{Takes, takes_from, below_count}
pub use Rattle.rule_verify.proofs.CheckedRules.{rule_is, rule_accepted, has_context}
pub use Rattle.rule_verify.proofs.Popped.{one_more_popped}
pub use Rattle.rule_verify.proofs.OldSymbols.{symbols_stay}
