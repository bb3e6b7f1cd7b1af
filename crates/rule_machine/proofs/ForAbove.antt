-- What the crates above cite: runs of accepted code go on and end, what they are charged, and their verdicts; what the
-- turns of iterations bind and keep; what symbols name, what code that fits its unit is cut into, and what the kinds after
-- code say of each of its instructions.
pub use Rattle.rule_machine.proofs.Blocks.{one_bound, element_bound, one_kept}
pub use Rattle.rule_machine.proofs.Bridge.{Fits, AllFit, IsCut, code_is_cut}
pub use Rattle.rule_machine.proofs.Charged.{charged, work_first, work_more, steps_within}
pub use Rattle.rule_machine.proofs.KindsAfter.{plain_says, block_says, branch_says, ended_says}
pub use Rattle.rule_machine.proofs.Ran.{run_more, goes_on, within_bound, verdict_found}
pub use Rattle.rule_machine.proofs.Symbols.{IsNamed, symbol_names}
pub use Rattle.rule_machine.proofs.Theorems.{ends_within}
