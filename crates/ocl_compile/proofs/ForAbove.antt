-- What the crates above cite: compiled rules are accepted, keep their names and context classes, and have the verdicts
-- that they mean; of a compiled unit, the code of each rule and that its uses are resolved; runs of accepted code, an
-- instruction or a block at a time.
pub use Rattle.ocl_compile.proofs.CompiledRuns.{resolved_at, compiled_is_accepted, compiled_keeps_rules, verdicts_are_meant}
pub use Rattle.ocl_compile.proofs.CompiledUnits.{compiled_is, rule_code_is}
pub use Rattle.ocl_compile.proofs.Operating.{operands_counted, operand_count}
pub use Rattle.ocl_compile.proofs.Reaching.{Reached, IsIterating, plain_reached, let_reached, if_reached, iteration_reached, fold_reached}
pub use Rattle.ocl_compile.proofs.Resolved.{of_first, of_rest}
pub use Rattle.ocl_compile.proofs.Resolving.{rules_resolved}
