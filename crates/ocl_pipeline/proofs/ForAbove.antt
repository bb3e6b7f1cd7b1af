-- What the crates above cite: what inputs describe, what texts read, what their rules are compiled to, and steps that stop.
pub use Rattle.ocl_pipeline.proofs.Described.{model_is, model_is_refused, population_is, population_is_refused}
pub use Rattle.ocl_pipeline.proofs.TextReadings.{text_read, text_refused, ill_formed_read}
pub use Rattle.ocl_pipeline.proofs.TextCompiled.{types_are, code_is, compiled_parts}
pub use Rattle.ocl_pipeline.proofs.Stopping.{stops_then, not_refused, cost_stops}
