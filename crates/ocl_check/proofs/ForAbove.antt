-- What the crates above cite: what the pipeline gives is what `judge` answers, and how a part of a command ends.
pub use Rattle.ocl_check.proofs.Given.{due, code_is_answered, text_is_answered}
pub use Rattle.ocl_check.proofs.Judging.{judged_code, judged_text}
pub use Rattle.ocl_check.proofs.Endings.{ending_as, kept_whole, kept_unread}
