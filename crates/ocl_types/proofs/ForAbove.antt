-- What the crates above cite: the rules of a text that are elaborated are typed.
pub use Rattle.ocl_types.proofs.AllChecked.{all_typed}
