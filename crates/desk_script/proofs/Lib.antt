pub mod Numbers
pub mod Cuts
pub mod Turns
