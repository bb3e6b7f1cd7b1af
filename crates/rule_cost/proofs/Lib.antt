pub mod Cuts
pub mod Costs
pub mod CodeWalk
pub mod Affordable
