pub mod FittingKinds
pub mod ValueKinds
pub mod Distinct
pub mod SetKinds
pub mod ForAbove
