-- Definitions: what contracts mean.
pub mod Core
pub mod OperatorKinds
pub mod Typing
pub mod CoreView
