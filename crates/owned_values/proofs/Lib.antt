pub mod Characters
pub mod Bodies
pub mod There
pub mod ForAbove
