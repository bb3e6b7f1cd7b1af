pub mod Words
pub mod Bytes
pub mod WordRows
pub mod Reported
pub mod Objects
pub mod Regrouped
