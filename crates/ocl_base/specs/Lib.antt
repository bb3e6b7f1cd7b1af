-- Definitions: what contracts mean.
pub mod CollectionKinds
pub mod Lists
pub mod Words
pub mod Steps
pub mod Numbers
