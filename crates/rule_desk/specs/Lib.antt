-- Definitions: what contracts mean.
pub mod Faults
pub mod Seen
pub mod Job
pub mod World
pub mod Calls
pub mod Rooms
pub mod Laws
pub mod Events
-- Bookkeeping: views and private contracts.
pub mod Held
pub mod Stands
