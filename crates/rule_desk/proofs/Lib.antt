pub mod Totals
pub mod Runs
pub mod Costs
pub mod Jobs
pub mod Advances
pub mod Rooms
pub mod Worlds
pub mod Events
