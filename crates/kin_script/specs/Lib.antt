pub mod Schedules
pub mod Ends
pub mod Readings
