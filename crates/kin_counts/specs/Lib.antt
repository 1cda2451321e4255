pub mod Counts
pub mod Changes
pub mod Plans
pub mod Tallies
