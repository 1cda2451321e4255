pub mod Scores
pub mod Plans
pub mod Turns
pub mod Planned
