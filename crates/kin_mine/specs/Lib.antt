pub mod WalkRules
pub mod Marks
pub mod Lanes
pub mod Walkers
pub mod Miners
pub mod Epochs
pub mod Plans
