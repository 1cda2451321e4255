pub mod Laws
pub mod Moving
pub mod Tagging
pub mod Placing
pub mod Entered
pub mod Filling
pub mod Tallied
