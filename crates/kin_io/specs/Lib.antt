pub mod Outside
pub mod Plans
pub mod Shelves
pub mod Sinks
pub mod Edges
