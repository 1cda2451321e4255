pub mod Sound
pub mod Rows
pub mod Shown
pub mod Begun
pub mod Settled
