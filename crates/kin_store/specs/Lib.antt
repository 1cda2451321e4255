pub mod Lists
pub mod Turns
pub mod Rows
pub mod Blocks
pub mod State
pub mod Changes
pub mod Pairs
pub mod Hints
