pub mod Snaps
pub mod Wholes
pub mod Blocks
pub mod Versions
