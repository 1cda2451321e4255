mod Keyed
pub mod Pieces
pub mod Cuts
pub mod Cases
pub mod Kept
pub mod Times
pub mod Taking
pub mod Forgetting
