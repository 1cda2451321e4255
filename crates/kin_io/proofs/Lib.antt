pub mod Growth
mod Loading
mod Kept
