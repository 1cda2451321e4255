pub mod Empties
pub mod Wholes
pub mod Joined
pub mod Applying
pub mod Going
pub mod Few
pub mod Steps
mod Beginnings
mod Releasing
mod Alone
