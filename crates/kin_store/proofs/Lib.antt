pub mod Orders
pub mod Places
pub mod Turns
pub mod Finds
pub mod Placing
pub mod Owners
mod Hinting
mod Paging
mod Puts
mod Sets
pub mod Empties
pub mod Exacts
mod Indexing
mod Gathering
pub mod Preceding
mod Counts
