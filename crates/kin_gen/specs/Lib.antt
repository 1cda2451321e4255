pub mod Draws
pub mod Feeds
pub mod Rounds
pub mod Laws
pub mod Worked
