pub mod States
pub mod Potential
pub mod Facts
pub mod Offers
pub mod Turns
pub mod Begins
pub mod Engines
pub mod Closed
