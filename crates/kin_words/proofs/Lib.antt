mod Walks
mod Readings
mod Spellings
mod Equals
mod Apps
pub mod Asked
mod Parts
