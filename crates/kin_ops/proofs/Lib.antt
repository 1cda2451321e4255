pub mod Spreading
mod Wanting
