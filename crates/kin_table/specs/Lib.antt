pub mod Vectors
pub mod Numbers
pub mod Tables
pub mod Lists
pub mod Ends
pub mod Cuts
