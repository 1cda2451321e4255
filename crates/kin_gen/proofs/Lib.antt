pub mod Young
pub mod Dealing
pub mod Progress
pub mod Ranges
pub mod Texts
pub mod Totals
pub mod Rows
