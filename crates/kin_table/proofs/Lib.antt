pub mod Turns
pub mod Reports
