pub mod Quiet
pub mod Settled
pub mod Lines
pub mod Results
