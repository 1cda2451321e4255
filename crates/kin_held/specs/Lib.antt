pub mod Early
pub mod Chains
pub mod Takes
pub mod ChainOf
pub mod Queues
pub use Rattle.kin_ids.specs.Lines
pub use Rattle.kin_ids.specs.Operations
