pub mod Ingests
pub use Rattle.kin_ids.specs.Lines
pub use Rattle.kin_ids.specs.Operations
