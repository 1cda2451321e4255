pub mod Items
pub mod Values
pub mod Commands
pub mod Formed
pub mod Rules
pub mod Reads
