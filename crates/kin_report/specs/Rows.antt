-- Worked rows: what whole runs print, as computed from the definitions alone.
pub mod Epochs
pub mod Restarts
pub mod Messages
pub mod Orders
pub mod Rules
pub mod Walks
pub mod Whole
pub mod Refusals
pub mod Tops
pub mod Nodes
pub mod Waits
