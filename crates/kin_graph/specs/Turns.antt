-- Follow halves that are turned to present or absent, as the store has them.
pub use Rattle.kin_store.specs.Turns.{turned}
