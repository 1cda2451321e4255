-- The store of one partition, and what it hands out.
pub use Rattle.kin_store.specs.State.{PartState, empty_part, row_of, users_of, view_of, LivesHere, IsPartStore, after, TakesPart}
