-- What operations do to a store's rows and tags, and which of its items stay where they stand.
pub use Rattle.kin_store.specs.Changes.{Kept, kept, with_row, with_users, done, done_all}
pub use Rattle.kin_store.specs.Hints.{Precedes, IsIndexed}
