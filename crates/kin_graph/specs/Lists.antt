-- Lists in the order of first adding, as the store has them.
pub use Rattle.kin_store.specs.Lists.{few, place_of, half_key, user_key, use_key, half_place, user_place, use_place, half_to, use_of}
