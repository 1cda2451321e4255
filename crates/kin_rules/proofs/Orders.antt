-- A list is put in order in one way: the lemmas of `specs/Orderings`, which a law cites.
pub use Rattle.kin_rules.specs.Orderings.{IsExact, three_ways, count-cons, AreAlike, placed-permutes, in_order-permutes, alike-in-order, is-ordering, both-tie}
