use Rattle.std.proofs.Common.{◌≡◌, false}
use Rattle.kin_ids.specs.declared.ids.User.{User}
use Rattle.kin_store.specs.declared.pairs.Pair.{Pair}
use Rattle.kin_graph.specs.Deltas.{half_to}
use Rattle.kin_graph.specs.Touches.{has_pair, pair}
use Rattle.kin_graph.proofs.notes.put_halves.Given as goal

-- what was noted still is, and what isn't is read alike in the list and in what is left of it
abbrev pub invariant-loop-half : goal.invariant-loop-half
invariant-loop-half l = record {
  kept : (p : Pair) → has_pair l.pairs.keys p ≡ false → has_pair l.fn.pairs.keys p ≡ false;
  left : (k : User) → has_pair l.pairs.keys (pair l.user k) ≡ false → half_to l.halves k ≡ half_to l.half-iterator k;
}
