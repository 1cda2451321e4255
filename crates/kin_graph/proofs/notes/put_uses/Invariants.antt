use Rattle.std.proofs.Common.{◌≡◌, ℕ, List, false}
use Rattle.kin_store.specs.declared.pairs.TagUser.{TagUser}
use Rattle.kin_graph.specs.Deltas.{use_of}
use Rattle.kin_graph.specs.Touches.{has_tag_user, tag_user}
use Rattle.kin_graph.proofs.notes.put_uses.Given as goal

-- what was noted still is, and what isn't is read alike in the list and in what is left of it
abbrev pub invariant-loop-used : goal.invariant-loop-used
invariant-loop-used l = record {
  kept : (p : TagUser) → has_tag_user l.pairs.keys p ≡ false → has_tag_user l.fn.pairs.keys p ≡ false;
  left : (k : List ℕ) → has_tag_user l.pairs.keys (tag_user k l.user) ≡ false → use_of l.uses k ≡ use_of l.used-iterator k;
}
