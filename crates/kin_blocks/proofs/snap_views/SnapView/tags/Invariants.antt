use Rattle.std.proofs.Common.{◌≡◌, ℕ, ◌<◌, List, take}
use Rattle.std.specs.List.{list_any}
use Rattle.kin_ids.specs.Users.{same_tag}
use Rattle.kin_graph.specs.State.{LivesHere, view_of}
use Rattle.kin_graph.specs.Views.{is_in_use}
use Rattle.kin_blocks.specs.Snaps.{state_at}
use Rattle.kin_blocks.proofs.snap_views.SnapView.tags.Given as goal

abbrev pub invariant-loop-store : goal.invariant-loop-store
invariant-loop-store l = record {
  has : (t : List ℕ) → list_any (same_tag t) l.tags.keys ≡ list_any (λ s. is_in_use (view_of s) t)
      (take l.store-index l.self-inside.stores.items);
  home : (k : ℕ) → k < l.store-index → LivesHere (state_at l.self-inside.stores.items k);
}
