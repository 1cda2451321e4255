use Rattle.std.proofs.Common.{◌≡◌, ℕ, ◌<◌, take}
use Rattle.std.specs.List.{list_any}
use Rattle.kin_ids.specs.declared.ids.User.{User}
use Rattle.kin_ids.specs.Users.{has_user}
use Rattle.kin_graph.specs.State.{LivesHere, view_of}
use Rattle.kin_graph.specs.Views.{is_vertex}
use Rattle.kin_blocks.specs.Snaps.{state_at}
use Rattle.kin_blocks.proofs.snap_views.SnapView.users.Given as goal

abbrev pub invariant-loop-store : goal.invariant-loop-store
invariant-loop-store l = record {
  has : (u : User) → has_user l.users.keys u ≡ list_any (λ s. is_vertex (view_of s) u) (take l.store-index l.self-inside.stores.items);
  home : (k : ℕ) → k < l.store-index → LivesHere (state_at l.self-inside.stores.items k);
}
