use Rattle.std.proofs.Common.{◌≡◌, ◌&&◌, not, ℕ, List, take}
use Rattle.std.specs.List.{list_any}
use Rattle.kin_ids.specs.Users.{same_tag}
use Rattle.kin_changes.specs.Told.{tells_tag}
use Rattle.kin_changes.proofs.fresh.fresh_tags.Given as goal

abbrev pub invariant-loop-delta : goal.invariant-loop-delta
invariant-loop-delta l = (t : List ℕ) → list_any (same_tag t) l.fresh.items
    ≡ (tells_tag (take l.delta-index l.deltas) t && not (list_any (same_tag t) l.known))
