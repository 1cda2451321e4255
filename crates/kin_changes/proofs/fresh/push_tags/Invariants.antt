use Rattle.std.proofs.Common.{◌≡◌, ◌||◌, ◌&&◌, not, ℕ, List, take}
use Rattle.std.specs.List.{list_any}
use Rattle.kin_ids.specs.Users.{same_tag}
use Rattle.kin_store.specs.declared.pairs.TagUser.{TagUser}
use Rattle.kin_changes.proofs.fresh.push_tags.Given as goal

abbrev pub invariant-loop-row : goal.invariant-loop-row
invariant-loop-row l =
    (t : List ℕ) → list_any (same_tag t) l.fresh.items ≡ (list_any (same_tag t) l.initial.fresh.items
    || (list_any (λ (x : TagUser). same_tag t x.tag) (take l.row-index l.rows) && not (list_any (same_tag t) l.known)))
