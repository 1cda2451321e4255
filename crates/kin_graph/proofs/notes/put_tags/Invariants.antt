use Rattle.std.proofs.Common.{◌≡◌, ℕ, List, true, false, take}
use Rattle.std.specs.List.{list_any}
use Rattle.kin_ids.specs.Users.{same_tag}
use Rattle.kin_store.specs.State.{users_of}
use Rattle.kin_store.specs.declared.pairs.TagUser.{TagUser}
use Rattle.kin_graph.specs.Touches.{NotesUsers, has_tag_user}
use Rattle.kin_graph.proofs.notes.put_tags.Given as goal

-- what was noted still is, and so are the users of the tags so far
abbrev pub invariant-loop-tag : goal.invariant-loop-tag
invariant-loop-tag l = record {
  kept : (p : TagUser) → has_tag_user l.pairs.keys p ≡ false → has_tag_user l.fn.pairs.keys p ≡ false;
  noted : (t : List ℕ) → list_any (same_tag t) (take l.tag-index l.tags) ≡ true → NotesUsers t (users_of l.snap t) l.pairs.keys;
}
