use Rattle.std.proofs.Common.{◌≡◌, false}
use Rattle.kin_ids.specs.declared.ids.User.{User}
use Rattle.kin_ids.specs.Users.{has_user}
use Rattle.kin_store.specs.declared.pairs.TagUser.{TagUser}
use Rattle.kin_graph.specs.Touches.{has_tag_user, tag_user}
use Rattle.kin_graph.proofs.notes.put_tag_users.Given as goal

-- what was noted still is, and what isn't is read alike in the list and in what is left of it
abbrev pub invariant-loop-user : goal.invariant-loop-user
invariant-loop-user l = record {
  kept : (p : TagUser) → has_tag_user l.pairs.keys p ≡ false → has_tag_user l.fn.pairs.keys p ≡ false;
  left : (k : User) → has_tag_user l.pairs.keys (tag_user l.tag k) ≡ false → has_user l.users k ≡ has_user l.user-iterator k;
}
