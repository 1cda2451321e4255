use Rattle.std.proofs.Common.{◌≡◌, true, take}
use Rattle.kin_ids.specs.declared.ids.User.{User}
use Rattle.kin_ids.specs.Users.{has_user}
use Rattle.kin_store.specs.State.{row_of}
use Rattle.kin_graph.specs.Touches.{NotesRow}
use Rattle.kin_graph.proofs.touched.Touched.note_rows.Given as goal

-- the rows so far are noted
abbrev pub invariant-loop-user : goal.invariant-loop-user
invariant-loop-user l = (u : User) → has_user (take l.user-index l.users) u ≡ true → NotesRow u (row_of l.snap u) l.self
