use Rattle.std.proofs.Common.{◌≡◌, ◌⊎◌, true}
use Rattle.kin_ids.specs.declared.ids.User.{User}
use Rattle.kin_ids.specs.Users.{has_user}
use Rattle.kin_push.proofs.settle_tests.have_all.Given as goal

-- those so far are users
abbrev pub invariant-loop-end : goal.invariant-loop-end
invariant-loop-end l = (x : User) → has_user l.ends x ≡ true → (has_user l.end-iterator x ≡ true) ⊎ (has_user l.users x ≡ true)
