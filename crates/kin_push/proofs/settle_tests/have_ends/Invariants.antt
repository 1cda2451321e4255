use Rattle.std.proofs.Common.{◌≡◌, ◌⊎◌, true, map}
use Rattle.kin_ids.specs.declared.ids.User.{User}
use Rattle.kin_ids.specs.Users.{has_user}
use Rattle.kin_store.specs.Lists.{half_key}
use Rattle.kin_push.proofs.settle_tests.have_ends.Given as goal

-- the others so far are users
abbrev pub invariant-loop-half : goal.invariant-loop-half
invariant-loop-half l = (x : User) → has_user (map half_key l.halves) x ≡ true → (has_user (map half_key l.half-iterator) x ≡ true)
    ⊎ (has_user l.users x ≡ true)
