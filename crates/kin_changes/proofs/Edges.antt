-- Which edges were ever added, from those before and from what deltas tell.
use Rattle.std.proofs.Common.{◌≡◌, ◌<◌, ◌&&◌, ◌||◌, ◌∙◌, Bool, true, false, not, List, length, is_some, refl, sym, ap}
use Rattle.std.specs.List.{list_any}
use Rattle.kin_ids.specs.declared.ids.User.{User}
use Rattle.kin_ids.specs.Users.{has_user}
use Rattle.kin_ids.specs.Parting.{user_part}
use Rattle.kin_ids.specs.Parts.{PartView, if_here}
use Rattle.kin_store.specs.Lists.{half_to}
use Rattle.kin_graph.specs.Deltas.{DeltaLists, is_new}
use Rattle.kin_changes.specs.Views.{AreLed}
use Rattle.kin_changes.specs.Told.{is_to, adds_follow, adds_mention, EdgesLaw}
use Rattle.kin_changes.proofs.Homes.{any-home, user-home, any-just}

-- what is there was there or is new
pub either-new : (a b : Bool) → (a ≡ true → b ≡ true) → b ≡ (a || (b && not a))
either-new true b kept = kept refl
either-new false true kept = refl
either-new false false kept = refl

module _ (was is : PartView) (ds : List DeltaLists) (led : AreLed was is ds) (u w : User) where
  home : user_part (length ds) u < length ds
  home = user-home (length ds) u led.some

  pub adds-follow : adds_follow ds u w ≡ is_new (half_to (was.out u) w) (half_to (is.out u) w)
  adds-follow = any-home ds (user_part (length ds) u) home (λ d. list_any (is_to u w) d.new_out)
      (λ b. is_new (half_to (if_here b (was.out u)) w) (half_to (if_here b (is.out u)) w)) refl
      (λ p lt. any-just _ _ (led.each p lt).new_out u w)

  pub adds-mention : adds_mention ds u w ≡ (has_user (is.mentions u) w && not (has_user (was.mentions u) w))
  adds-mention = any-home ds (user_part (length ds) u) home (λ d. list_any (is_to u w) d.mention_out)
      (λ b. has_user (if_here b (is.mentions u)) w && not (has_user (if_here b (was.mentions u)) w)) refl
      (λ p lt. any-just _ _ (led.each p lt).mention_out u w)

pub edges-law : EdgesLaw
edges-law was is ds led u w = (
  either-new (is_some (half_to (was.out u) w)) (is_some (half_to (is.out u) w)) (led.grows.out u w)
      ∙ ap (λ (b : Bool). is_some (half_to (was.out u) w) || b) (sym (adds-follow was is ds led u w)),
  either-new (has_user (was.mentions u) w) (has_user (is.mentions u) w) (led.grows.mentions u w)
      ∙ ap (λ (b : Bool). has_user (was.mentions u) w || b) (sym (adds-mention was is ds led u w)),
)
