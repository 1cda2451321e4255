-- The users and the tags that are planned are those of the next view.
use Rattle.std.proofs.Common.{◌≡◌, ◌∙◌, ◌||◌, ℕ, Bool, true, false, List, Option, Some, None, refl, sym, ap}
use Rattle.std.specs.List.Sorted.{IsStrictlySortedBy}
use Rattle.std.proofs.lemmas.Bool.{or_left}
use Rattle.kin_ids.specs.declared.ids.User.{User}
use Rattle.kin_ids.specs.Parts.{PartView}
use Rattle.kin_ids.specs.Users.{has_user, tag_cmp}
use Rattle.kin_graph.specs.Deltas.{DeltaLists}
use Rattle.kin_graph.specs.Views.{AreVertices, is_in_use, is_vertex}
use Rattle.kin_changes.specs.Told.{are_told, tells_tag}
use Rattle.kin_changes.specs.Views.{AreLed}
use Rattle.kin_changes.proofs.Members.{vertices-law}
use Rattle.kin_counts.specs.Counts.{IsCountOf}
use Rattle.kin_counts.specs.declared.plans.CountPlan.{CountPlan}
use Rattle.kin_counts.specs.Plans.{IsPlanOf, IsTaggedWhereNew, IsWideWhereNew, planned_tags, planned_users, tags_or, users_or}
use Rattle.kin_counts.proofs.Entered.{all-known}
use Rattle.kin_pull.specs.Begins.{is_rewired, is_touched}
use Rattle.kin_pull.proofs.Touched.{touched-law}
use Rattle.kin_rules.specs.declared.pull_rules.Side.{Side}
use Rattle.kin_rules.specs.Results.{ResultView, has_tag}
use Rattle.kin_rules.proofs.KeyOrders.{tag_cmp-exact}
use Rattle.kin_mine.proofs.Orders.{unique}

module _ (was is : PartView) (ds : List DeltaLists) (led : AreLed was is ds) (r : ResultView) (counted : IsCountOf was r) (p : CountPlan) (plan : IsPlanOf r ds p) where
  vertex-is : (u : User) → (has_user r.users u || are_told ds u) ≡ is_vertex is u
  vertex-is u = ap (λ (b : Bool). b || are_told ds u) (counted.users.all u) ∙ sym ((vertices-law was is ds led).0 u)

  use-is : (t : List ℕ) → (has_tag r.tags t || tells_tag ds t) ≡ is_in_use is t
  use-is t = ap (λ (b : Bool). b || tells_tag ds t) (counted.tags t) ∙ sym ((vertices-law was is ds led).1 t)

  users-are : (o : Option ResultView) → IsWideWhereNew r ds o → AreVertices is (users_or o r.users)
  users-are None known = record { ascend = counted.users.ascend; all = λ u. all-known (has_user r.users u) (are_told ds u) (known u) ∙ vertex-is u }
  users-are (Some w) wide = record { ascend = wide.ascend; all = λ u. wide.all u ∙ vertex-is u }

  pub next-users : AreVertices is (planned_users p r)
  next-users = users-are p.wide plan.users

  tags-are : (o : Option ResultView) → IsTaggedWhereNew r ds o → IsStrictlySortedBy tag_cmp (tags_or o r.tags) × ((t : List ℕ) → has_tag (tags_or o r.tags) t ≡ is_in_use is t)
  tags-are None known = (counted.tags_ascend, λ t. all-known (has_tag r.tags t) (tells_tag ds t) (known t) ∙ use-is t)
  tags-are (Some x) tagged = (tagged.ascend, λ t. tagged.all t ∙ use-is t)

  pub next-tags : IsStrictlySortedBy tag_cmp (planned_tags p r)
  next-tags = (tags-are p.tagged plan.tags).0

  -- who was there is there, and so is whoever the deltas tell of
  pub still-there : (u : User) → has_user r.users u ≡ true → has_user (planned_users p r) u ≡ true
  still-there u there = next-users.all u ∙ (sym (vertex-is u) ∙ or_left (has_user r.users u) (are_told ds u) there)

  pub touched-there : (u : User) → is_touched ds u ≡ true → has_user (planned_users p r) u ≡ true
  touched-there u h = next-users.all u ∙ (touched-law was is ds led u).0 h

  pub rewired-there : (s : Side) (u : User) → is_rewired s ds u ≡ true → has_user (planned_users p r) u ≡ true
  rewired-there s u h = next-users.all u ∙ (touched-law was is ds led u).1 s h

  -- the tags of what is counted then are those that were planned
  pub tags-same : (x : ResultView) → IsCountOf is x → x.tags ≡ planned_tags p r
  tags-same x now = unique tag_cmp-exact x.tags (planned_tags p r) now.tags_ascend next-tags (λ t. now.tags t ∙ sym ((tags-are p.tagged plan.tags).1 t))
