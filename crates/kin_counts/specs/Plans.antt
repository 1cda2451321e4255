-- What is planned before counts change: all memory that the change takes.
use Rattle.std.specs.Prelude.{◌≡◌, ◌||◌, ℕ, true, List, Option, Some, None, if◌then◌else◌}
use Rattle.std.specs.List.Sorted.{IsStrictlySortedBy}
use Rattle.kin_ids.specs.declared.ids.User.{User}
use Rattle.kin_ids.specs.Users.{has_user, user_cmp, tag_cmp}
use Rattle.kin_graph.specs.Deltas.{DeltaLists}
use Rattle.kin_changes.specs.Told.{are_told, tells_tag, tag_more}
use Rattle.kin_rules.specs.Results.{ResultView, has_tag, tag_users_in, expo_in}
use Rattle.kin_rules.specs.ResultChanges.{IsWider}
use Rattle.kin_counts.specs.declared.plans.CountPlan.{CountPlan}
use Rattle.kin_counts.specs.Changes.{raised}

-- User columns over the users and those of whom deltas tell something new.
pub record IsWide (old : ResultView) (ds : List DeltaLists) (w : ResultView) : Type 0 where
  pub wider : IsWider old w.users w
  pub ascend : IsStrictlySortedBy user_cmp w.users
  pub all : (u : User) → has_user w.users u ≡ (has_user old.users u || are_told ds u)

-- they are planned where there are such users
abbrev pub IsWideWhereNew : ResultView → List DeltaLists → Option ResultView → Type 0
IsWideWhereNew old ds None = (u : User) → are_told ds u ≡ true → has_user old.users u ≡ true
IsWideWhereNew old ds (Some w) = IsWide old ds w

-- Tag columns over the tags and those that have a new user, with the numbers of users that deltas make.
pub record IsTagged (old : ResultView) (ds : List DeltaLists) (r : ResultView) : Type 0 where
  pub ascend : IsStrictlySortedBy tag_cmp r.tags
  pub all : (t : List ℕ) → has_tag r.tags t ≡ (has_tag old.tags t || tells_tag ds t)
  pub numbers : (t : List ℕ) → tag_users_in r t ≡ (if has_tag r.tags t then raised (tag_more ds t) (tag_users_in old t) else 0)
  pub expos : (t : List ℕ) → has_tag old.tags t ≡ true → expo_in r t ≡ expo_in old t

abbrev pub IsTaggedWhereNew : ResultView → List DeltaLists → Option ResultView → Type 0
IsTaggedWhereNew old ds None = (t : List ℕ) → tells_tag ds t ≡ true → has_tag old.tags t ≡ true
IsTaggedWhereNew old ds (Some r) = IsTagged old ds r

-- the plan has what these deltas change of a result
pub record IsPlanOf (old : ResultView) (ds : List DeltaLists) (plan : CountPlan) : Type 0 where
  pub users : IsWideWhereNew old ds plan.wide
  pub tags : IsTaggedWhereNew old ds plan.tagged

-- the users of other columns, where there are such, or these
abbrev pub users_or : Option ResultView → List User → List User
users_or None us = us
users_or (Some w) us = w.users

-- the users that a result has once it is changed by the plan
abbrev pub planned_users : CountPlan → ResultView → List User
planned_users plan r = users_or plan.wide r.users

-- the tags of other columns, where there are such, or these
abbrev pub tags_or : Option ResultView → List (List ℕ) → List (List ℕ)
tags_or None ts = ts
tags_or (Some r) ts = r.tags

-- the tags that a result has once it is changed by the plan
abbrev pub planned_tags : CountPlan → ResultView → List (List ℕ)
planned_tags plan r = tags_or plan.tagged r.tags
