-- Numbers of a result that fall and rise, while nothing else changes.
use Rattle.std.specs.Prelude.{◌≡◌, ◌==◌, ◌+◌, ◌-◌, ◌^◌, ◌&&◌, ℕ, List, Option, Some, None, min, if◌then◌else◌}
use Rattle.kin_ids.specs.declared.ids.User.{User}
use Rattle.kin_ids.specs.Users.{has_user, same_user}
use Rattle.kin_graph.specs.Deltas.{DeltaLists}
use Rattle.kin_changes.specs.Told.{pairs_of, said_more}
use Rattle.kin_rules.specs.declared.numbers.Num.{Num}
use Rattle.kin_rules.specs.declared.numbers.Num.TheVariants as num
use Rattle.kin_rules.specs.ResultChanges.{same_num}
use Rattle.kin_rules.specs.Results.{ResultView, number_in, has_tag, tag_users_in, expo_in}

-- so much less of a number
abbrev pub lowered : ℕ → ℕ → ℕ
lowered less n = n - less

-- so much more of a number, as far as 64 bits go
abbrev pub raised : ℕ → ℕ → ℕ
raised more n = if more == 0 then n else min (n + more) (2 ^ 64 - 1)

-- an amount of one user under one rule, and amounts of all users under one rule
abbrev pub of_one : Num → User → ℕ → Num → User → ℕ
of_one which u n rule x = if same_num rule which && same_user x u then n else 0

abbrev pub of_rule : Num → (User → ℕ) → Num → User → ℕ
of_rule which f rule x = if same_num rule which then f x else 0

-- The numbers of the users went by these amounts, each by a step, and all else is as it was.
pub record Moves (step : ℕ → ℕ → ℕ) (old : ResultView) (by : Num → User → ℕ) (new : ResultView) : Type 0 where
  pub numbers : (which : Num) (u : User) → number_in new which u
      ≡ (if has_user old.users u then step (by which u) (number_in old which u) else number_in old which u)
  pub rest : record new { ins = old.ins; outs = old.outs; said = old.said; ranks = old.ranks } ≡ old

-- they are so much less, or so much more
abbrev pub Lowers : ResultView → (Num → User → ℕ) → ResultView → Type 0
Lowers old less new = Moves lowered old less new

abbrev pub Raises : ResultView → (Num → User → ℕ) → ResultView → Type 0
Raises old more new = Moves raised old more new

-- The tags in use have so many users more, and all else is as it was.
pub record RaisesTags (old : ResultView) (more : List ℕ → ℕ) (new : ResultView) : Type 0 where
  pub tags : (t : List ℕ) → has_tag new.tags t ≡ has_tag old.tags t
  pub numbers : (t : List ℕ) → tag_users_in new t ≡ (if has_tag old.tags t then raised (more t)
      (tag_users_in old t) else tag_users_in old t)
  pub expos : (t : List ℕ) → expo_in new t ≡ expo_in old t
  pub rest : record new { tags = old.tags; tag_users = old.tag_users; expos = old.expos } ≡ old

-- by how much what went lowers each number, and what came raises it
abbrev pub went : List DeltaLists → Num → User → ℕ
went ds num.In u = pairs_of (λ d. d.gone_in) ds u
went ds num.Out u = pairs_of (λ d. d.gone_out) ds u
went ds _ u = 0

abbrev pub came : List DeltaLists → Num → User → ℕ
came ds num.In u = pairs_of (λ d. d.now_in) ds u
came ds num.Out u = pairs_of (λ d. d.now_out) ds u
came ds num.Said u = said_more ds u
came ds num.Rank u = 0

-- a result that took the user columns of another one, where there is one
abbrev pub with_users_of : Option ResultView → ResultView → ResultView
with_users_of None r = r
with_users_of (Some w) r = record r {
  users = w.users;
  ins = w.ins;
  outs = w.outs;
  said = w.said;
  ranks = w.ranks;
  hops = w.hops;
  close = w.close;
}

-- and the tag columns
abbrev pub with_tags_of : ResultView → ResultView → ResultView
with_tags_of t r = record r { tags = t.tags; tag_users = t.tag_users; expos = t.expos }
