-- What the calls that change a result do to it.
use Rattle.std.specs.Prelude.{◌≡◌, ◌==◌, ◌&&◌, ◌||◌, ℕ, nat_lt, Bool, true, false, if◌then◌else◌, List, [], Option, slice_index_or}
use Rattle.kin_ids.specs.declared.ids.User.{User}
use Rattle.kin_ids.specs.Users.{same_user, same_tag, has_user}
use Rattle.kin_rules.specs.declared.numbers.Num.{Num}
use Rattle.kin_rules.specs.declared.numbers.Num.TheVariants as num
use Rattle.kin_rules.specs.declared.numbers.KCount.{KCount}
use Rattle.kin_rules.specs.Results.{ResultView, has_tag, number_in, tag_users_in, expo_in, hops_in, close_in, landmarks_in, no_column}

-- whether two rules are the same
abbrev pub same_num : Num → Num → Bool
same_num num.In num.In = true
same_num num.Out num.Out = true
same_num num.Said num.Said = true
same_num num.Rank num.Rank = true
same_num _ _ = false

-- the user is one of the users, and every value is as it was
pub record AddsUser (old : ResultView) (u : User) (new : ResultView) : Type 0 where
  pub users : (x : User) → has_user new.users x ≡ (has_user old.users x || same_user x u)
  pub numbers : (which : Num) (x : User) → number_in new which x ≡ number_in old which x
  pub hops : (i : ℕ) (x : User) → hops_in new i x ≡ hops_in old i x
  pub close : (i : ℕ) (x : User) → close_in new i x ≡ close_in old i x
  pub landmarks : landmarks_in new ≡ landmarks_in old
  pub tags : (new.tags ≡ old.tags) × (new.tag_users ≡ old.tag_users) × (new.expos ≡ old.expos)
  pub epoch : new.epoch ≡ old.epoch

-- The users are these, and every value of a user is as it was, also those that a column has of others. Tags aren't spoken of.
pub record IsWider (old : ResultView) (over : List User) (new : ResultView) : Type 0 where
  pub users : new.users ≡ over
  pub numbers : (which : Num) (x : User) → number_in new which x ≡ number_in old which x
  pub hops : (i : ℕ) (x : User) → hops_in new i x ≡ hops_in old i x
  pub close : (i : ℕ) (x : User) → close_in new i x ≡ close_in old i x
  pub landmarks : landmarks_in new ≡ landmarks_in old
  pub epoch : new.epoch ≡ old.epoch
  pub plain_hops : (i : ℕ) → (slice_index_or new.hops i no_column).others ≡ (slice_index_or old.hops i no_column).others
  pub plain_close : (i : ℕ) → (slice_index_or new.close i no_column).others ≡ (slice_index_or old.close i no_column).others

-- the number of a user under a rule is this, and all else is as it was
pub record SetsNumber (old : ResultView) (which : Num) (u : User) (n : ℕ) (new : ResultView) : Type 0 where
  pub number : (rule : Num) (x : User) → number_in new rule x ≡ (if same_num rule which && same_user x u then n else number_in old rule x)
  pub rest : record new { ins = old.ins; outs = old.outs; said = old.said; ranks = old.ranks } ≡ old

-- The tag has so many users, and is in use exactly where it has some. A tag that goes takes its exposures along. All else is as it was.
pub record SetsTag (old : ResultView) (t : List ℕ) (n : ℕ) (new : ResultView) : Type 0 where
  pub tags : (x : List ℕ) → has_tag new.tags x ≡ (if same_tag x t then nat_lt 0 n else has_tag old.tags x)
  pub number : (x : List ℕ) → tag_users_in new x ≡ (if same_tag x t then n else tag_users_in old x)
  pub expo : (x : List ℕ) → expo_in new x ≡ (if same_tag x t && n == 0 then [] else expo_in old x)
  pub rest : record new { tags = old.tags; tag_users = old.tag_users; expos = old.expos } ≡ old

-- the exposures of a tag are these, and all else is as it was
pub record SetsExpo (old : ResultView) (t : List ℕ) (list : List KCount) (new : ResultView) : Type 0 where
  pub expo : (x : List ℕ) → expo_in new x ≡ (if same_tag x t then list else expo_in old x)
  pub rest : record new { expos = old.expos } ≡ old

-- a user's hops from the landmark of a number are this, and all else is as it was
pub record SetsHops (old : ResultView) (i : ℕ) (u : User) (value : Option ℕ) (new : ResultView) : Type 0 where
  pub hops : (j : ℕ) (x : User) → hops_in new j x ≡ (if j == i && same_user x u then value else hops_in old j x)
  pub landmarks : landmarks_in new ≡ landmarks_in old
  pub rest : record new { hops = old.hops } ≡ old

-- a user's closeness from the landmark of a number is this, and all else is as it was
pub record SetsClose (old : ResultView) (i : ℕ) (u : User) (value : Option ℕ) (new : ResultView) : Type 0 where
  pub close : (j : ℕ) (x : User) → close_in new j x ≡ (if j == i && same_user x u then value else close_in old j x)
  pub rest : record new { close = old.close } ≡ old
