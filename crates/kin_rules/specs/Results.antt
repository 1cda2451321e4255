-- All values of one epoch, and whose they are.
use Rattle.std.specs.Prelude.{◌≡◌, ◌<◌, ℕ, Bool, if◌then◌else◌, List, [], All, Option, Some, None, length, replicate, slice_index, slice_index_or, slice_get}
use Rattle.std.specs.List.{list_any, position_or_len}
use Rattle.std.specs.List.Sorted.{IsStrictlySortedBy}
use Rattle.std.specs.Map.{lookup}
use Rattle.std.specs.Ordering.{nat_cmp}
use Rattle.kin_ids.specs.declared.ids.User.{User}
use Rattle.kin_ids.specs.Users.{user_cmp, tag_cmp, same_user, same_tag, has_user}
use Rattle.kin_ids.specs.Graph.{Graph, vertices, tags_in, said}
use Rattle.kin_rules.specs.declared.numbers.Num.{Num}
use Rattle.kin_rules.specs.declared.numbers.Num.TheVariants as num
use Rattle.kin_rules.specs.declared.numbers.KCount.{KCount}
use Rattle.kin_rules.specs.Counts.{in_count, out_count, tag_count}
use Rattle.kin_rules.specs.Exposure.{exposures}
use Rattle.kin_rules.specs.Nets.{hops_of, close_of}
use Rattle.kin_rules.specs.Places.{place}
use Rattle.kin_rules.specs.Ranks.{rank}

-- The values of a landmark: a value or none for each of the users, in their order, and the values of those that are none of the users.
pub record ColumnView : Type 0 where
  pub values : List (Option ℕ)
  pub others : List (User × ℕ)

-- An epoch. Its users, ascending, and four numbers of each of them in that order. The tags in use, ascending, and in that order how many
-- users each has, and how many of them have which exposure. For each landmark a column of hops and one of closeness.
pub record ResultView : Type 0 where
  pub epoch : ℕ
  pub users : List User
  pub ins : List ℕ
  pub outs : List ℕ
  pub said : List ℕ
  pub ranks : List ℕ
  pub tags : List (List ℕ)
  pub tag_users : List ℕ
  pub expos : List (List KCount)
  pub hops : List ColumnView
  pub close : List ColumnView

-- ---- look-ups

-- the place of a tag, or the number of tags where it is none of them
abbrev pub tag_place : List (List ℕ) → List ℕ → ℕ
tag_place tags t = position_or_len (same_tag t) tags

abbrev pub has_tag : List (List ℕ) → List ℕ → Bool
has_tag tags t = list_any (same_tag t) tags

-- the numbers of the users under a rule
abbrev pub numbers_in : ResultView → Num → List ℕ
numbers_in r num.In = r.ins
numbers_in r num.Out = r.outs
numbers_in r num.Said = r.said
numbers_in r num.Rank = r.ranks

-- the number of a user under a rule: 0 where it is none of the users
abbrev pub number_in : ResultView → Num → User → ℕ
number_in r which u = slice_index (numbers_in r which) (place r.users u)

-- how many users a tag has: none where it isn't in use
abbrev pub tag_users_in : ResultView → List ℕ → ℕ
tag_users_in r t = slice_index r.tag_users (tag_place r.tags t)

-- how many users of a tag have which exposure
abbrev pub expo_in : ResultView → List ℕ → List KCount
expo_in r t = slice_index_or r.expos (tag_place r.tags t) []

abbrev pub no_column : ColumnView
no_column = record { values = []; others = [] }

-- the value of a user in a column
abbrev pub value_of : List User → ColumnView → User → Option ℕ
value_of users c u = if has_user users u then slice_index_or c.values (place users u) None else lookup (same_user u) c.others

-- the value of a user in the column of a landmark's number: none where there is no such landmark
abbrev pub value_in : List User → List ColumnView → ℕ → User → Option ℕ
value_in users columns i u = value_of users (slice_index_or columns i no_column) u

abbrev pub hops_in : ResultView → ℕ → User → Option ℕ
hops_in r i u = value_in r.users r.hops i u

abbrev pub close_in : ResultView → ℕ → User → Option ℕ
close_in r i u = value_in r.users r.close i u

-- how many landmarks there are
abbrev pub landmarks_in : ResultView → ℕ
landmarks_in r = length r.hops

-- they ascend, and none is without users
pub record AreExposures (list : List KCount) : Type 0 where
  pub ascend : IsStrictlySortedBy (λ (a b : KCount). nat_cmp a.k b.k) list
  pub some : All (λ (c : KCount). 0 < c.users) list

-- Users and tags ascend. There is one number of each user and one value in each column. Each tag is in use, and has its exposures. Both
-- rules of walks have a column for each landmark.
pub record IsTabular (r : ResultView) : Type 0 where
  pub users : IsStrictlySortedBy user_cmp r.users
  pub ins : length r.ins ≡ length r.users
  pub outs : length r.outs ≡ length r.users
  pub said : length r.said ≡ length r.users
  pub ranks : length r.ranks ≡ length r.users
  pub tags : IsStrictlySortedBy tag_cmp r.tags
  pub tag_users : length r.tag_users ≡ length r.tags
  pub expos : length r.expos ≡ length r.tags
  pub in_use : All (λ n. 0 < n) r.tag_users
  pub exposures : All AreExposures r.expos
  pub hops : All (λ (c : ColumnView). length c.values ≡ length r.users) r.hops
  pub close : All (λ (c : ColumnView). length c.values ≡ length r.users) r.close
  pub landmarks : length r.close ≡ length r.hops

-- ---- the result of a graph

-- the number of a user of a graph under a rule
abbrev pub number_of : Graph → Num → User → ℕ
number_of g num.In u = in_count g u
number_of g num.Out u = out_count g u
number_of g num.Said u = said g u
number_of g num.Rank u = rank g u

-- a value from the landmark of that number, and none where there is no such landmark
abbrev pub from_landmark : (User → User → Option ℕ) → Option User → User → Option ℕ
from_landmark f None u = None
from_landmark f (Some landmark) u = f landmark u

-- All values are the definitions' on the graph. A user that is no vertex has the number 0 and no value.
pub record IsResult (g : Graph) (landmarks : List User) (r : ResultView) : Type 0 where
  pub users_ascend : IsStrictlySortedBy user_cmp r.users
  pub users : (u : User) → has_user r.users u ≡ has_user (vertices g) u
  pub tags_ascend : IsStrictlySortedBy tag_cmp r.tags
  pub tags : (t : List ℕ) → has_tag r.tags t ≡ has_tag (tags_in g) t
  pub numbers : (which : Num) (u : User) → number_in r which u ≡ (if has_user (vertices g) u then number_of g which u else 0)
  pub tag_users : (t : List ℕ) → tag_users_in r t ≡ tag_count g t
  pub expos : (t : List ℕ) → expo_in r t ≡ exposures g t
  pub columns : landmarks_in r ≡ length landmarks
  pub hops : (i : ℕ) (u : User) → hops_in r i u ≡ from_landmark (hops_of g) (slice_get landmarks i) u
  pub close : (i : ℕ) (u : User) → close_in r i u ≡ from_landmark (close_of g) (slice_get landmarks i) u

-- before any epoch: nobody, no tag, and empty columns
abbrev pub first_result : ℕ → ResultView
first_result landmarks = record {
  epoch = 0;
  users = [];
  ins = [];
  outs = [];
  said = [];
  ranks = [];
  tags = [];
  tag_users = [];
  expos = [];
  hops = replicate landmarks no_column;
  close = replicate landmarks no_column;
}
