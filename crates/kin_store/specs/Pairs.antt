-- Pairs of users, and of a tag and a user, and what is noted of them.
use Rattle.std.specs.Prelude.{ℕ, Bool, List, Option}
use Rattle.std.specs.Map.{lookup}
use Rattle.std.specs.BTreeMap.{is_at}
use Rattle.std.specs.Ordering.{ordering_then}
use Rattle.std.specs.declared.cmp.Ordering.{Ordering}
use Rattle.kin_ids.specs.declared.ids.User.{User}
use Rattle.kin_ids.specs.Users.{user_cmp, tag_cmp}
use Rattle.kin_store.specs.declared.pairs.Pair.{Pair}
use Rattle.kin_store.specs.declared.pairs.TagUser.{TagUser}

abbrev pub pair : User → User → Pair
pair u w = record { user = u; other = w }

abbrev pub tag_user : List ℕ → User → TagUser
tag_user t u = record { tag = t; user = u }

-- by the users, then by the others
abbrev pub pair_cmp : Pair → Pair → Ordering
pair_cmp a b = ordering_then (user_cmp a.user b.user) (user_cmp a.other b.other)

abbrev pub same_pair : Pair → Pair → Bool
same_pair a b = is_at (pair_cmp a) b

-- by the tags, then by the users
abbrev pub tag_user_cmp : TagUser → TagUser → Ordering
tag_user_cmp a b = ordering_then (tag_cmp a.tag b.tag) (user_cmp a.user b.user)

abbrev pub same_tag_user : TagUser → TagUser → Bool
same_tag_user a b = is_at (tag_user_cmp a) b

-- the place that is noted of a pair
abbrev pub noted : List (Pair × ℕ) → Pair → Option ℕ
noted places p = lookup (same_pair p) places

abbrev pub tag_noted : List (TagUser × ℕ) → TagUser → Option ℕ
tag_noted places p = lookup (same_tag_user p) places
