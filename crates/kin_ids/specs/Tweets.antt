-- What tweets leave of a graph: mention edges, how often users are mentioned, and first uses of tags.
use Rattle.std.specs.Prelude.{ℕ, ◌≡◌, ◌&&◌, Bool, false, List, Option, count_by, sum_by}
use Rattle.std.specs.List.{list_any, find}
use Rattle.std.specs.Option.{option_map}
use Rattle.kin_ids.specs.Types.{User, Place, Item, Record}
use Rattle.kin_ids.specs.declared.ops.Item.TheVariants as item
use Rattle.kin_ids.specs.declared.ops.Record.TheVariants as record_kind
use Rattle.kin_ids.specs.Users.{same_user, same_tag}
use Rattle.kin_ids.specs.Graph.{Graph, empty_graph, is_mention, is_use, said}
use Rattle.kin_ids.specs.Order.{Entry, folded}

-- whether an item mentions a user
abbrev pub mentions_user : User → Item → Bool
mentions_user w (item.At v) = same_user w v
mentions_user w (item.Hash t) = false

-- whether an item uses a tag
abbrev pub uses_tag : List ℕ → Item → Bool
uses_tag t (item.At v) = false
uses_tag t (item.Hash s) = same_tag t s

-- whether a record is a tweet by u with a mention of w
abbrev pub is_mentioning : User → User → Record → Bool
is_mentioning u w (record_kind.Follow a b) = false
is_mentioning u w (record_kind.Unfollow a b) = false
is_mentioning u w (record_kind.Tweet a items) = same_user u a && list_any (mentions_user w) items
is_mentioning u w record_kind.Bad = false

-- whether a record is a tweet by u with a use of a tag
abbrev pub is_using : User → List ℕ → Record → Bool
is_using u t (record_kind.Follow a b) = false
is_using u t (record_kind.Unfollow a b) = false
is_using u t (record_kind.Tweet a items) = same_user u a && list_any (uses_tag t) items
is_using u t record_kind.Bad = false

-- how many items of a record mention a user, repeats included
abbrev pub said_in : User → Record → ℕ
said_in w (record_kind.Follow a b) = 0
said_in w (record_kind.Unfollow a b) = 0
said_in w (record_kind.Tweet a items) = count_by (mentions_user w) items
said_in w record_kind.Bad = 0

-- whether there is a mention edge from u to w
abbrev pub has_mention : Graph → User → User → Bool
has_mention g u w = list_any (is_mention u w) g.mentions

-- where a user used a tag first
abbrev pub used_at : Graph → User → List ℕ → Option Place
used_at g u t = option_map (λ x. x.first) (find (is_use u t) g.uses)

-- the place of the first tweet by u among these with a use of the tag
abbrev pub first_use : User → List ℕ → List Entry → Option Place
first_use u t xs = option_map (λ x. x.place) (find (λ x. is_using u t x.content) xs)

-- There is a mention edge exactly where some tweet of its start has the item; a user was said as often as items mention it; and the
-- first use of a tag by a user is at the place of the first tweet of the user with the item.
pub record AreHeard (xs : List Entry) (u w : User) (t : List ℕ) : Type 0 where
  pub mention : has_mention (folded empty_graph xs) u w ≡ list_any (λ x. is_mentioning u w x.content) xs
  pub said : said (folded empty_graph xs) w ≡ sum_by (λ (x : Entry). said_in w x.content) xs
  pub first : used_at (folded empty_graph xs) u t ≡ first_use u t xs

abbrev pub TweetLaw : Type 0
TweetLaw = (xs : List Entry) (u w : User) (t : List ℕ) → AreHeard xs u w t
