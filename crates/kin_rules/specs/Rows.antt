-- Worked rows: the rules evaluated on small graphs.
use Rattle.std.specs.Prelude.{◌≡◌, ◌==◌, ℕ, List, [], ◌∷◌, Option, Some, None, if◌then◌else◌, map, codes}
use Rattle.kin_ids.specs.declared.ids.User.{User}
use Rattle.kin_ids.specs.declared.ops.Item.{Item}
use Rattle.kin_ids.specs.declared.ops.Item.TheVariants as item
use Rattle.kin_ids.specs.declared.ops.Record.{Record}
use Rattle.kin_ids.specs.declared.ops.Record.TheVariants as content
use Rattle.kin_ids.specs.Graph.{Graph, vertices, tags_in, said}
use Rattle.kin_ids.specs.Order.{snapshot}
use Rattle.kin_rules.specs.declared.numbers.UserNumber.{UserNumber}
use Rattle.kin_rules.specs.Counts.{in_count, out_count, tag_count}
use Rattle.kin_rules.specs.Nets.{hops_of, close_of, valued_users}
use Rattle.kin_rules.specs.Ranks.{rank_at, rank}
use Rattle.kin_rules.specs.Exposure.{exposure}
use Rattle.kin_rules.specs.Top.{top_users}

abbrev pub user : ℕ → User
user n = record { 0 = n }

abbrev pub follow : ℕ → ℕ → Record
follow u v = content.Follow (user u) (user v)

abbrev pub unfollow : ℕ → ℕ → Record
unfollow u v = content.Unfollow (user u) (user v)

abbrev pub tweet : ℕ → List Item → Record
tweet u items = content.Tweet (user u) items

-- the graph of the first n records of each feed, all in one epoch
abbrev pub graph_of : List (List Record) → ℕ → Graph
graph_of feeds n = snapshot feeds (λ e i. if e == 0 then 0 else n) 1

-- the values of these users under a rule
abbrev pub at : {A : Type 0} → (User → A) → List ℕ → List A
at f us = map (λ n. f (user n)) us

-- the exposures of a tag, from 0 users on
abbrev pub exposure_row : Graph → List ℕ → List ℕ → List ℕ
exposure_row g t ks = map (exposure g t) ks

abbrev pub entry : ℕ → ℕ → UserNumber
entry u n = record { user = user u; number = n }

-- the top list of the users with a value under a rule
abbrev pub top_of : Graph → (User → Option ℕ) → ℕ → List UserNumber
top_of g f t = top_users (valued_users f (vertices g)) t

-- the greatest user and the least one; the longest tag
abbrev pub limits : Graph
limits = graph_of ((follow 4294967295 0 ∷ tweet 0 (item.Hash (codes "abcdefghijklmnopqrstuvwx") ∷ []) ∷ content.Bad ∷ []) ∷ []) 3

pub record LimitsRow : Type 0 where
  pub in_counts : at (in_count limits) (0 ∷ 4294967295 ∷ []) ≡ 1 ∷ 0 ∷ []
  pub out_counts : at (out_count limits) (0 ∷ 4294967295 ∷ []) ≡ 0 ∷ 1 ∷ []
  pub ranks : at (rank limits) (0 ∷ 4294967295 ∷ []) ≡ 1000000 ∷ 0 ∷ []
  pub tags : tags_in limits ≡ codes "abcdefghijklmnopqrstuvwx" ∷ []
  pub tag_users : tag_count limits (codes "abcdefghijklmnopqrstuvwx") ≡ 1
  pub exposed : exposure_row limits (codes "abcdefghijklmnopqrstuvwx") (0 ∷ 1 ∷ []) ≡ 1 ∷ 0 ∷ []

-- a chain of five users, and then an edge that shortens it
abbrev pub chain : ℕ → Graph
chain n = graph_of ((follow 1 2 ∷ follow 2 3 ∷ follow 3 4 ∷ follow 4 5 ∷ follow 1 4 ∷ []) ∷ []) n

pub record ChainRow : Type 0 where
  pub long : at (hops_of (chain 4) (user 1)) (1 ∷ 2 ∷ 3 ∷ 4 ∷ 5 ∷ []) ≡ Some 0 ∷ Some 1 ∷ Some 2 ∷ Some 3 ∷ Some 4 ∷ []
  pub long_top : top_of (chain 4) (hops_of (chain 4) (user 1)) 10 ≡ entry 5 4 ∷ entry 4 3 ∷ entry 3 2 ∷ entry 2 1 ∷ []
  pub short : at (hops_of (chain 5) (user 1)) (1 ∷ 2 ∷ 3 ∷ 4 ∷ 5 ∷ []) ≡ Some 0 ∷ Some 1 ∷ Some 2 ∷ Some 1 ∷ Some 2 ∷ []
  pub short_top : top_of (chain 5) (hops_of (chain 5) (user 1)) 10 ≡ entry 3 2 ∷ entry 5 2 ∷ entry 2 1 ∷ entry 4 1 ∷ []
  pub cut : top_of (chain 5) (hops_of (chain 5) (user 1)) 3 ≡ entry 3 2 ∷ entry 5 2 ∷ entry 2 1 ∷ []

-- 1 follows 2, who used the tag before, and 3, who used it after
abbrev pub uses : Graph
uses = graph_of ((follow 1 2 ∷ follow 1 3 ∷ tweet 2 (item.Hash (codes "go") ∷ []) ∷ tweet 1 (item.Hash (codes "go") ∷ []) ∷ tweet 3 (item.Hash (codes "go") ∷ []) ∷ []) ∷ []) 5

pub record UsesRow : Type 0 where
  pub tag_users : tag_count uses (codes "go") ≡ 3
  pub exposed : exposure_row uses (codes "go") (0 ∷ 1 ∷ 2 ∷ []) ≡ 2 ∷ 1 ∷ 0 ∷ []

-- two users who follow each other
abbrev pub ring : Graph
ring = graph_of ((follow 1 2 ∷ follow 2 1 ∷ []) ∷ []) 2

pub record RingRow : Type 0 where
  pub layers : map (λ r. rank_at ring r (user 1)) (0 ∷ 1 ∷ 2 ∷ 3 ∷ 4 ∷ 5 ∷ 6 ∷ 7 ∷ 8 ∷ []) ≡ 0 ∷ 1000000 ∷ 1500000 ∷ 1750000 ∷ 1875000 ∷ 1937500 ∷ 1968750 ∷ 1984375 ∷ 1992187 ∷ []
  pub ranks : at (rank ring) (1 ∷ 2 ∷ []) ≡ 1992187 ∷ 1992187 ∷ []
  pub in_counts : at (in_count ring) (1 ∷ 2 ∷ []) ≡ 1 ∷ 1 ∷ []
  pub out_counts : at (out_count ring) (1 ∷ 2 ∷ []) ≡ 1 ∷ 1 ∷ []

-- a follow edge from 1 to 2, and a detour over mentions that is closer; 9 is no vertex
abbrev pub detour : Graph
detour = graph_of ((follow 1 2 ∷ tweet 1 (item.At (user 3) ∷ []) ∷ tweet 3 (item.At (user 2) ∷ []) ∷ []) ∷ []) 3

pub record DetourRow : Type 0 where
  pub hops : at (hops_of detour (user 1)) (1 ∷ 2 ∷ 3 ∷ 9 ∷ []) ≡ Some 0 ∷ Some 1 ∷ None ∷ None ∷ []
  pub no_hops : at (hops_of detour (user 9)) (1 ∷ 2 ∷ 3 ∷ 9 ∷ []) ≡ None ∷ None ∷ None ∷ None ∷ []
  pub close : at (close_of detour (user 1)) (1 ∷ 2 ∷ 3 ∷ 9 ∷ []) ≡ Some 0 ∷ Some 2 ∷ Some 1 ∷ None ∷ []
  pub no_close : at (close_of detour (user 9)) (1 ∷ 2 ∷ 3 ∷ 9 ∷ []) ≡ None ∷ None ∷ None ∷ None ∷ []

-- two feeds of users who follow each other and use a tag; 102 follows 7 no longer
abbrev pub launch : Graph
launch = graph_of
    ((follow 101 7 ∷ follow 102 7 ∷ tweet 7 (item.Hash (codes "launch") ∷ []) ∷ tweet 101 (item.Hash (codes "launch") ∷ item.At (user 7) ∷ []) ∷ [])
    ∷ (follow 103 101 ∷ tweet 102 (item.At (user 7) ∷ item.Hash (codes "launch") ∷ []) ∷ unfollow 102 7 ∷ follow 7 103 ∷ [])
    ∷ []) 4

pub record LaunchRow : Type 0 where
  pub in_counts : at (in_count launch) (7 ∷ 101 ∷ 102 ∷ 103 ∷ []) ≡ 1 ∷ 1 ∷ 0 ∷ 1 ∷ []
  pub out_counts : at (out_count launch) (7 ∷ 101 ∷ 102 ∷ 103 ∷ []) ≡ 1 ∷ 1 ∷ 0 ∷ 1 ∷ []
  pub said : at (said launch) (7 ∷ 101 ∷ 102 ∷ 103 ∷ []) ≡ 2 ∷ 0 ∷ 0 ∷ 0 ∷ []
  pub tag_users : tag_count launch (codes "launch") ≡ 3
  pub ranks : at (rank launch) (7 ∷ 101 ∷ 102 ∷ 103 ∷ []) ≡ 1992187 ∷ 1992187 ∷ 0 ∷ 1992187 ∷ []
  pub exposed : exposure_row launch (codes "launch") (0 ∷ 1 ∷ 2 ∷ []) ≡ 2 ∷ 1 ∷ 0 ∷ []
  pub hops : at (hops_of launch (user 7)) (7 ∷ 101 ∷ 102 ∷ 103 ∷ []) ≡ Some 0 ∷ Some 2 ∷ None ∷ Some 1 ∷ []
  pub close : at (close_of launch (user 7)) (7 ∷ 101 ∷ 102 ∷ 103 ∷ []) ≡ Some 0 ∷ Some 6 ∷ None ∷ Some 3 ∷ []
