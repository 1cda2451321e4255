-- One whole graph, and what a record does to it.
use Rattle.std.specs.Prelude.{ℕ, ◌&&◌, ◌||◌, Bool, true, false, List, [], ◌∷◌, ◌++◌, if◌then◌else◌, filter, map, count_by}
use Rattle.std.specs.List.{list_any}
use Rattle.kin_ids.specs.Types.{User, Place, Item, Record, Half, Use}
use Rattle.kin_ids.specs.declared.ops.Item.TheVariants as item
use Rattle.kin_ids.specs.declared.ops.Record.TheVariants as record_kind
use Rattle.kin_ids.specs.Users.{same_user, same_tag, has_user}

-- a follow edge that was ever added: whether it is present, and where it was first added
pub record Edge : Type 0 where
  pub start : User
  pub end : User
  pub present : Bool
  pub added : Place

-- a mention edge
pub record Mention : Type 0 where
  pub start : User
  pub end : User

-- a tag that a user has used, and where first
pub record TagUse : Type 0 where
  pub user : User
  pub tag : List ℕ
  pub first : Place

-- A graph: the follow edges ever added in the order of first adding, the mention edges, the user of each mentioning item,
-- and the first uses of tags.
pub record Graph : Type 0 where
  pub edges : List Edge
  pub mentions : List Mention
  pub mentioned : List User
  pub uses : List TagUse

-- a graph with nothing
abbrev pub empty_graph : Graph
empty_graph = record { edges = []; mentions = []; mentioned = []; uses = [] }

-- whether an edge is the one from u to v
abbrev pub is_edge : User → User → Edge → Bool
is_edge u v e = same_user u e.start && same_user v e.end

-- whether a mention edge is the one from u to w
abbrev pub is_mention : User → User → Mention → Bool
is_mention u w m = same_user u m.start && same_user w m.end

-- whether a use is that of a tag by u
abbrev pub is_use : User → List ℕ → TagUse → Bool
is_use u t x = same_user u x.user && same_tag t x.tag

-- the edge is present from here on; where it was never added, its place is this one
abbrev pub with_follow : User → User → Place → List Edge → List Edge
with_follow u v at [] = record { start = u; end = v; present = true; added = at } ∷ []
with_follow u v at (e ∷ es) = if is_edge u v e then record e { present = true } ∷ es else e ∷ with_follow u v at es

-- the edge is present no longer
abbrev pub without_follow : User → User → List Edge → List Edge
without_follow u v [] = []
without_follow u v (e ∷ es) = if is_edge u v e then record e { present = false } ∷ es else e ∷ without_follow u v es

-- the mention edge is there
abbrev pub with_mention : User → User → List Mention → List Mention
with_mention u w ms = if list_any (is_mention u w) ms then ms else ms ++ record { start = u; end = w } ∷ []

-- the use is there; the place of the first one stays
abbrev pub with_use : User → List ℕ → Place → List TagUse → List TagUse
with_use u t at xs = if list_any (is_use u t) xs then xs else xs ++ record { user = u; tag = t; first = at } ∷ []

-- what an item of a tweet by u does
abbrev pub item_applied : User → Place → Graph → Item → Graph
item_applied u at g (item.At w) = record g { mentions = with_mention u w g.mentions; mentioned = g.mentioned ++ w ∷ [] }
item_applied u at g (item.Hash t) = record g { uses = with_use u t at g.uses }

-- what items of a tweet by u do, in order
abbrev pub items_applied : User → Place → Graph → List Item → Graph
items_applied u at g [] = g
items_applied u at g (x ∷ xs) = items_applied u at (item_applied u at g x) xs

-- what a record does to a graph
abbrev pub applied : Place → Graph → Record → Graph
applied at g (record_kind.Follow u v) = record g { edges = with_follow u v at g.edges }
applied at g (record_kind.Unfollow u v) = record g { edges = without_follow u v g.edges }
applied at g (record_kind.Tweet u items) = items_applied u at g items
applied at g record_kind.Bad = g

-- the half of an edge at its start
abbrev pub half_out : Edge → Half
half_out e = record { other = e.end; present = e.present; added = e.added }

-- and at its end
abbrev pub half_in : Edge → Half
half_in e = record { other = e.start; present = e.present; added = e.added }

-- the follow halves out of a user, in the order of first adding
abbrev pub outs : Graph → User → List Half
outs g u = map half_out (filter (λ e. same_user u e.start) g.edges)

-- and into it
abbrev pub ins : Graph → User → List Half
ins g u = map half_in (filter (λ e. same_user u e.end) g.edges)

-- the users whom a user mentions
abbrev pub mentions_of : Graph → User → List User
mentions_of g u = map (λ m. m.end) (filter (λ m. same_user u m.start) g.mentions)

-- the users who mention it
abbrev pub mentioners_of : Graph → User → List User
mentioners_of g u = map (λ m. m.start) (filter (λ m. same_user u m.end) g.mentions)

-- how many items mention a user, repeats included
abbrev pub said : Graph → User → ℕ
said g u = count_by (same_user u) g.mentioned

-- a use as its user sees it
abbrev pub use_at : TagUse → Use
use_at x = record { tag = x.tag; first = x.first }

-- the first uses of tags by a user
abbrev pub uses_of : Graph → User → List Use
uses_of g u = map use_at (filter (λ x. same_user u x.user) g.uses)

-- the users of a tag
abbrev pub tag_users : Graph → List ℕ → List User
tag_users g t = map (λ x. x.user) (filter (λ x. same_tag t x.tag) g.uses)

-- those seen, and then each of the others once
abbrev pub distinct_onto : List User → List User → List User
distinct_onto seen [] = seen
distinct_onto seen (u ∷ us) = if has_user seen u then distinct_onto seen us else distinct_onto (seen ++ u ∷ []) us

-- each of these once, at its first place in the list
abbrev pub distinct : List User → List User
distinct us = distinct_onto [] us

-- whether a user is a vertex: in a follow edge ever added, in a mention edge or in a use
abbrev pub is_vertex_of : Graph → User → Bool
is_vertex_of g u = list_any (λ e. same_user u e.start || same_user u e.end) g.edges
    || (list_any (λ m. same_user u m.start || same_user u m.end) g.mentions || list_any (λ x. same_user u x.user) g.uses)

-- the vertices, each once
abbrev pub vertices : Graph → List User
vertices g = distinct ((map (λ e. e.start) g.edges ++ map (λ e. e.end) g.edges)
    ++ (map (λ m. m.start) g.mentions ++ map (λ m. m.end) g.mentions) ++ map (λ x. x.user) g.uses)

-- whether some user used a tag
abbrev pub is_tag_of : Graph → List ℕ → Bool
is_tag_of g t = list_any (λ x. same_tag t x.tag) g.uses

-- the tags of these uses that weren't seen, each once
abbrev pub distinct_tags : List (List ℕ) → List TagUse → List (List ℕ)
distinct_tags seen [] = seen
distinct_tags seen (x ∷ xs) = if list_any (same_tag x.tag) seen then distinct_tags seen xs else distinct_tags (seen ++ x.tag ∷ []) xs

-- the tags in use, each once
abbrev pub tags_in : Graph → List (List ℕ)
tags_in g = distinct_tags [] g.uses
