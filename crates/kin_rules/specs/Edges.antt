-- Edges by place: of each user, the places of the ends of its edges.
use Rattle.std.specs.Prelude.{◌≡◌, ◌≤◌, ◌^◌, ℕ, length, true, List, [], ◌∷◌, get_or, map, slice_range}
use Rattle.std.specs.List.{filter_map}
use Rattle.std.specs.List.Sorted.{IsStrictlySortedBy}
use Rattle.kin_ids.specs.declared.ids.User.{User}
use Rattle.kin_ids.specs.Users.{has_user, user_cmp}
use Rattle.kin_ids.specs.Graph.{Graph, vertices}
use Rattle.kin_ids.specs.Parts.{PartView}
use Rattle.kin_ids.specs.Wholes.{IsViewOf}
use Rattle.kin_graph.specs.Views.{IsSmall}
use Rattle.kin_rules.specs.declared.kinds.EdgeKind.TheVariants as kind
use Rattle.kin_rules.specs.Nets.{ends_of}
use Rattle.kin_rules.specs.Places.{place, found}

-- rows that stand one after the other in a flat list: where the first one starts, and where each one stops
abbrev pub rows_from : ℕ → List ℕ → List ℕ → List (List ℕ)
rows_from start [] ends = []
rows_from start (stop ∷ stops) ends = slice_range ends start stop ∷ rows_from stop stops ends

-- each row stops where it starts or later, the last one at n
abbrev pub AreStops : ℕ → List ℕ → ℕ → Type 0
AreStops start [] n = start ≡ n
AreStops start (stop ∷ stops) n = (start ≤ stop) × AreStops stop stops n

-- the places of those of these who are among the users
abbrev pub places_of : List User → List User → List ℕ
places_of users ends = filter_map (found users) ends

-- for each user, the places of its ends
abbrev pub rows_of : List User → (User → List User) → List (List ℕ)
rows_of users ends = map (λ u. places_of users (ends u)) users

-- the ends of the follow edges ever added out of a user, as a view has them
abbrev pub followed : PartView → User → List User
followed v u = map (λ h. h.other) (v.out u)

-- the row of each user has the places of its ends, each of which is one of the users, and no others
abbrev pub AreEnds : List User → (User → List User) → List (List ℕ) → Type 0
AreEnds users ends rows = (w : User) → has_user users w ≡ true
    → (row : List User) × (get_or rows (place users w) [] ≡ map (place users) row)
    × ((u : User) → has_user row u ≡ has_user (ends w) u)

-- the vertices of a graph, ascending, and the edges between them by place
pub record AreEdgesOf (g : Graph) (users : List User) (follows mentions : List (List ℕ)) : Type 0 where
  pub ascend : IsStrictlySortedBy user_cmp users
  pub vertices : (u : User) → has_user users u ≡ has_user (vertices g) u
  pub follow_rows : AreEnds users (ends_of g kind.Follow) follows
  pub mention_rows : AreEnds users (ends_of g kind.Mention) mentions

-- a view of a whole graph with few vertices is small
abbrev pub FewIsSmall : Type 0
FewIsSmall = (g : Graph) (v : PartView) → IsViewOf g v → length (vertices g) ≤ 2 ^ 27 → IsSmall v
