-- The vertices of a graph, and its tags in use.
use Rattle.std.specs.Prelude.{ℕ, ◌≡◌, ◌≤◌, ◌*◌, List, All, length}
use Rattle.std.specs.List.{list_any}
use Rattle.kin_ids.specs.Types.{User}
use Rattle.kin_ids.specs.Users.{same_user, same_tag, has_user}
use Rattle.kin_ids.specs.Graph.{Graph, empty_graph, vertices, is_vertex_of, tags_in, is_tag_of}
use Rattle.kin_ids.specs.Order.{Entry, folded}
use Rattle.kin_ids.specs.Follows.{IsOnce}
use Rattle.kin_ids.specs.Sizes.{IsSmall}

-- the list has exactly the vertices, each once
pub record AreVerticesOf (g : Graph) (us : List User) : Type 0 where
  pub exact : (u : User) → has_user us u ≡ is_vertex_of g u
  pub once : IsOnce same_user us

abbrev pub VertexLaw : Type 0
VertexLaw = (g : Graph) → AreVerticesOf g (vertices g)

-- the list has exactly the tags in use, each once
pub record AreTagsOf (g : Graph) (ts : List (List ℕ)) : Type 0 where
  pub exact : (t : List ℕ) → list_any (same_tag t) ts ≡ is_tag_of g t
  pub once : IsOnce same_tag ts

abbrev pub TagLaw : Type 0
TagLaw = (g : Graph) → AreTagsOf g (tags_in g)

-- so many records within the limits make few vertices
abbrev pub FewVerticesLaw : Type 0
FewVerticesLaw = (xs : List Entry) → All (λ (x : Entry). IsSmall x.content) xs → length (vertices (folded empty_graph xs)) ≤ 17 * length xs
