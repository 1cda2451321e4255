-- Who is a vertex of what is handed out, which tags are in use, and how many vertices there are.
use Rattle.std.specs.Prelude.{ℕ, ◌≡◌, ◌≤◌, ◌^◌, ◌&&◌, not, Bool, List, length}
use Rattle.std.specs.List.Sorted.{IsStrictlySortedBy}
use Rattle.kin_ids.specs.declared.ids.User.{User}
use Rattle.kin_ids.specs.Users.{has_user, user_cmp}
use Rattle.kin_ids.specs.Parts.{PartView}
use Rattle.kin_graph.specs.Rows.{is_none}

-- a user in a follow edge ever added, in a mention edge or in a use
abbrev pub is_vertex : PartView → User → Bool
is_vertex v u = not (((is_none (v.out u) && is_none (v.inn u)) && (is_none (v.mentions u) && is_none (v.mentioners u)))
    && is_none (v.uses u))

-- a tag that somebody has used
abbrev pub is_in_use : PartView → List ℕ → Bool
is_in_use v t = not (is_none (v.tag_users t))

-- the vertices of a view, ascending
pub record AreVertices (v : PartView) (us : List User) : Type 0 where
  pub ascend : IsStrictlySortedBy user_cmp us
  pub all : (u : User) → has_user us u ≡ is_vertex v u

-- a view has at most 2^27 vertices
abbrev pub IsSmall : PartView → Type 0
IsSmall v = (us : List User) → AreVertices v us → length us ≤ 2 ^ 27
