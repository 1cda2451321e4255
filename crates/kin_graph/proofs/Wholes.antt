-- What a view of a whole graph has is the graph's.
use Rattle.std.proofs.Common.{◌≡◌, ◌&&◌, ◌∙◌, ℕ, Bool, not, eqb, List, map, sym, ap, ap₂}
use Rattle.std.specs.List.{list_any}
use Rattle.std.specs.List.Sorted.{IsPermutation}
use Rattle.std.proofs.lemmas.List.Sorted.{length_permutation, list_any-IsPermutation}
use Rattle.kin_ids.specs.declared.ids.User.{User}
use Rattle.kin_ids.specs.declared.ops.Half.{Half}
use Rattle.kin_ids.specs.Users.{same_user, same_tag, has_user}
use Rattle.kin_ids.specs.Graph.{Graph, outs, mentions_of, mentioners_of, vertices, tags_in}
use Rattle.kin_ids.specs.Parts.{PartView}
use Rattle.kin_ids.specs.Wholes.{IsViewOf}
use Rattle.kin_graph.specs.Rows.{is_none}
use Rattle.kin_graph.specs.Views.{is_vertex, is_in_use, AreVertices}
use Rattle.kin_graph.proofs.Members.{has-something, has-users}

none-permutation : {X : Type 0} (xs ys : List X) → IsPermutation xs ys → is_none xs ≡ is_none ys
none-permutation xs ys h = ap (λ (n : ℕ). eqb n 0) (sym (length_permutation xs ys h))

module _ (g : Graph) (v : PartView) (whole : IsViewOf g v) where
  -- its vertices are the graph's
  pub whole-vertex : (u : User) → is_vertex v u ≡ has_user (vertices g) u
  whole-vertex u =
      let a = ap is_none (whole.out u) in
      let b = ap is_none (whole.inn u) in
      let c = none-permutation _ _ (whole.mentions u) in
      let d = none-permutation _ _ (whole.mentioners u) in
      let e = none-permutation _ _ (whole.uses u) in
      ap not (ap₂ (λ (x y : Bool). x && y) (ap₂ (λ (x y : Bool). x && y) (ap₂ (λ (x y : Bool). x && y) a b)
      (ap₂ (λ (x y : Bool). x && y) c d)) e) ∙ has-something g u

  -- the tags in use are the graph's
  pub whole-in_use : (t : List ℕ) → is_in_use v t ≡ list_any (same_tag t) (tags_in g)
  whole-in_use t = ap not (none-permutation _ _ (whole.tag_users t)) ∙ has-users g t

  -- the users whom somebody follows or followed, mentions, or is mentioned by, are the graph's
  pub whole-follows : (w u : User) → has_user (map (λ h. h.other) (v.out w)) u ≡ has_user (map (λ h. h.other) (outs g w)) u
  whole-follows w u = ap (λ (hs : List Half). has_user (map (λ h. h.other) hs) u) (whole.out w)

  pub whole-mentions : (w u : User) → has_user (v.mentions w) u ≡ has_user (mentions_of g w) u
  whole-mentions w u = list_any-IsPermutation (same_user u) (v.mentions w) (mentions_of g w) (whole.mentions w)

  pub whole-mentioners : (w u : User) → has_user (v.mentioners w) u ≡ has_user (mentioners_of g w) u
  whole-mentioners w u = list_any-IsPermutation (same_user u) (v.mentioners w) (mentioners_of g w) (whole.mentioners w)

  -- the ascending vertices of the view are the vertices of the graph
  pub whole-vertices : (us : List User) → AreVertices v us → (u : User) → has_user us u ≡ has_user (vertices g) u
  whole-vertices us are u = are.all u ∙ whole-vertex u
