-- Who is among the vertices of a graph, and which tags are among those in use.
use Rattle.std.proofs.Common.{◌≡◌, ◌||◌, ◌&&◌, ◌∙◌, ℕ, suc, Bool, true, false, not, List, [], ◌∷◌, refl, sym, ap, ap₂, cond, map}
use Rattle.std.proofs.Common.{filter, arith}
use Rattle.std.specs.List.{list_any}
use Rattle.std.proofs.lemmas.Bool.{ne_eqb}
use Rattle.kin_ids.specs.declared.ids.User.{User}
use Rattle.kin_ids.specs.Users.{same_user, same_tag, has_user}
use Rattle.kin_ids.specs.Graph.{Graph, Edge, Mention, TagUse, outs, ins, mentions_of, mentioners_of, uses_of, tag_users, half_out}
use Rattle.kin_ids.specs.Graph.{half_in, use_at, vertices, tags_in}
use Rattle.kin_ids.proofs.Vertices.{any-map, any-ends, has-vertices, tag-law}
use Rattle.kin_graph.specs.Rows.{is_none}

-- a list is empty where none passes
pub none-filter : {X Y : Type 0} (f : X → Y) (q : X → Bool) (xs : List X) → is_none (map f (filter q xs)) ≡ not (list_any q xs)
none-filter f q [] = refl
none-filter f q (x ∷ xs) = here (q x) (none-filter f q xs)
  where
    here : (b : Bool) → is_none (map f (filter q xs)) ≡ not (list_any q xs) → is_none (map f (cond b (x ∷ filter q xs) (filter q xs)))
        ≡ not (b || list_any q xs)
    here true e = ne_eqb (suc _) 0 (λ k. absurd (omega arith))
    here false e = e

none-any : (a b c d e : Bool) → not (((not a && not b) && (not c && not d)) && not e) ≡ ((a || b) || ((c || d) || e))
none-any true b c d e = refl
none-any false true c d e = refl
none-any false false true d e = refl
none-any false false false true e = refl
none-any false false false false true = refl
none-any false false false false false = refl

-- a user at one end of some link, or at the other
either-end : {X : Type 0} (f h : X → User) (xs : List X) (u : User)
    → (list_any (λ x. same_user u (f x)) xs || list_any (λ x. same_user u (h x)) xs)
    ≡ list_any (λ x. same_user u (f x) || same_user u (h x)) xs
either-end f h xs u = ap₂ (λ (a b : Bool). a || b) (any-map f xs u) (any-map h xs u) ∙ sym (any-ends f h xs u)

-- who has something in the graph is one of its vertices
pub has-something : (g : Graph) (u : User)
    → not (((is_none (outs g u) && is_none (ins g u)) && (is_none (mentions_of g u) && is_none (mentioners_of g u)))
    && is_none (uses_of g u)) ≡ has_user (vertices g) u
has-something g u =
    let a = none-filter half_out (λ (e : Edge). same_user u e.start) g.edges in
    let b = none-filter half_in (λ (e : Edge). same_user u e.end) g.edges in
    let c = none-filter (λ (m : Mention). m.end) (λ (m : Mention). same_user u m.start) g.mentions in
    let d = none-filter (λ (m : Mention). m.start) (λ (m : Mention). same_user u m.end) g.mentions in
    let e = none-filter use_at (λ (t : TagUse). same_user u t.user) g.uses in
    ap not (ap₂ (λ (x y : Bool). x && y) (ap₂ (λ (x y : Bool). x && y) (ap₂ (λ (x y : Bool). x && y) a b)
    (ap₂ (λ (x y : Bool). x && y) c d)) e)
    ∙ (none-any _ _ _ _ _
    ∙ (ap₂ (λ (x y : Bool). x || y) (either-end (λ (e : Edge). e.start) (λ (e : Edge). e.end) g.edges u)
    (ap (λ (x : Bool). x || list_any (λ (t : TagUse). same_user u t.user) g.uses)
    (either-end (λ (m : Mention). m.start) (λ (m : Mention). m.end) g.mentions u))
    ∙ sym (has-vertices g u)))

not-not : (b : Bool) → not (not b) ≡ b
not-not true = refl
not-not false = refl

-- a tag that somebody has used is one of those in use
pub has-users : (g : Graph) (t : List ℕ) → not (is_none (tag_users g t)) ≡ list_any (same_tag t) (tags_in g)
has-users g t =
    let none : is_none (tag_users g t) ≡ not (list_any (λ (x : TagUse). same_tag t x.tag) g.uses) = none-filter (λ (x : TagUse). x.user)
    (λ (x : TagUse). same_tag t x.tag) g.uses in
    ap not none ∙ (not-not (list_any (λ (x : TagUse). same_tag t x.tag) g.uses) ∙ sym ((tag-law g).exact t))
