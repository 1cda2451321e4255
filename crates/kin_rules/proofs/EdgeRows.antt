-- Rows of places, and the edges of a graph that they stand for.
use Rattle.std.proofs.Common.{◌≡◌, ◌≤◌, ◌<◌, ◌+◌, ◌-◌, ◌∙◌, ◌||◌, ◌&&◌, ℕ, zero, suc, Bool, true, false, List, [], ◌∷◌, ◌++◌, Option, Some, None, length, length-append, get_or, map, take, drop, if◌then◌else◌, arith, refl, sym, ap, ap₂, subst}
use Rattle.std.specs.Prelude.{slice_range}
use Rattle.std.proofs.lemmas.Bool.{both_ways}
use Rattle.std.proofs.lemmas.List.{get_or_past, drop-append-le, take-append-le, length-drop}
use Rattle.std.proofs.Math.Seq.{drop-append_seam, take-length}
use Rattle.kin_ids.specs.declared.ids.User.{User}
use Rattle.kin_ids.specs.Users.{same_user, has_user}
use Rattle.kin_ids.specs.Graph.{Graph, vertices}
use Rattle.kin_ids.specs.Parts.{PartView}
use Rattle.kin_ids.specs.Wholes.{IsViewOf}
use Rattle.kin_ids.proofs.Same.{same_user-true}
use Rattle.kin_graph.specs.Views.{AreVertices}
use Rattle.kin_graph.proofs.Wholes.{whole-vertices, whole-follows, whole-mentions}
use Rattle.kin_rules.specs.declared.kinds.EdgeKind.TheVariants as kind
use Rattle.kin_rules.specs.Walks.{Rule, Net, IsWhole, IsRule, cost, IsWalk, Step, Under, AtMost}
use Rattle.kin_rules.specs.Costs.{least_cost, IsLeastCost}
use Rattle.kin_rules.specs.Nets.{ends_of, net_of, net_on}
use Rattle.kin_rules.specs.Places.{place, found}
use Rattle.kin_rules.specs.Edges.{places_of, rows_of, followed, rows_from, AreStops, AreEnds, AreEdgesOf}
use Rattle.kin_rules.proofs.LeastCosts.{between, least-law}
use Rattle.kin_rules.proofs.Nets.{nets-whole}
use Rattle.kin_rules.proofs.Places.{map-place}

-- of these, those who are among the users
abbrev kept : List User → List User → List User
kept us [] = []
kept us (e ∷ es) = if has_user us e then e ∷ kept us es else kept us es

places-kept : (us es : List User) → places_of us es ≡ map (place us) (kept us es)
places-kept us [] = refl
places-kept us (e ∷ es) = here (has_user us e) refl (places-kept us es)
  where
    here : (b : Bool) → has_user us e ≡ b → places_of us es ≡ map (place us) (kept us es) → places_of us (e ∷ es) ≡ map (place us) (if b then e ∷ kept us es else kept us es)
    here true h more = rw h (ap (λ (ps : List ℕ). place us e ∷ ps) more)
    here false h more = rw h more

has-kept : (us es : List User) (u : User) → has_user (kept us es) u ≡ (has_user us u && has_user es u)
has-kept us [] u = none (has_user us u)
  where
    none : (b : Bool) → false ≡ (b && false)
    none true = refl
    none false = refl
has-kept us (e ∷ es) u = here (has_user us e) refl (same_user u e) refl (has-kept us es u)
  where
    here : (b : Bool) → has_user us e ≡ b → (a : Bool) → same_user u e ≡ a → has_user (kept us es) u ≡ (has_user us u && has_user es u)
        → has_user (if b then e ∷ kept us es else kept us es) u ≡ (has_user us u && (a || has_user es u))
    here true h true q more = let t : has_user us u ≡ true = subst (λ (y : User). has_user us y ≡ true) (sym (same_user-true u e q)) h in rw (q, t) refl
    here true h false q more = rw q more
    here false h true q more = let t : has_user us u ≡ false = subst (λ (y : User). has_user us y ≡ false) (sym (same_user-true u e q)) h in more ∙ rw t refl
    here false h false q more = more

-- rows of places have the ends, where those are users
pub rows-ends : (us : List User) (seen ends : User → List User) → ((w u : User) → has_user (seen w) u ≡ has_user (ends w) u)
    → ((w u : User) → has_user (ends w) u ≡ true → has_user us u ≡ true) → AreEnds us ends (rows_of us seen)
rows-ends us seen ends same inside w there =
    (kept us (seen w), map-place (λ (u : User). places_of us (seen u)) us w [] there ∙ places-kept us (seen w), members)
  where
    members : (u : User) → has_user (kept us (seen w)) u ≡ has_user (ends w) u
    members u = has-kept us (seen w) u ∙ ap (λ (b : Bool). has_user us u && b) (same w u) ∙ here (has_user (ends w) u) refl
      where
        drop-true : (a : Bool) → a ≡ true → (a && true) ≡ true
        drop-true true e = refl
        drop-true false e = e

        none : (a : Bool) → (a && false) ≡ false
        none true = refl
        none false = refl

        here : (b : Bool) → has_user (ends w) u ≡ b → (has_user us u && b) ≡ b
        here true e = drop-true (has_user us u) (inside w u e)
        here false e = none (has_user us u)

-- a row stands between where it starts and where it stops
pub row-at : (start : ℕ) (stops ends : List ℕ) (i : ℕ) → i < length stops → get_or (rows_from start stops ends) i [] ≡ slice_range ends (get_or (start ∷ stops) i 0) (get_or stops i 0)
row-at start [] ends i lt = absurd (omega (arith, lt))
row-at start (stop ∷ stops) ends zero lt = refl
row-at start (stop ∷ stops) ends (suc i) lt = row-at stop stops ends i (omega (arith, lt))

pub start-stop : (start : ℕ) (stops : List ℕ) (n i : ℕ) → AreStops start stops n → i < length stops → get_or (start ∷ stops) i 0 ≤ get_or stops i 0
start-stop start [] n i are lt = absurd (omega (arith, lt))
start-stop start (stop ∷ stops) n zero are lt = are.0
start-stop start (stop ∷ stops) n (suc i) are lt = start-stop stop stops n i are.1 (omega (arith, lt))

start-end : (start : ℕ) (stops : List ℕ) (n : ℕ) → AreStops start stops n → start ≤ n
start-end start [] n are = omega (arith, are)
start-end start (stop ∷ stops) n are = let a = are.0 in let b = start-end stop stops n are.1 in omega (arith, a, b)

pub stop-end : (start : ℕ) (stops : List ℕ) (n i : ℕ) → AreStops start stops n → i < length stops → get_or stops i 0 ≤ n
stop-end start [] n i are lt = absurd (omega (arith, lt))
stop-end start (stop ∷ stops) n zero are lt = start-end stop stops n are.1
stop-end start (stop ∷ stops) n (suc i) are lt = stop-end stop stops n i are.1 (omega (arith, lt))

pub length-rows : (start : ℕ) (stops ends : List ℕ) → length (rows_from start stops ends) ≡ length stops
length-rows start [] ends = refl
length-rows start (stop ∷ stops) ends = ap suc (length-rows stop stops ends)

pub no-row : (start : ℕ) (stops ends : List ℕ) (i : ℕ) → length stops ≤ i → get_or (rows_from start stops ends) i [] ≡ []
no-row start stops ends i past = get_or_past (rows_from start stops ends) i [] (let l = length-rows start stops ends in omega (arith, l, past))

-- a row more stands after the others
pub stops-more : (start : ℕ) (stops : List ℕ) (n m : ℕ) → AreStops start stops n → n ≤ m → AreStops start (stops ++ m ∷ []) m
stops-more start [] n m are le = (omega (arith, are, le), refl)
stops-more start (stop ∷ stops) n m are le = (are.0, stops-more stop stops n m are.1 le)

pub rows-more : (start : ℕ) (stops ends row : List ℕ) → AreStops start stops (length ends)
    → rows_from start (stops ++ length (ends ++ row) ∷ []) (ends ++ row) ≡ rows_from start stops ends ++ row ∷ []
rows-more start [] ends row are = ap (λ (r : List ℕ). r ∷ []) (last start are)
  where
    last : (s : ℕ) → s ≡ length ends → slice_range (ends ++ row) s (length (ends ++ row)) ≡ row
    last s e = rw (e, length-append, drop-append_seam ends row) (let l : (length ends + length row) - length ends ≡ length row = omega arith in rw l (take-length row))
rows-more start (stop ∷ stops) ends row are =
    ap₂ (λ (r : List ℕ) (rs : List (List ℕ)). r ∷ rs) (front (stop - start) start (let e = start-end stop stops (length ends) are.1 in let s = are.0 in omega (arith, e, s))) (rows-more stop stops ends row are.1)
  where
    front : (n s : ℕ) → s + n ≤ length ends → take n (drop s (ends ++ row)) ≡ take n (drop s ends)
    front n s h = rw (drop-append-le s ends row (omega (arith, h))) (take-append-le n (drop s ends) row (let l = length-drop s ends in omega (arith, l, h)))

some-rule : Rule
some-rule = record { along = λ k n. None; mark = record { 0 = 0 }; most = 1 }

-- edges that were read from a view of a whole graph are the graph's
pub read-edges : (g : Graph) (v : PartView) (us : List User) (follows mentions : List (List ℕ)) → IsViewOf g v → AreVertices v us → follows ≡ rows_of us (followed v)
    → mentions ≡ rows_of us v.mentions → AreEdgesOf g us follows mentions
read-edges g v us follows mentions whole are out said = record {
  ascend = are.ascend;
  vertices = all;
  follow_rows = subst (λ (rows : List (List ℕ)). AreEnds us (ends_of g kind.Follow) rows) (sym out)
      (rows-ends us (followed v) (ends_of g kind.Follow) (whole-follows g v whole) (λ w u h. all u ∙ (nets-whole some-rule g kind.Follow w u h).1));
  mention_rows = subst (λ (rows : List (List ℕ)). AreEnds us (ends_of g kind.Mention) rows) (sym said)
      (rows-ends us v.mentions (ends_of g kind.Mention) (whole-mentions g v whole) (λ w u h. all u ∙ (nets-whole some-rule g kind.Mention w u h).1));
}
  where
    all : (u : User) → has_user us u ≡ has_user (vertices g) u
    all = whole-vertices g v whole us are

-- the graph's edges lie between the users
pub edges-whole : (r : Rule) (g : Graph) (us : List User) → ((u : User) → has_user us u ≡ has_user (vertices g) u) → IsWhole (net_on us (net_of r g))
edges-whole r g us all k w u edge = let both = nets-whole r g k w u edge in (all w ∙ both.0, all u ∙ both.1)

-- the vertices listed in another way are those of the same walks
module _ (net : Net) (us : List User) where
  on-cost : (ws : List Step) → cost (net_on us net) ws ≡ cost net ws
  on-cost [] = refl
  on-cost (s ∷ ws) = rw (on-cost ws) refl

  on-walk : (u : User) (ws : List Step) → IsWalk (net_on us net) u ws → IsWalk net u ws
  on-walk u [] w = w
  on-walk u (s ∷ ws) w = (w.0, on-walk s.start ws w.1)

  off-walk : (u : User) (ws : List Step) → IsWalk net u ws → IsWalk (net_on us net) u ws
  off-walk u [] w = w
  off-walk u (s ∷ ws) w = (w.0, off-walk s.start ws w.1)

  pub on-least : IsRule net.along net.most → IsWhole net → IsWhole (net_on us net) → ((u : User) → has_user us u ≡ has_user net.users u) → (u : User) → least_cost (net_on us net) u ≡ least_cost net u
  on-least law whole whole-on same u = split (has_user us net.mark) refl
    where
      la : IsLeastCost (net_on us net) u (least_cost (net_on us net) u)
      la = least-law (net_on us net) law whole-on u

      lb : IsLeastCost net u (least_cost net u)
      lb = least-law net law whole u

      split : (b : Bool) → has_user us net.mark ≡ b → least_cost (net_on us net) u ≡ least_cost net u
      split false e = la.outside e ∙ sym (lb.outside (sym (same net.mark) ∙ e))
      split true e = between (least_cost (net_on us net) u) (least_cost net u) up down
        where
          up : (n : ℕ) → least_cost (net_on us net) u ≡ Some n → AtMost (least_cost net u) n
          up n h = let w = la.walked n h in subst (λ (o : Option ℕ). Under (least_cost net u) o) (sym (on-cost w.path) ∙ w.costs) (lb.under (sym (same net.mark) ∙ e) w.path (on-walk u w.path w.walk))

          down : (n : ℕ) → least_cost net u ≡ Some n → AtMost (least_cost (net_on us net) u) n
          down n h = let w = lb.walked n h in subst (λ (o : Option ℕ). Under (least_cost (net_on us net) u) o) (on-cost w.path ∙ w.costs) (la.under e w.path (off-walk u w.path w.walk))

-- who is no vertex has no least cost
pub least-outside : (net : Net) → IsRule net.along net.most → IsWhole net → (u : User) → has_user net.users u ≡ false → least_cost net u ≡ None
least-outside net law whole u gone = here (least_cost net u) refl
  where
    l : IsLeastCost net u (least_cost net u)
    l = least-law net law whole u

    no-walk : has_user net.users net.mark ≡ true → (ws : List Step) → IsWalk net u ws → ⊥
    no-walk there [] w = both_ways (has_user net.users u) gone (subst (λ (y : User). has_user net.users y ≡ true) (sym w) there)
    no-walk there (s ∷ ws) w = both_ways (has_user net.users u) gone (whole s.kind s.start u w.0).1

    here : (o : Option ℕ) → least_cost net u ≡ o → least_cost net u ≡ None
    here None e = e
    here (Some n) e = mark (has_user net.users net.mark) refl
      where
        mark : (b : Bool) → has_user net.users net.mark ≡ b → least_cost net u ≡ None
        mark false h = l.outside h
        mark true h = let w = l.walked n e in absurd (no-walk h w.path w.walk)

-- a user that is found stands at its place
pub found-some : (us : List User) (u : User) (p : ℕ) → found us u ≡ Some p → (has_user us u ≡ true) × (p ≡ place us u)
found-some us u p h = here (has_user us u) refl h
  where
    here : (b : Bool) → has_user us u ≡ b → (if b then Some (place us u) else None) ≡ Some p → (has_user us u ≡ true) × (p ≡ place us u)
    here true e h = (e, let q : place us u ≡ p = cc in sym q)
    here false e h = absurd cc

pub found-none : (us : List User) (u : User) → found us u ≡ None → has_user us u ≡ false
found-none us u h = here (has_user us u) refl h
  where
    here : (b : Bool) → has_user us u ≡ b → (if b then Some (place us u) else None) ≡ None → has_user us u ≡ false
    here true e h = absurd cc
    here false e h = e
