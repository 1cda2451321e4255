-- What follows and unfollows leave of the edges of a graph, one record at a time.
use Rattle.std.proofs.Common.{◌≡◌, Bool, true, false, cond, ◌&&◌, ◌||◌, List, [], ◌∷◌, Option, Some, None, refl, sym, ◌∙◌, ap, ap₂}
use Rattle.std.specs.Prelude.{not}
use Rattle.std.specs.List.{list_any, find}
use Rattle.std.specs.Option.{option_or, option_map}
use Rattle.std.proofs.lemmas.Bool.{cond_both, and_parts}
use Rattle.kin_ids.specs.Types.{User, Place}
use Rattle.kin_ids.specs.Users.{same_user}
use Rattle.kin_ids.specs.Graph.{Edge, is_edge, with_follow, without_follow}
use Rattle.kin_ids.specs.Follows.{IsOnce}
use Rattle.kin_ids.proofs.Same.{same_user-true, list_any-weaker}

abbrev pub same_ends : User → User → User → User → Bool
same_ends u v a b = same_user u a && same_user v b

-- what stands at the ends of a matching edge
edge-alike : (u v a b : User) (e : Edge) → is_edge a b e ≡ true → is_edge u v e ≡ same_ends u v a b
edge-alike u v a b e h =
    let parts = and_parts _ _ h in
    ap₂ (same_ends u v) (sym (same_user-true a e.start parts.0)) (sym (same_user-true b e.end parts.1))

edge-other : (u v a b : User) (e : Edge) → is_edge a b e ≡ false → same_ends u v a b ≡ true → is_edge u v e ≡ false
edge-other u v a b e h t =
    let parts = and_parts _ _ t in
    ap₂ (λ (x y : User). is_edge x y e) (same_user-true u a parts.0) (same_user-true v b parts.1) ∙ h

-- an edge ever added
pub any-with_follow : (u v a b : User) (at : Place) (es : List Edge) → list_any (is_edge u v) (with_follow a b at es) ≡ (list_any (is_edge u v) es || same_ends u v a b)
any-with_follow u v a b at [] = or_none (same_ends u v a b)
  where
    or_none : (s : Bool) → (s || false) ≡ s
    or_none true = refl
    or_none false = refl
any-with_follow u v a b at (e ∷ es) = go (is_edge a b e) refl (any-with_follow u v a b at es)
  where
    again : (x r s : Bool) → x ≡ s → (x || r) ≡ ((x || r) || s)
    again true r s h = refl
    again false true s h = refl
    again false false s h = h

    later : (x r q s : Bool) → r ≡ (q || s) → (x || r) ≡ ((x || q) || s)
    later true r q s h = refl
    later false r q s h = h

    go : (t : Bool) → is_edge a b e ≡ t → list_any (is_edge u v) (with_follow a b at es) ≡ (list_any (is_edge u v) es || same_ends u v a b) →
        list_any (is_edge u v) (cond t (record e { present = true } ∷ es) (e ∷ with_follow a b at es)) ≡ (list_any (is_edge u v) (e ∷ es) || same_ends u v a b)
    go true t ih = again (is_edge u v e) (list_any (is_edge u v) es) (same_ends u v a b) (edge-alike u v a b e t)
    go false t ih = later (is_edge u v e) _ _ _ ih

pub any-without_follow : (u v a b : User) (es : List Edge) → list_any (is_edge u v) (without_follow a b es) ≡ list_any (is_edge u v) es
any-without_follow u v a b [] = refl
any-without_follow u v a b (e ∷ es) = cond_both (is_edge a b e) (record e { present = false } ∷ es) (e ∷ without_follow a b es) (λ xs. list_any (is_edge u v) xs ≡ list_any (is_edge u v) (e ∷ es))
    (λ _. refl) (λ _. ap (λ r. is_edge u v e || r) (any-without_follow u v a b es))

-- an edge that is present
abbrev pub is_here : User → User → Edge → Bool
is_here u v e = is_edge u v e && e.present

pub here-with_follow : (u v a b : User) (at : Place) (es : List Edge) → list_any (is_here u v) (with_follow a b at es) ≡ (same_ends u v a b || list_any (is_here u v) es)
here-with_follow u v a b at [] = first (same_ends u v a b)
  where
    first : (s : Bool) → ((s && true) || false) ≡ (s || false)
    first true = refl
    first false = refl
here-with_follow u v a b at (e ∷ es) = go (is_edge a b e) refl (here-with_follow u v a b at es)
  where
    now : (x q r s : Bool) → x ≡ s → ((x && true) || r) ≡ (s || ((x && q) || r))
    now true q r s h = rw (sym h) refl
    now false q r s h = rw (sym h) refl

    later : (x r q s : Bool) → r ≡ (s || q) → (x || r) ≡ (s || (x || q))
    later true r q true h = refl
    later true r q false h = refl
    later false r q s h = h

    go : (t : Bool) → is_edge a b e ≡ t → list_any (is_here u v) (with_follow a b at es) ≡ (same_ends u v a b || list_any (is_here u v) es) →
        list_any (is_here u v) (cond t (record e { present = true } ∷ es) (e ∷ with_follow a b at es)) ≡ (same_ends u v a b || list_any (is_here u v) (e ∷ es))
    go true t ih = now (is_edge u v e) e.present (list_any (is_here u v) es) (same_ends u v a b) (edge-alike u v a b e t)
    go false t ih = later (is_here u v e) _ _ _ ih

abbrev pub IsOnceEdge : List Edge → Type 0
IsOnceEdge es = IsOnce (λ (e : Edge). is_edge e.start e.end) es

pub here-without_follow : (u v a b : User) (es : List Edge) → IsOnceEdge es → list_any (is_here u v) (without_follow a b es) ≡ (not (same_ends u v a b) && list_any (is_here u v) es)
here-without_follow u v a b [] once = none (same_ends u v a b)
  where
    none : (s : Bool) → false ≡ (not s && false)
    none true = refl
    none false = refl
here-without_follow u v a b (e ∷ es) once = go (is_edge a b e) refl (here-without_follow u v a b es once.1)
  where
    now : (x q r s : Bool) → x ≡ s → (s ≡ true → r ≡ false) → ((x && false) || r) ≡ (not s && ((x && q) || r))
    now true q r s h k = rw (sym h) (k (sym h))
    now false q r s h k = rw (sym h) refl

    later : (x y r q s : Bool) → r ≡ (not s && q) → (s ≡ true → x ≡ false) → ((x && y) || r) ≡ (not s && ((x && y) || q))
    later x y r q true h k = rw (k refl) h
    later x y r q false h k = ap (λ z. (x && y) || z) h

    no_other : is_edge a b e ≡ true → same_ends u v a b ≡ true → list_any (is_here u v) es ≡ false
    no_other t s = list_any-weaker (is_here u v) (is_edge e.start e.end) es
        (λ d both. same_test d ∙ (and_parts (is_edge u v d) d.present both).0) once.0
      where
        ends : (same_user u e.start ≡ true) × (same_user v e.end ≡ true)
        ends = and_parts (same_user u e.start) (same_user v e.end) (edge-alike u v a b e t ∙ s)

        same_test : (d : Edge) → is_edge e.start e.end d ≡ is_edge u v d
        same_test d = ap₂ (λ (x y : User). is_edge x y d) (sym (same_user-true u e.start ends.0)) (sym (same_user-true v e.end ends.1))

    go : (t : Bool) → is_edge a b e ≡ t → list_any (is_here u v) (without_follow a b es) ≡ (not (same_ends u v a b) && list_any (is_here u v) es) →
        list_any (is_here u v) (cond t (record e { present = false } ∷ es) (e ∷ without_follow a b es)) ≡ (not (same_ends u v a b) && list_any (is_here u v) (e ∷ es))
    go true t ih = now (is_edge u v e) e.present (list_any (is_here u v) es) (same_ends u v a b) (edge-alike u v a b e t) (no_other t)
    go false t ih = later (is_edge u v e) e.present _ _ (same_ends u v a b) ih (edge-other u v a b e t)

-- where an edge was first added
pub place-with_follow : (u v a b : User) (at : Place) (es : List Edge) →
    option_map (λ (e : Edge). e.added) (find (is_edge u v) (with_follow a b at es)) ≡ option_or (option_map (λ (e : Edge). e.added) (find (is_edge u v) es)) (cond (same_ends u v a b) (Some at) None)
place-with_follow u v a b at [] = first (same_ends u v a b)
  where
    first : (s : Bool) → option_map (λ (e : Edge). e.added) (cond s (Some (record { start = a; end = b; present = true; added = at })) None) ≡ cond s (Some at) None
    first true = refl
    first false = refl
place-with_follow u v a b at (e ∷ es) = go (is_edge a b e) refl (place-with_follow u v a b at es)
  where
    or_none : (o : Option Place) → o ≡ option_or o None
    or_none None = refl
    or_none (Some x) = refl

    now : (x s : Bool) (o : Option Edge) → x ≡ s → option_map (λ (e : Edge). e.added) (cond x (Some (record e { present = true })) o) ≡ option_or (option_map (λ (e : Edge). e.added) (cond x (Some e) o)) (cond s (Some at) None)
    now true s o h = refl
    now false s o h = rw (sym h) (or_none (option_map (λ (e : Edge). e.added) o))

    later : (x : Bool) (o q : Option Edge) (r : Option Place) → option_map (λ (e : Edge). e.added) q ≡ option_or (option_map (λ (e : Edge). e.added) o) r →
        option_map (λ (e : Edge). e.added) (cond x (Some e) q) ≡ option_or (option_map (λ (e : Edge). e.added) (cond x (Some e) o)) r
    later true o q r h = refl
    later false o q r h = h

    go : (t : Bool) → is_edge a b e ≡ t → option_map (λ (e : Edge). e.added) (find (is_edge u v) (with_follow a b at es)) ≡ option_or (option_map (λ (e : Edge). e.added) (find (is_edge u v) es)) (cond (same_ends u v a b) (Some at) None) →
        option_map (λ (e : Edge). e.added) (find (is_edge u v) (cond t (record e { present = true } ∷ es) (e ∷ with_follow a b at es))) ≡ option_or (option_map (λ (e : Edge). e.added) (find (is_edge u v) (e ∷ es))) (cond (same_ends u v a b) (Some at) None)
    go true t ih = now (is_edge u v e) (same_ends u v a b) (find (is_edge u v) es) (edge-alike u v a b e t)
    go false t ih = later (is_edge u v e) (find (is_edge u v) es) (find (is_edge u v) (with_follow a b at es)) _ ih

pub place-without_follow : (u v a b : User) (es : List Edge) → option_map (λ (e : Edge). e.added) (find (is_edge u v) (without_follow a b es)) ≡ option_map (λ (e : Edge). e.added) (find (is_edge u v) es)
place-without_follow u v a b [] = refl
place-without_follow u v a b (e ∷ es) = cond_both (is_edge a b e) (record e { present = false } ∷ es) (e ∷ without_follow a b es)
    (λ xs. option_map (λ (e : Edge). e.added) (find (is_edge u v) xs) ≡ option_map (λ (e : Edge). e.added) (find (is_edge u v) (e ∷ es)))
    (λ _. same (is_edge u v e)) (λ _. later (is_edge u v e) (place-without_follow u v a b es))
  where
    same : (x : Bool) → option_map (λ (e : Edge). e.added) (cond x (Some (record e { present = false })) (find (is_edge u v) es)) ≡ option_map (λ (e : Edge). e.added) (cond x (Some e) (find (is_edge u v) es))
    same true = refl
    same false = refl

    later : (x : Bool) → option_map (λ (e : Edge). e.added) (find (is_edge u v) (without_follow a b es)) ≡ option_map (λ (e : Edge). e.added) (find (is_edge u v) es) →
        option_map (λ (e : Edge). e.added) (cond x (Some e) (find (is_edge u v) (without_follow a b es))) ≡ option_map (λ (e : Edge). e.added) (cond x (Some e) (find (is_edge u v) es))
    later true h = refl
    later false h = h
