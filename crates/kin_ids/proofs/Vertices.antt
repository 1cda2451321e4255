-- The vertices of a graph and its tags in use, and how many there can be.
use Rattle.std.proofs.Common.{◌≡◌, ◌⊎◌, inl, inr, ⊎_elim, ℕ, ◌*◌, ◌≤◌, Bool, true, false, cond, ◌||◌, List, [], ◌∷◌, ◌++◌, length, map, refl, sym, ◌∙◌, ap, ap₂, subst, arith}
use Rattle.std.specs.Cmp.{IsEquivalence}
use Rattle.std.specs.List.{list_any, AllByRecursion, IsDistinct}
use Rattle.std.proofs.lemmas.Bool.{cond_both, or_cases, or_parts, or_left, or_right}
use Rattle.std.proofs.lemmas.List.{length-append}
use Rattle.std.proofs.lemmas.List.Elements.{recursion_from_All}
use Rattle.std.proofs.lemmas.List.Folds.{list_any-append}
use Rattle.std.proofs.lemmas.Map.Keys.{IsDistinct-cons}
use Rattle.std.proofs.lemmas.Map.Made.{length-le_from_is_member}
use Rattle.kin_ids.specs.Types.{User, Place, Item, Record}
use Rattle.kin_ids.specs.declared.ops.Item.TheVariants as item
use Rattle.kin_ids.specs.declared.ops.Record.TheVariants as record_kind
use Rattle.kin_ids.specs.Users.{same_user, same_tag, has_user}
use Rattle.kin_ids.specs.Graph.{Graph, Edge, Mention, TagUse, empty_graph, applied, item_applied, items_applied, is_edge, is_mention, is_use, with_follow, without_follow, with_mention, with_use, distinct_onto, distinct_tags, vertices, is_vertex_of}
use Rattle.kin_ids.specs.Order.{Entry, folded}
use Rattle.kin_ids.specs.Follows.{IsOnce}
use Rattle.kin_ids.specs.Sizes.{IsSmall}
use Rattle.kin_ids.specs.Vertices.{VertexLaw, TagLaw, FewVerticesLaw}
use Rattle.kin_ids.proofs.Same.{same_user-true, same_user-refl, same_user-sym, same_tag-true, same_tag-sym, list_any-alike}
use Rattle.kin_ids.proofs.Heard.{or_or}
use Rattle.kin_ids.proofs.Once.{IsOnce-push}

or-last : (s a b : Bool) → ((s || (a || false)) || b) ≡ (s || (a || b))
or-last true a b = refl
or-last false true b = refl
or-last false false b = refl

or_false : (x : Bool) → x ≡ (x || false)
or_false true = refl
or_false false = refl

-- users each once are the same users
pub has-distinct_onto : (seen us : List User) (x : User) → has_user (distinct_onto seen us) x ≡ (has_user seen x || has_user us x)
has-distinct_onto seen [] x = or_false (has_user seen x)
has-distinct_onto seen (u ∷ us) x = here (has_user seen u) refl (same_user x u) refl (has-distinct_onto seen us x) (has-distinct_onto (seen ++ u ∷ []) us x)
  where
    here : (b : Bool) → has_user seen u ≡ b → (a : Bool) → same_user x u ≡ a → has_user (distinct_onto seen us) x ≡ (has_user seen x || has_user us x) →
        has_user (distinct_onto (seen ++ u ∷ []) us) x ≡ (has_user (seen ++ u ∷ []) x || has_user us x) →
        has_user (cond b (distinct_onto seen us) (distinct_onto (seen ++ u ∷ []) us)) x ≡ (has_user seen x || (a || has_user us x))
    here true e false q is more = is
    here true e true q is more =
        let there : has_user seen x ≡ true = subst (λ (y : User). has_user seen y ≡ true) (sym (same_user-true x u q)) e in
        is ∙ rw there refl
    here false e a q is more = more ∙ rw (list_any-append (same_user x) seen (u ∷ []), q) (or-last (has_user seen x) a (has_user us x))

-- the ends of links
pub any-ends : {X : Type 0} (f h : X → User) (xs : List X) (u : User) → list_any (λ x. same_user u (f x) || same_user u (h x)) xs ≡ (has_user (map f xs) u || has_user (map h xs) u)
any-ends f h [] u = refl
any-ends f h (x ∷ xs) u = ap (λ b. (same_user u (f x) || same_user u (h x)) || b) (any-ends f h xs u) ∙ swap (same_user u (f x)) (same_user u (h x)) (has_user (map f xs) u) (has_user (map h xs) u)
  where
    swap : (a b c d : Bool) → ((a || b) || (c || d)) ≡ ((a || c) || (b || d))
    swap true b c d = refl
    swap false true true d = refl
    swap false true false d = refl
    swap false false c d = refl

pub any-map : {X : Type 0} (f : X → User) (xs : List X) (u : User) → list_any (λ x. same_user u (f x)) xs ≡ has_user (map f xs) u
any-map f [] u = refl
any-map f (x ∷ xs) u = ap (λ b. same_user u (f x) || b) (any-map f xs u)

module _ (x : User) (g : Graph) where
  abbrev in_edges : Bool
  in_edges = list_any (λ (e : Edge). same_user x e.start || same_user x e.end) g.edges

  abbrev in_mentions : Bool
  in_mentions = list_any (λ (m : Mention). same_user x m.start || same_user x m.end) g.mentions

  abbrev in_uses : Bool
  in_uses = list_any (λ (y : TagUse). same_user x y.user) g.uses

-- the list of vertices has exactly those
pub has-vertices : (g : Graph) (u : User) → has_user (vertices g) u ≡ is_vertex_of g u
has-vertices g u =
    let starts = map (λ (e : Edge). e.start) g.edges in
    let ends = map (λ (e : Edge). e.end) g.edges in
    let from = map (λ (m : Mention). m.start) g.mentions in
    let to = map (λ (m : Mention). m.end) g.mentions in
    let users = map (λ (x : TagUse). x.user) g.uses in
    has-distinct_onto [] (((starts ++ ends) ++ (from ++ to)) ++ users) u
    ∙ (list_any-append (same_user u) ((starts ++ ends) ++ (from ++ to)) users
    ∙ (ap₂ (λ (a b : Bool). a || b) (list_any-append (same_user u) (starts ++ ends) (from ++ to)
    ∙ ap₂ (λ (a b : Bool). a || b) (list_any-append (same_user u) starts ends ∙ sym (any-ends (λ (e : Edge). e.start) (λ (e : Edge). e.end) g.edges u))
    (list_any-append (same_user u) from to ∙ sym (any-ends (λ (m : Mention). m.start) (λ (m : Mention). m.end) g.mentions u)))
    (sym (any-map (λ (x : TagUse). x.user) g.uses u))
    ∙ or_or (in_edges u g) (in_mentions u g) (in_uses u g)))

distinct-once : (seen us : List User) → IsOnce same_user seen → IsOnce same_user (distinct_onto seen us)
distinct-once seen [] once = once
distinct-once seen (u ∷ us) once = cond_both (has_user seen u) (distinct_onto seen us) (distinct_onto (seen ++ u ∷ []) us) (IsOnce same_user)
    (λ _. distinct-once seen us once)
    (λ no. distinct-once (seen ++ u ∷ []) us (IsOnce-push same_user seen u (list_any-alike (λ v. same_user v u) (same_user u) seen (λ v. same_user-sym v u) ∙ no) once))

pub vertices-once : (g : Graph) → IsOnce same_user (vertices g)
vertices-once g = distinct-once [] ((map (λ (e : Edge). e.start) g.edges ++ map (λ (e : Edge). e.end) g.edges)
    ++ (map (λ (m : Mention). m.start) g.mentions ++ map (λ (m : Mention). m.end) g.mentions) ++ map (λ (x : TagUse). x.user) g.uses) tt

pub vertex-law : VertexLaw
vertex-law g = record { exact = has-vertices g; once = vertices-once g }

-- tags
pub has-distinct_tags : (seen : List (List ℕ)) (xs : List TagUse) (t : List ℕ) → list_any (same_tag t) (distinct_tags seen xs) ≡ (list_any (same_tag t) seen || list_any (λ x. same_tag t x.tag) xs)
has-distinct_tags seen [] t = or_false (list_any (same_tag t) seen)
has-distinct_tags seen (x ∷ xs) t = here (list_any (same_tag x.tag) seen) refl (same_tag t x.tag) refl (has-distinct_tags seen xs t) (has-distinct_tags (seen ++ x.tag ∷ []) xs t)
  where
    here : (b : Bool) → list_any (same_tag x.tag) seen ≡ b → (a : Bool) → same_tag t x.tag ≡ a → list_any (same_tag t) (distinct_tags seen xs) ≡ (list_any (same_tag t) seen || list_any (λ x. same_tag t x.tag) xs) →
        list_any (same_tag t) (distinct_tags (seen ++ x.tag ∷ []) xs) ≡ (list_any (same_tag t) (seen ++ x.tag ∷ []) || list_any (λ x. same_tag t x.tag) xs) →
        list_any (same_tag t) (cond b (distinct_tags seen xs) (distinct_tags (seen ++ x.tag ∷ []) xs)) ≡ (list_any (same_tag t) seen || (a || list_any (λ x. same_tag t x.tag) xs))
    here true e false q is more = is
    here true e true q is more =
        let there : list_any (same_tag t) seen ≡ true = subst (λ (s : List ℕ). list_any (same_tag s) seen ≡ true) (sym (same_tag-true t x.tag q)) e in
        is ∙ rw there refl
    here false e a q is more = more ∙ rw (list_any-append (same_tag t) seen (x.tag ∷ []), q) (or-last (list_any (same_tag t) seen) a (list_any (λ x. same_tag t x.tag) xs))

distinct_tags-once : (seen : List (List ℕ)) (xs : List TagUse) → IsOnce same_tag seen → IsOnce same_tag (distinct_tags seen xs)
distinct_tags-once seen [] once = once
distinct_tags-once seen (x ∷ xs) once = cond_both (list_any (same_tag x.tag) seen) (distinct_tags seen xs) (distinct_tags (seen ++ x.tag ∷ []) xs) (IsOnce same_tag)
    (λ _. distinct_tags-once seen xs once)
    (λ no. distinct_tags-once (seen ++ x.tag ∷ []) xs (IsOnce-push same_tag seen x.tag (list_any-alike (λ t. same_tag t x.tag) (same_tag x.tag) seen (λ t. same_tag-sym t x.tag) ∙ no) once))

pub tag-law : TagLaw
tag-law g = record { exact = has-distinct_tags [] g.uses; once = distinct_tags-once [] g.uses tt }

-- the users that a record brings
abbrev items_users : List Item → List User
items_users [] = []
items_users (item.At w ∷ xs) = w ∷ items_users xs
items_users (item.Hash t ∷ xs) = items_users xs

abbrev record_users : Record → List User
record_users (record_kind.Follow u v) = u ∷ v ∷ []
record_users (record_kind.Unfollow u v) = []
record_users (record_kind.Tweet u items) = u ∷ items_users items
record_users record_kind.Bad = []

abbrev all_users : List Entry → List User
all_users [] = []
all_users (x ∷ xs) = record_users x.content ++ all_users xs

few-items : (xs : List Item) → length (items_users xs) ≤ length xs
few-items [] = omega arith
few-items (item.At w ∷ xs) = let ih = few-items xs in omega arith
few-items (item.Hash t ∷ xs) = let ih = few-items xs in omega arith

few-record : (r : Record) → IsSmall r → length (record_users r) ≤ 17
few-record (record_kind.Follow u v) small = omega arith
few-record (record_kind.Unfollow u v) small = omega arith
few-record (record_kind.Tweet u items) small = let few = few-items items in omega (arith, few, small)
few-record record_kind.Bad small = omega arith

few-all : (xs : List Entry) → AllByRecursion (λ (x : Entry). IsSmall x.content) xs → length (all_users xs) ≤ 17 * length xs
few-all [] small = omega arith
few-all (x ∷ xs) small = omega (arith, length-append (record_users x.content) (all_users xs), few-record x.content small.0, few-all xs small.1)

-- a record makes no other users vertices
new-edge : (x u v : User) (at : Place) (es : List Edge) → list_any (λ (e : Edge). same_user x e.start || same_user x e.end) (with_follow u v at es) ≡ true →
    (list_any (λ (e : Edge). same_user x e.start || same_user x e.end) es ≡ true) ⊎ (has_user (u ∷ v ∷ []) x ≡ true)
new-edge x u v at [] = λ h. inr (both (same_user x u) (same_user x v) h)
  where
    both : (a b : Bool) → ((a || b) || false) ≡ true → (a || (b || false)) ≡ true
    both true b k = refl
    both false b k = k
new-edge x u v at (e ∷ es) = cond_both (is_edge u v e) (record e { present = true } ∷ es) (e ∷ with_follow u v at es)
    (λ ds. list_any (λ (e : Edge). same_user x e.start || same_user x e.end) ds ≡ true → (list_any (λ (e : Edge). same_user x e.start || same_user x e.end) (e ∷ es) ≡ true) ⊎ (has_user (u ∷ v ∷ []) x ≡ true))
    (λ _ h. inl h)
    (λ _ h. ⊎_elim (λ (k : (same_user x e.start || same_user x e.end) ≡ true). inl (or_left _ _ k))
    (λ (k : list_any (λ (e : Edge). same_user x e.start || same_user x e.end) (with_follow u v at es) ≡ true).
    ⊎_elim (λ (old : list_any (λ (e : Edge). same_user x e.start || same_user x e.end) es ≡ true). inl (or_right (same_user x e.start || same_user x e.end) _ old)) (λ (new : has_user (u ∷ v ∷ []) x ≡ true). inr new) (new-edge x u v at es k))
    (or_cases (same_user x e.start || same_user x e.end) (list_any (λ (e : Edge). same_user x e.start || same_user x e.end) (with_follow u v at es)) h))

same-edges : (x u v : User) (es : List Edge) → list_any (λ (e : Edge). same_user x e.start || same_user x e.end) (without_follow u v es) ≡ list_any (λ (e : Edge). same_user x e.start || same_user x e.end) es
same-edges x u v [] = refl
same-edges x u v (e ∷ es) = cond_both (is_edge u v e) (record e { present = false } ∷ es) (e ∷ without_follow u v es)
    (λ ds. list_any (λ (e : Edge). same_user x e.start || same_user x e.end) ds ≡ list_any (λ (e : Edge). same_user x e.start || same_user x e.end) (e ∷ es))
    (λ _. refl) (λ _. ap (λ b. (same_user x e.start || same_user x e.end) || b) (same-edges x u v es))

-- one more element, or none
new-last : {X : Type 0} (p : X → Bool) (b : Bool) (xs : List X) (y : X) → list_any p (cond b xs (xs ++ y ∷ [])) ≡ true → (list_any p xs ≡ true) ⊎ (p y ≡ true)
new-last p true xs y h = inl h
new-last p false xs y h = ⊎_elim (λ (k : list_any p xs ≡ true). inl k)
    (λ (k : list_any p (y ∷ []) ≡ true). inr (or_false (p y) ∙ k))
    (or_cases (list_any p xs) (list_any p (y ∷ [])) (sym (list_any-append p xs (y ∷ [])) ∙ h))

abbrev IsNew : Graph → List User → User → Type 0
IsNew g us x = (is_vertex_of g x ≡ true) ⊎ (has_user us x ≡ true)

module _ (x : User) (g : Graph) where
  new-item : (u : User) (at : Place) (it : Item) → is_vertex_of (item_applied u at g it) x ≡ true → IsNew g (u ∷ items_users (it ∷ [])) x
  new-item u at (item.At w) h =
      let now = list_any (λ (m : Mention). same_user x m.start || same_user x m.end) (with_mention u w g.mentions) in
      ⊎_elim (λ (k : (in_edges x g) ≡ true). inl (or_left _ _ k))
      (λ (k : (now || (in_uses x g)) ≡ true). ⊎_elim (λ (m : now ≡ true).
      ⊎_elim (λ (old : (in_mentions x g) ≡ true). inl (or_right (in_edges x g) _ (or_left _ _ old)))
      (λ (new : (same_user x u || same_user x w) ≡ true). inr (pair (same_user x u) (same_user x w) new))
      (new-last (λ (m : Mention). same_user x m.start || same_user x m.end) (list_any (is_mention u w) g.mentions) g.mentions (record { start = u; end = w }) m))
      (λ (m : (in_uses x g) ≡ true). inl (or_right (in_edges x g) _ (or_right (in_mentions x g) _ m))) (or_cases now (in_uses x g) k))
      (or_cases (in_edges x g) (now || (in_uses x g)) h)
    where
      pair : (a b : Bool) → (a || b) ≡ true → (a || (b || false)) ≡ true
      pair true b k = refl
      pair false true k = refl
      pair false false k = k
  new-item u at (item.Hash t) h =
      let now = list_any (λ (y : TagUse). same_user x y.user) (with_use u t at g.uses) in
      ⊎_elim (λ (k : (in_edges x g) ≡ true). inl (or_left _ _ k))
      (λ (k : ((in_mentions x g) || now) ≡ true). ⊎_elim (λ (m : (in_mentions x g) ≡ true). inl (or_right (in_edges x g) _ (or_left _ _ m)))
      (λ (m : now ≡ true).
      ⊎_elim (λ (old : (in_uses x g) ≡ true). inl (or_right (in_edges x g) _ (or_right (in_mentions x g) _ old)))
      (λ (new : same_user x u ≡ true). inr (or_left _ _ new))
      (new-last (λ (y : TagUse). same_user x y.user) (list_any (is_use u t) g.uses) g.uses (record { user = u; tag = t; first = at }) m))
      (or_cases (in_mentions x g) now k))
      (or_cases (in_edges x g) ((in_mentions x g) || now) h)

-- more users hold what fewer do
more-users : (it : Item) (xs : List Item) (u x : User) → has_user (u ∷ items_users (it ∷ [])) x ≡ true → has_user (u ∷ items_users (it ∷ xs)) x ≡ true
more-users (item.At w) xs u x h = more (same_user x u) (same_user x w) (has_user (items_users xs) x) h
  where
    more : (a b c : Bool) → (a || (b || false)) ≡ true → (a || (b || c)) ≡ true
    more true b c k = refl
    more false true c k = refl
    more false false c k = absurd cc
more-users (item.Hash t) xs u x h = more (same_user x u) (has_user (items_users xs) x) h
  where
    more : (a c : Bool) → (a || false) ≡ true → (a || c) ≡ true
    more true c k = refl
    more false c k = absurd cc

later-users : (it : Item) (xs : List Item) (u x : User) → has_user (u ∷ items_users xs) x ≡ true → has_user (u ∷ items_users (it ∷ xs)) x ≡ true
later-users (item.At w) xs u x h = more (same_user x u) (same_user x w) (has_user (items_users xs) x) h
  where
    more : (a b c : Bool) → (a || c) ≡ true → (a || (b || c)) ≡ true
    more true b c k = refl
    more false true c k = refl
    more false false c k = k
later-users (item.Hash t) xs u x h = h

new-items : (x : User) (g : Graph) (u : User) (at : Place) (xs : List Item) → is_vertex_of (items_applied u at g xs) x ≡ true → IsNew g (u ∷ items_users xs) x
new-items x g u at [] h = inl h
new-items x g u at (it ∷ xs) h =
    ⊎_elim (λ (k : is_vertex_of (item_applied u at g it) x ≡ true).
    ⊎_elim (λ (old : is_vertex_of g x ≡ true). inl old) (λ (new : has_user (u ∷ items_users (it ∷ [])) x ≡ true). inr (more-users it xs u x new)) (new-item x g u at it k))
    (λ (k : has_user (u ∷ items_users xs) x ≡ true). inr (later-users it xs u x k))
    (new-items x (item_applied u at g it) u at xs h)

new-record : (x : User) (g : Graph) (at : Place) (r : Record) → is_vertex_of (applied at g r) x ≡ true → IsNew g (record_users r) x
new-record x g at (record_kind.Follow u v) h =
    let now = list_any (λ (e : Edge). same_user x e.start || same_user x e.end) (with_follow u v at g.edges) in
    ⊎_elim (λ (k : now ≡ true). ⊎_elim (λ (old : in_edges x g ≡ true). inl (or_left _ _ old)) (λ (new : has_user (u ∷ v ∷ []) x ≡ true). inr new) (new-edge x u v at g.edges k))
    (λ (k : (in_mentions x g || in_uses x g) ≡ true). inl (or_right (in_edges x g) _ k)) (or_cases now (in_mentions x g || in_uses x g) h)
new-record x g at (record_kind.Unfollow u v) h = inl (ap (λ b. b || (in_mentions x g || in_uses x g)) (sym (same-edges x u v g.edges)) ∙ h)
new-record x g at (record_kind.Tweet u items) h = new-items x g u at items h
new-record x g at record_kind.Bad h = inl h

new-all : (x : User) (g : Graph) (xs : List Entry) → is_vertex_of (folded g xs) x ≡ true → IsNew g (all_users xs) x
new-all x g [] h = inl h
new-all x g (y ∷ ys) h =
    let among = list_any-append (same_user x) (record_users y.content) (all_users ys) in
    ⊎_elim (λ (k : is_vertex_of (applied y.place g y.content) x ≡ true).
    ⊎_elim (λ (old : is_vertex_of g x ≡ true). inl old) (λ (new : has_user (record_users y.content) x ≡ true). inr (among ∙ or_left _ _ new)) (new-record x g y.place y.content k))
    (λ (k : has_user (all_users ys) x ≡ true). inr (among ∙ or_right (has_user (record_users y.content) x) _ k))
    (new-all x (applied y.place g y.content) ys h)

pub user-equivalence : IsEquivalence same_user
user-equivalence = record { refl = same_user-refl; symm = same_user-sym; congr = λ x y z e. ap (λ (w : User). same_user w z) (same_user-true x y e) }

-- what stands once has no two that are the same
pub once-distinct : {A : Type 0} (same : A → A → Bool) (xs : List A) → IsOnce same xs → IsDistinct same xs
unfolding IsDistinct
once-distinct same [] once = tt
once-distinct {A = A} same (x ∷ xs) once = IsDistinct-cons same x xs (apart x xs once.0) (once-distinct same xs once.1)
  where
    apart : (x : A) (ys : List A) → list_any (same x) ys ≡ false → AllByRecursion (λ y. same x y ≡ false) ys
    apart x [] h = tt
    apart x (y ∷ ys) h = let parts = or_parts (same x y) (list_any (same x) ys) h in (parts.0, apart x ys parts.1)

pub few-vertices-law : FewVerticesLaw
few-vertices-law xs small =
    let g = folded empty_graph xs in
    let among : (u : User) → has_user (vertices g) u ≡ true → has_user (all_users xs) u ≡ true = λ u h.
    ⊎_elim (λ (none : is_vertex_of empty_graph u ≡ true). absurd cc) (λ (k : has_user (all_users xs) u ≡ true). k) (new-all u empty_graph xs (sym (has-vertices g u) ∙ h)) in
    omega (
      arith,
      length-le_from_is_member user-equivalence (vertices g) (all_users xs) (once-distinct same_user (vertices g) (vertices-once g)) among,
      few-all xs (recursion_from_All (λ (x : Entry). IsSmall x.content) xs small),
    )
