-- Entries of exposure are the exposures of a graph.
use Rattle.std.proofs.Common.{◌≡◌, ◌<◌, ◌≤◌, take, ◌+◌, ◌==◌, ◌&&◌, ◌||◌, ◌∙◌, ◌⊎◌, inl, inr, ℕ, zero, suc, Bool, true, false, List, [], ◌∷◌, ◌++◌, length, get_or, map, filter, cond, arith, refl, sym, ap, ap₂, subst}
use Rattle.std.specs.List.{list_any, count_by, sum_by, IsDistinct, AllByRecursion}
use Rattle.std.specs.List.Sorted.{IsPermutation}
use Rattle.std.proofs.lemmas.Bool.{cases_Bool, or_left, or_right}
use Rattle.std.proofs.lemmas.List.Sums.{sum_by-append, sum_by-cons}
use Rattle.std.proofs.lemmas.List.Sorted.{sum_by-IsPermutation, list_any-IsPermutation, IsPermutation-refl, IsPermutation-map}
use Rattle.kin_ids.specs.declared.ids.User.{User}
use Rattle.kin_ids.specs.declared.ops.Half.{Half}
use Rattle.kin_ids.specs.declared.ops.Use.{Use}
use Rattle.kin_ids.specs.Users.{same_user, same_tag, has_user, is_before, user_cmp}
use Rattle.kin_ids.specs.Graph.{Graph, TagUse, is_use, use_at, outs, uses_of, vertices}
use Rattle.kin_ids.specs.Parts.{PartView}
use Rattle.kin_ids.specs.Wholes.{IsViewOf}
use Rattle.kin_graph.specs.Views.{AreVertices}
use Rattle.kin_graph.proofs.Wholes.{whole-vertices}
use Rattle.std.proofs.lemmas.List.{map_more, take_more, take_all, get_or-map, length-map, append_assoc}
use Rattle.std.proofs.lemmas.Map.Keys.{IsDistinct-from_sorted, IsDistinct-head, IsDistinct-tail}
use Rattle.kin_ids.proofs.Same.{same_user-true, same_user-refl, same_user-sym}
use Rattle.kin_rules.specs.declared.exposure_rules.UseK.{UseK}
use Rattle.kin_rules.specs.Counts.{followees}
use Rattle.kin_rules.specs.Exposure.{used_before, earlier_followed, exposure}
use Rattle.kin_rules.specs.ExposureRule.{is_earlier, is_entry, use_k, use_k_order, exposure_rule, ExposuresAreLayers}
use Rattle.kin_rules.specs.Layers.{inputs_of, facts_of, layer_of}
use Rattle.kin_rules.specs.declared.pull_rules.Facts.{Facts}
use Rattle.kin_rules.specs.declared.pull_rules.Input.{Input}
use Rattle.kin_rules.specs.declared.pull_rules.Side.TheVariants as side
use Rattle.kin_rules.specs.ExposureEntries.{entry_among, uses_at, uses_with}
use Rattle.kin_rules.specs.LayerTables.{facts_seen, neighbours_seen}
use Rattle.kin_rules.specs.Places.{place}
use Rattle.kin_rules.specs.Edges.{places_of, rows_of}
use Rattle.kin_rules.specs.Top.{in_order}
use Rattle.kin_rules.specs.Orderings.{count-cons, in_order-permutes}
use Rattle.kin_rules.proofs.Entries.{vertices-once}
use Rattle.kin_rules.proofs.Places.{map-place}
use Rattle.kin_rules.proofs.LayerRows.{has-filter, places-of}
use Rattle.kin_rules.proofs.LayerViews.{has-sources, inputs-whole, map-same}

count-same : {X : Type 0} (p q : X → Bool) (xs : List X) → ((x : X) → p x ≡ q x) → count_by p xs ≡ count_by q xs
count-same p q [] same = refl
count-same p q (x ∷ xs) same = count-cons p x xs ∙ ap₂ (λ (b : Bool) (n : ℕ). cond b 1 0 + n) (same x) (count-same p q xs same) ∙ sym (count-cons q x xs)

pub count-map : {X Y : Type 0} (p : Y → Bool) (f : X → Y) (xs : List X) → count_by p (map f xs) ≡ count_by (λ x. p (f x)) xs
count-map p f [] = refl
count-map p f (x ∷ xs) = count-cons p (f x) (map f xs) ∙ ap (λ (n : ℕ). cond (p (f x)) 1 0 + n) (count-map p f xs) ∙ sym (count-cons (λ y. p (f y)) x xs)

count-permutation : {X : Type 0} (p : X → Bool) (xs ys : List X) → IsPermutation xs ys → count_by p xs ≡ count_by p ys
count-permutation p xs ys h = sym (sum_by-IsPermutation (λ x. cond (p x) 1 0) xs ys h)

pub count-append : {X : Type 0} (p : X → Bool) (xs ys : List X) → count_by p (xs ++ ys) ≡ count_by p xs + count_by p ys
count-append p xs ys = sum_by-append (λ x. cond (p x) 1 0) xs ys

-- uses of a user before a place, in the graph
used-before-is : (w : User) (e : Use) (xs : List TagUse) → is_earlier e (map use_at (filter (λ x. same_user w x.user) xs)) ≡ list_any (λ x. is_use w e.tag x && is_before x.first e.first) xs
used-before-is w e [] = refl
used-before-is w e (x ∷ xs) = here (same_user w x.user) (used-before-is w e xs)
  where
    rest : Bool
    rest = list_any (λ y. is_use w e.tag y && is_before y.first e.first) xs

    here : (b : Bool) → is_earlier e (map use_at (filter (λ y. same_user w y.user) xs)) ≡ rest
        → is_earlier e (map use_at (cond b (x ∷ filter (λ y. same_user w y.user) xs) (filter (λ y. same_user w y.user) xs))) ≡ (((b && same_tag e.tag x.tag) && is_before x.first e.first) || rest)
    here true old = ap (λ (r : Bool). (same_tag e.tag x.tag && is_before x.first e.first) || r) old
    here false old = old

module _ (g : Graph) (uses : User → List Use) (are : (w : User) → IsPermutation (uses w) (uses_of g w)) where
  earlier-is : (e : Use) (w : User) → is_earlier e (uses w) ≡ used_before g e.tag e.first w
  earlier-is e w = list_any-IsPermutation (λ x. same_tag e.tag x.tag && is_before x.first e.first) (uses w) (uses_of g w) (are w) ∙ used-before-is w e g.uses

  -- how many of the present ends used the tag before
  among-halves : (e : Use) (hs : List Half) → count_by (is_earlier e) (map uses (map (λ (h : Half). h.other) (filter (λ h. h.present) hs))) ≡ count_by (λ h. h.present && used_before g e.tag e.first h.other) hs
  among-halves e [] = refl
  among-halves e (h ∷ hs) = here h.present (among-halves e hs) ∙ sym (count-cons (λ q. q.present && used_before g e.tag e.first q.other) h hs)
    where
      lists : List (List Use)
      lists = map uses (map (λ (q : Half). q.other) (filter (λ q. q.present) hs))

      there : ℕ
      there = count_by (λ q. q.present && used_before g e.tag e.first q.other) hs

      here : (b : Bool) → count_by (is_earlier e) lists ≡ there
          → count_by (is_earlier e) (map uses (map (λ (q : Half). q.other) (cond b (h ∷ filter (λ q. q.present) hs) (filter (λ q. q.present) hs)))) ≡ cond (b && used_before g e.tag e.first h.other) 1 0 + there
      here true old = count-cons (is_earlier e) (uses h.other) lists ∙ ap₂ (λ (c : Bool) (n : ℕ). cond c 1 0 + n) (earlier-is e h.other) old
      here false old = omega (arith, old)

  -- the entries of a user's uses
  entries-of : (t : List ℕ) (k : ℕ) (u : User) (xs : List TagUse) → count_by (is_entry t k) (map (entry_among (map uses (followees g u))) (map use_at (filter (λ x. same_user u x.user) xs)))
      ≡ count_by (λ x. same_tag t x.tag && earlier_followed g x == k) (filter (λ x. same_user u x.user) xs)
  entries-of t k u [] = refl
  entries-of t k u (x ∷ xs) = here (same_user u x.user) refl (entries-of t k u xs)
    where
      lists : List (List Use)
      lists = map uses (followees g u)

      rest : List TagUse
      rest = filter (λ y. same_user u y.user) xs

      here : (b : Bool) → same_user u x.user ≡ b → count_by (is_entry t k) (map (entry_among lists) (map use_at rest)) ≡ count_by (λ y. same_tag t y.tag && earlier_followed g y == k) rest
          → count_by (is_entry t k) (map (entry_among lists) (map use_at (cond b (x ∷ rest) rest))) ≡ count_by (λ y. same_tag t y.tag && earlier_followed g y == k) (cond b (x ∷ rest) rest)
      here false e old = old
      here true e old =
          let same : u ≡ x.user = same_user-true u x.user e in
          let k-is : count_by (is_earlier (use_at x)) lists ≡ earlier_followed g x = among-halves (use_at x) (outs g u) ∙ ap (λ (w : User). count_by (λ h. h.present && used_before g x.tag x.first h.other) (outs g w)) same in
          count-cons (is_entry t k) (entry_among lists (use_at x)) (map (entry_among lists) (map use_at rest))
          ∙ ap₂ (λ (n m : ℕ). cond (same_tag t x.tag && n == k) 1 0 + m) k-is old
          ∙ sym (count-cons (λ y. same_tag t y.tag && earlier_followed g y == k) x rest)

  -- whatever the order of the uses
  pub entries-are : (t : List ℕ) (k : ℕ) (u : User) → count_by (is_entry t k) (map (entry_among (map uses (followees g u))) (uses u)) ≡ uses_with g t k u
  entries-are t k u =
      let lists = map uses (followees g u) in
      count-permutation (is_entry t k) (map (entry_among lists) (uses u)) (map (entry_among lists) (uses_of g u)) (IsPermutation-map (entry_among lists) (uses u) (uses_of g u) (are u))
      ∙ entries-of t k u g.uses

apart : (w : User) (vs : List User) → AllByRecursion (λ v. same_user w v ≡ false) vs → has_user vs w ≡ false
apart w [] all = refl
apart w (v ∷ vs) all = rw (all.0, apart w vs all.1) refl

-- a user who isn't there is not counted
none-there : (n : ℕ) (y : User) (us : List User) → has_user us y ≡ false → sum_by (λ u. cond (same_user u y) n 0) us ≡ 0
none-there n y [] h = refl
none-there n y (v ∷ vs) h = sum_by-cons (λ w. cond (same_user w y) n 0) v vs ∙ step (same_user y v) refl h (none-there n y vs)
  where
    step : (b : Bool) → same_user y v ≡ b → (b || has_user vs y) ≡ false → (has_user vs y ≡ false → sum_by (λ w. cond (same_user w y) n 0) vs ≡ 0) → cond (same_user v y) n 0 + sum_by (λ w. cond (same_user w y) n 0) vs ≡ 0
    step true e h old = absurd cc
    step false e h old = rw (same_user-sym v y, e, old h) refl

-- a user among users who are each there once is counted once
one-user : (n : ℕ) (y : User) (us : List User) → IsDistinct same_user us → has_user us y ≡ true → sum_by (λ u. cond (same_user u y) n 0) us ≡ n
one-user n y [] once there = absurd cc
one-user n y (u ∷ us) once there = sum_by-cons (λ w. cond (same_user w y) n 0) u us ∙ here (cases_Bool (same_user y u)) (one-user n y us (IsDistinct-tail same_user u us once))
  where
    here : (same_user y u ≡ true) ⊎ (same_user y u ≡ false) → (has_user us y ≡ true → sum_by (λ w. cond (same_user w y) n 0) us ≡ n) → cond (same_user u y) n 0 + sum_by (λ w. cond (same_user w y) n 0) us ≡ n
    here (inl e) old =
        let out : has_user us y ≡ false = subst (λ (z : User). has_user us z ≡ false) (sym (same_user-true y u e)) (apart u us (IsDistinct-head same_user u us once)) in
        rw (same_user-sym u y, e, none-there n y us out) (omega arith)
    here (inr e) old = rw (same_user-sym u y, e) (omega (arith, old (subst (λ (b : Bool). (b || has_user us y) ≡ true) e there)))

-- what is counted user by user is counted whole
pub by-users : (p : TagUse → Bool) (us : List User) (xs : List TagUse) → IsDistinct same_user us → ((y : User) → has_user (map (λ (x : TagUse). x.user) xs) y ≡ true → has_user us y ≡ true)
    → sum_by (λ u. count_by p (filter (λ x. same_user u x.user) xs)) us ≡ count_by p xs
by-users p us [] once there = nothing us
  where
    nothing : (vs : List User) → sum_by (λ (u : User). 0) vs ≡ 0
    nothing [] = refl
    nothing (v ∷ vs) = let a = sum_by-cons (λ (u : User). 0) v vs in let old = nothing vs in omega (arith, a, old)
by-users p us (x ∷ xs) once there =
    let mine : sum_by (λ u. cond (same_user u x.user) (cond (p x) 1 0) 0) us ≡ cond (p x) 1 0 = one-user (cond (p x) 1 0) x.user us once (there x.user (rw (same_user-refl x.user) refl)) in
    let rest : sum_by (λ u. count_by p (filter (λ y. same_user u y.user) xs)) us ≡ count_by p xs = by-users p us xs once (λ y h. there y (later (same_user y x.user) y h)) in
    let whole = count-cons p x xs in
    let parts = split us in
    omega (arith, mine, rest, whole, parts)
  where
    later : (b : Bool) (y : User) → has_user (map (λ (z : TagUse). z.user) xs) y ≡ true → (b || has_user (map (λ (z : TagUse). z.user) xs) y) ≡ true
    later true y h = refl
    later false y h = h

    one : (b : Bool) (u : User) → count_by p (cond b (x ∷ filter (λ y. same_user u y.user) xs) (filter (λ y. same_user u y.user) xs)) ≡ cond b (cond (p x) 1 0) 0 + count_by p (filter (λ y. same_user u y.user) xs)
    one true u = count-cons p x (filter (λ y. same_user u y.user) xs)
    one false u = omega arith

    split : (vs : List User) → sum_by (λ u. count_by p (filter (λ y. same_user u y.user) (x ∷ xs))) vs ≡ sum_by (λ u. cond (same_user u x.user) (cond (p x) 1 0) 0) vs + sum_by (λ u. count_by p (filter (λ y. same_user u y.user) xs)) vs
    split [] = refl
    split (v ∷ vs) =
        let a = sum_by-cons (λ u. count_by p (filter (λ y. same_user u y.user) (x ∷ xs))) v vs in
        let b = sum_by-cons (λ u. cond (same_user u x.user) (cond (p x) 1 0) 0) v vs in
        let c = sum_by-cons (λ u. count_by p (filter (λ y. same_user u y.user) xs)) v vs in
        let d = one (same_user v x.user) v in
        let e = split vs in
        omega (arith, a, b, c, d, e)

sum-push : (f : User → ℕ) (us : List User) (u : User) → sum_by f (us ++ u ∷ []) ≡ sum_by f us + f u
sum-push f [] u = let a = sum_by-cons f u [] in omega (arith, a)
sum-push f (v ∷ vs) u =
    let a = sum_by-cons f v (vs ++ u ∷ []) in
    let b = sum_by-cons f v vs in
    let old = sum-push f vs u in
    omega (arith, a, b, old)

-- one place more
pub earlier-more : (p : List Use → Bool) (df own : Facts) (facts : List Facts) (ends : List ℕ) (i n m : ℕ) (uses : List Use) → i < length ends → get_or ends i 0 < length facts → uses ≡ (get_or facts (get_or ends i 0) own).uses
    → n ≡ count_by p (uses_at df facts (take i ends)) → m ≡ n + cond (p uses) 1 0 → m ≡ count_by p (uses_at df facts (take (i + 1) ends))
earlier-more p df own facts ends i n m uses lt below is old more =
    let same : uses ≡ (get_or facts (get_or ends i 0) df).uses = is ∙ ap (λ (f : Facts). f.uses) (any-default facts (get_or ends i 0) own df below) in
    let whole : count_by p (uses_at df facts (take (i + 1) ends)) ≡ count_by p (uses_at df facts (take i ends)) + count_by p ((get_or facts (get_or ends i 0) df).uses ∷ [])
    = ap (λ (xs : List (List Use)). count_by p xs) (map_more (λ (j : ℕ). (get_or facts j df).uses) ends i 0 lt) ∙ count-append p (uses_at df facts (take i ends)) ((get_or facts (get_or ends i 0) df).uses ∷ []) in
    let last = count-cons p ((get_or facts (get_or ends i 0) df).uses) [] in
    let one : cond (p uses) 1 0 ≡ cond (p (get_or facts (get_or ends i 0) df).uses) 1 0 = ap {B = ℕ} (λ (us : List Use). cond (p us) 1 0) same in
    omega (arith, whole, last, one, old, more)
  where
    any-default : (fs : List Facts) (j : ℕ) (a b : Facts) → j < length fs → get_or fs j a ≡ get_or fs j b
    any-default [] j a b lt = absurd (omega (arith, lt))
    any-default (f ∷ fs) zero a b lt = refl
    any-default (f ∷ fs) (suc j) a b lt = any-default fs j a b (omega (arith, lt))

-- one entry more, after others
pub entries-more : (f : Use → UseK) (xs : List Use) (i : ℕ) (x d : Use) (y : UseK) (before was is : List UseK) → i < length xs → x ≡ get_or xs i d → y ≡ f x → was ≡ before ++ map f (take i xs) → is ≡ was ++ y ∷ [] → is ≡ before ++ map f (take (i + 1) xs)
entries-more f xs i x d y before was is lt at value old push =
    push ∙ ap (λ (ys : List UseK). ys ++ y ∷ []) old ∙ append_assoc before (map f (take i xs)) (y ∷ [])
    ∙ ap (λ (ys : List UseK). before ++ ys) (ap (λ (z : UseK). map f (take i xs) ++ z ∷ []) (value ∙ ap f at) ∙ sym (map_more f xs i d lt))

-- the uses of users who are there, read at their places
uses-at-places : (df : Facts) (v : PartView) (us ys : List User) → ((y : User) → has_user ys y ≡ true → has_user us y ≡ true) → uses_at df (map (facts_seen v) us) (map (place us) ys) ≡ map v.uses ys
uses-at-places df v us [] there = refl
uses-at-places df v us (y ∷ ys) there =
    ap₂ (λ (xs : List Use) (rest : List (List Use)). xs ∷ rest) (ap (λ (f : Facts). f.uses) (map-place (facts_seen v) us y df (there y (or_left (same_user y y) (has_user ys y) (same_user-refl y)))))
    (uses-at-places df v us ys (λ z h. there z (or_right (same_user z y) (has_user ys z) h)))

module _ (g : Graph) (v : PartView) (whole : IsViewOf g v) (us : List User) (are : AreVertices v us) (facts : List Facts) (rows : List (List ℕ)) (known : facts ≡ map (facts_seen v) us) (read : rows ≡ rows_of us (neighbours_seen side.Out v)) where
  -- the entries of one user more
  pub exposure-more : (t : List ℕ) (n k : ℕ) (own : Facts) (ends : List ℕ) (uses : List Use) (was is : List UseK) → k < length facts → own ≡ get_or facts k own → uses ≡ own.uses → ends ≡ get_or rows k []
      → ((df : Facts) → is ≡ was ++ map (entry_among (uses_at df facts ends)) uses) → count_by (is_entry t n) was ≡ sum_by (uses_with g t n) (take k us) → count_by (is_entry t n) is ≡ sum_by (uses_with g t n) (take (k + 1) us)
  exposure-more t n k own ends uses was is below o used at grown old =
      let lt : k < length us = subst (λ (m : ℕ). k < m) (ap (λ (fs : List Facts). length fs) known ∙ length-map us (facts_seen v)) below in
      let d : User = record { 0 = 0 } in
      let u = get_or us k d in
      let own-is : own ≡ facts_seen v u = o ∙ ap (λ (fs : List Facts). get_or fs k own) known ∙ get_or-map (facts_seen v) us k d own lt in
      let uses-is : uses ≡ v.uses u = used ∙ ap (λ (f : Facts). f.uses) own-is in
      let ends-is : ends ≡ map (place us) (filter (has_user us) (neighbours_seen side.Out v u))
      = at ∙ ap (λ (rs : List (List ℕ)). get_or rs k []) read ∙ get_or-map (λ (w : User). places_of us (neighbours_seen side.Out v w)) us k d [] lt ∙ places-of us (neighbours_seen side.Out v u) in
      let lists-are : uses_at own facts ends ≡ map v.uses (followees g u)
      = ap₂ (λ (fs : List Facts) (es : List ℕ). uses_at own fs es) known ends-is
      ∙ uses-at-places own v us (filter (has_user us) (neighbours_seen side.Out v u)) (λ y h. has-filter us (neighbours_seen side.Out v u) y h)
      ∙ ap (λ (ys : List User). map v.uses ys) (inputs-whole g v whole us are side.Out u) in
      let new : count_by (is_entry t n) (map (entry_among (uses_at own facts ends)) uses) ≡ uses_with g t n u
      = ap₂ (λ (lists : List (List Use)) (xs : List Use). count_by (is_entry t n) (map (entry_among lists) xs)) lists-are uses-is ∙ entries-are g v.uses whole.uses t n u in
      let both = ap (λ (es : List UseK). count_by (is_entry t n) es) (grown own) ∙ count-append (is_entry t n) was (map (entry_among (uses_at own facts ends)) uses) in
      let sums = ap (λ (ws : List User). sum_by (uses_with g t n) ws) (take_more us k d lt) ∙ sum-push (uses_with g t n) (take k us) u in
      omega (arith, both, old, new, sums)

  -- those of all users are the exposures of the graph
  pub exposure-all : (t : List ℕ) (n k : ℕ) (entries : List UseK) → length facts ≤ k → count_by (is_entry t n) entries ≡ sum_by (uses_with g t n) (take k us) → count_by (is_entry t n) entries ≡ exposure g t n
  exposure-all t n k entries end all =
      let long : length us ≤ k = subst (λ (m : ℕ). m ≤ k) (ap (λ (fs : List Facts). length fs) known ∙ length-map us (facts_seen v)) end in
      all ∙ ap (λ (ws : List User). sum_by (uses_with g t n) ws) (take_all k us long)
      ∙ by-users (λ x. same_tag t x.tag && earlier_followed g x == n) us g.uses (IsDistinct-from_sorted user_cmp us are.ascend) (λ y h. whole-vertices g v whole us are y ∙ has-sources g y ∙ or_right _ _ h)

-- the entries of the rule are those of the graph
sum-same : (f h : User → ℕ) (us : List User) → ((u : User) → f u ≡ h u) → sum_by f us ≡ sum_by h us
sum-same f h [] same = refl
sum-same f h (u ∷ us) same =
    let a = sum_by-cons f u us in
    let b = sum_by-cons h u us in
    let c = same u in
    let old = sum-same f h us same in
    omega (arith, a, b, c, old)

pub exposures-are-layers : ExposuresAreLayers
exposures-are-layers g t k =
    sum-same (λ u. count_by (is_entry t k) (layer_of exposure_rule g 1 u)) (uses_with g t k) (vertices g) each
    ∙ by-users (λ x. same_tag t x.tag && earlier_followed g x == k) (vertices g) g.uses (vertices-once g) (λ y h. has-sources g y ∙ or_right _ _ h)
  where
    each : (u : User) → count_by (is_entry t k) (layer_of exposure_rule g 1 u) ≡ uses_with g t k u
    each u =
        let inputs : List (Input (List UseK)) = inputs_of (facts_of g) (λ y. []) (followees g u) in
        let made : List UseK = map (use_k inputs) (uses_of g u) in
        let counted : (x : Use) → use_k inputs x ≡ entry_among (map (uses_of g) (followees g u)) x
        = λ x. ap (λ (n : ℕ). let e : UseK = record { tag = x.tag; k = n } in e)
        (count-map (λ (i : Input (List UseK)). is_earlier x i.facts.uses) (λ (y : User). record { facts = facts_of g y; value = [] }) (followees g u) ∙ sym (count-map (is_earlier x) (uses_of g) (followees g u))) in
        sym (count-permutation (is_entry t k) made (in_order use_k_order made) (in_order-permutes use_k_order made))
        ∙ ap (λ (es : List UseK). count_by (is_entry t k) es) (map-same (use_k inputs) (entry_among (map (uses_of g) (followees g u))) (uses_of g u) counted)
        ∙ entries-are g (uses_of g) (λ w. IsPermutation-refl (uses_of g w)) t k u
