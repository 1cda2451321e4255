-- Numbers of users in the order of their tags.
use Rattle.std.proofs.Common.{◌≡◌, ◌<◌, ◌+◌, ◌^◌, ◌-◌, ◌∙◌, ◌++◌, ◌||◌, ⊎_elim, nat_lt, ℕ, Bool, true, false, cond, min, List, [], ◌∷◌, length, map, take, drop, set, get_or, count_by, All, refl, sym, ap, ap₂, subst, arith, append-nil}
use Rattle.std.specs.List.{list_any, sum_by}
use Rattle.std.specs.List.Sorted.{IsStrictlySortedBy}
use Rattle.std.specs.BTreeMap.{is_at}
use Rattle.std.proofs.lemmas.List.{take_all, drop_all, length-map, get_or-map}
use Rattle.std.proofs.lemmas.List.Folds.{list_any_at}
use Rattle.std.proofs.lemmas.List.Sums.{sum_by-cons, sum_by_more}
use Rattle.std.proofs.lemmas.Bool.{both_ways, or_cases, or_left, ltb-true, cond-true}
use Rattle.kin_ids.specs.Users.{same_tag, tag_cmp}
use Rattle.kin_ids.proofs.Same.{same_tag-sym, same_tag-refl}
use Rattle.kin_store.specs.declared.pairs.TagUser.{TagUser}
use Rattle.kin_graph.specs.Deltas.{DeltaLists}
use Rattle.kin_changes.specs.Told.{tag_more, tells_tag}
use Rattle.kin_rules.specs.Results.{ResultView, has_tag, tag_place, tag_users_in, expo_in}
use Rattle.kin_rules.specs.Spots.{StandsAt}
use Rattle.kin_rules.proofs.Ascending.{read-map, read-none, map-at, map-off}
use Rattle.kin_rules.proofs.KeyOrders.{tag_cmp-exact}
use Rattle.kin_counts.specs.Changes.{raised}
use Rattle.kin_counts.specs.Plans.{IsTagged}
use Rattle.kin_counts.proofs.Moving.{raised-some, raised-twice, raised-above}

pub map-alike : (f g : List ℕ → ℕ) (ts : List (List ℕ)) → ((t : List ℕ) → f t ≡ g t) → map f ts ≡ map g ts
map-alike f g [] same = refl
map-alike f g (t ∷ ts) same = ap₂ (λ (n : ℕ) (ns : List ℕ). n ∷ ns) (same t) (map-alike f g ts same)

-- a tag has one user more
module _ (tags : List (List ℕ)) (f : List ℕ → ℕ) (t : List ℕ) (numbers : List ℕ) (is : numbers ≡ map f tags) where
  abbrev after : List ℕ → ℕ
  after s = raised (cond (same_tag s t) 1 0) (f s)

  off : (s : List ℕ) → same_tag t s ≡ false → f s ≡ after s
  off s e = ap (λ (b : Bool). raised (cond b 1 0) (f s)) (sym (same_tag-sym s t ∙ e))

  pub placed-at : IsStrictlySortedBy tag_cmp tags → (at : ℕ) → StandsAt tag_cmp tags t at → (n : ℕ) → n
      ≡ min (get_or numbers at 0 + 1) (2 ^ 64 - 1) → set numbers at n ≡ map after tags
  placed-at sorted at stands n e =
      let value : get_or numbers at 0 ≡ f t = ap (λ (ns : List ℕ). get_or ns at 0) is
      ∙ (ap (λ (i : ℕ). get_or (map f tags) i 0) (sym stands.place) ∙ read-map tag_cmp-exact f tags t 0 stands.one) in
      let more : n ≡ after t = e ∙ (sym (raised-some 1 (get_or numbers at 0) (omega arith))
      ∙ (ap (raised 1) value ∙ ap (λ (b : Bool). raised (cond b 1 0) (f t)) (sym (same_tag-refl t)))) in
      ap₂ (λ (ns : List ℕ) (m : ℕ). set ns at m) is more ∙ (ap (λ (i : ℕ). set (map f tags) i (after t)) (sym stands.place)
      ∙ map-at tag_cmp-exact f after tags t sorted stands.one off)

  pub placed-none : list_any (is_at (tag_cmp t)) tags ≡ false → numbers ≡ map after tags
  placed-none none = is ∙ map-off tag_cmp-exact f after tags t none off

abbrev pub rows_of : List ℕ → List TagUser → ℕ
rows_of t rows = count_by (λ (x : TagUser). same_tag t x.tag) rows

pub rows-next : (tags : List (List ℕ)) (f : List ℕ → ℕ) (rows : List TagUser) (i : ℕ) (row : TagUser) → i < length rows → row
    ≡ get_or rows i row → (new : List ℕ)
    → new ≡ map (λ s. raised (cond (same_tag s row.tag) 1 0) (raised (rows_of s (take i rows)) (f s))) tags → new
    ≡ map (λ s. raised (rows_of s (take (i + 1) rows)) (f s)) tags
rows-next tags f rows i row lt is new e =
    e ∙ map-alike (λ s. raised (cond (same_tag s row.tag) 1 0) (raised (rows_of s (take i rows)) (f s)))
    (λ s. raised (rows_of s (take (i + 1) rows)) (f s)) tags
    (λ s. raised-twice (rows_of s (take i rows)) (cond (same_tag s row.tag) 1 0) (f s)
    ∙ ap (λ (m : ℕ). raised m (f s)) (ap (λ (x : TagUser). rows_of s (take i rows) + cond (same_tag s x.tag) 1 0) is
    ∙ sym (sum_by_more (λ (x : TagUser). cond (same_tag s x.tag) 1 0) rows i row lt)))

pub deltas-next : (tags : List (List ℕ)) (f : List ℕ → ℕ) (ds : List DeltaLists) (i : ℕ) (d : DeltaLists) → i < length ds → d
    ≡ get_or ds i d → (rows : List TagUser) → rows ≡ d.tag_users → (new : List ℕ)
    → new ≡ map (λ s. raised (rows_of s rows) (raised (tag_more (take i ds) s) (f s))) tags → new
    ≡ map (λ s. raised (tag_more (take (i + 1) ds) s) (f s)) tags
deltas-next tags f ds i d lt is rows told new e =
    e ∙ map-alike (λ s. raised (rows_of s rows) (raised (tag_more (take i ds) s) (f s)))
    (λ s. raised (tag_more (take (i + 1) ds) s) (f s)) tags
    (λ s. raised-twice (tag_more (take i ds) s) (rows_of s rows) (f s)
    ∙ ap (λ (m : ℕ). raised m (f s)) (ap (λ (xs : List TagUser). tag_more (take i ds) s + rows_of s xs) told
    ∙ (ap (λ (x : DeltaLists). tag_more (take i ds) s + rows_of s x.tag_users) is
    ∙ sym (sum_by_more (λ (x : DeltaLists). rows_of s x.tag_users) ds i d lt))))

-- what a slice writes back is the whole list
pub written-back : (n : ℕ) (new items : List ℕ) → length new ≡ length items → n ≡ length items → take n (new ++ drop (length new) items)
    ≡ new
written-back n new items same long =
    ap (λ (xs : List ℕ). take n (new ++ xs)) (drop_all (length new) items (omega (arith, same)))
    ∙ (ap (take n) (append-nil new) ∙ take_all n new (omega (arith, same, long)))

-- ---- what is read of numbers that are made of their tags
module _ (tags : List (List ℕ)) (f : List ℕ → ℕ) (numbers : List ℕ) (is : numbers ≡ map f tags) where
  pub numbers-long : length numbers ≡ length tags
  numbers-long = ap (λ (ns : List ℕ). length ns) is ∙ length-map tags f

  pub numbers-read : (t : List ℕ) → get_or numbers (tag_place tags t) 0 ≡ cond (has_tag tags t) (f t) 0
  numbers-read t = ap (λ (ns : List ℕ). get_or ns (tag_place tags t) 0) is ∙ by_test (has_tag tags t) refl where
    by_test : (b : Bool) → has_tag tags t ≡ b → get_or (map f tags) (tag_place tags t) 0 ≡ cond b (f t) 0
    by_test true e = read-map tag_cmp-exact f tags t 0 e
    by_test false e = read-none tag_cmp-exact tags (map f tags) t 0 (length-map tags f) e

  pub numbers-some : ((t : List ℕ) → has_tag tags t ≡ true → 0 < f t) → All (λ n. 0 < n) numbers
  numbers-some some = subst (All (λ n. 0 < n)) (sym is) (λ i d lt.
      let within : i < length tags = omega (arith, length-map tags f, lt) in
      subst (λ (n : ℕ). 0 < n) (sym (get_or-map f tags i [] d within))
      (some (get_or tags i []) (list_any_at (same_tag (get_or tags i [])) tags i [] within (same_tag-refl (get_or tags i [])))))

-- ---- a tag of which deltas tell has a new user
any-sum : {X : Type 0} (q : X → Bool) (n : X → ℕ) → ((x : X) → q x ≡ true → 0 < n x) → (xs : List X) → list_any q xs ≡ true
    → 0 < sum_by n xs
any-sum q n some [] e = absurd (both_ways false refl e)
any-sum q n some (x ∷ xs) e =
    ⊎_elim (λ (here : q x ≡ true). omega (arith, sum_by-cons n x xs, some x here))
    (λ (there : list_any q xs ≡ true). omega (arith, sum_by-cons n x xs, any-sum q n some xs there))
    (or_cases (q x) (list_any q xs) e)

tells-more : (ds : List DeltaLists) (t : List ℕ) → tells_tag ds t ≡ true → 0 < tag_more ds t
tells-more ds t = any-sum (λ (d : DeltaLists). list_any (λ (x : TagUser). same_tag t x.tag) d.tag_users)
    (λ (d : DeltaLists). rows_of t d.tag_users)
    (λ d. any-sum (λ (x : TagUser). same_tag t x.tag) (λ (x : TagUser). cond (same_tag t x.tag) 1 0)
    (λ x e. rw e (omega arith)) d.tag_users) ds

-- the tag columns that are planned
module _ (old : ResultView) (ds : List DeltaLists) (was next : List (List ℕ)) (same : was ≡ old.tags)
    (in_use : (t : List ℕ) → has_tag was t ≡ nat_lt 0 (tag_users_in old t))
    (all : (t : List ℕ) → has_tag next t ≡ (has_tag was t || tells_tag ds t)) where
  abbrev pub number : List ℕ → ℕ
  number t = raised (tag_more ds t) (tag_users_in old t)

  pub number-some : (t : List ℕ) → has_tag next t ≡ true → 0 < number t
  number-some t there =
      ⊎_elim (λ (before : has_tag was t ≡ true). let some = ltb-true 0 (tag_users_in old t) (sym (in_use t) ∙ before) in raised-above
      (tag_more ds t) (tag_users_in old t) (omega (arith, some)))
      (λ (new : tells_tag ds t ≡ true). let more = tells-more ds t new in raised-above (tag_more ds t) (tag_users_in old t)
      (omega (arith, more)))
      (or_cases (has_tag was t) (tells_tag ds t) (sym (all t) ∙ there))

  pub planned-tags : IsStrictlySortedBy tag_cmp next → (numbers : List ℕ) → numbers ≡ map number next → (r : ResultView)
      → (r.tags ≡ next) × (r.tag_users ≡ numbers)
      → ((t : List ℕ) → expo_in r t ≡ cond (has_tag next t) (expo_in old t) []) → IsTagged old ds r
  planned-tags ascend numbers is r tagged expos = record {
    ascend = subst (IsStrictlySortedBy tag_cmp) (sym tagged.0) ascend;
    all = λ t. ap (λ (ts : List (List ℕ)). has_tag ts t) tagged.0
        ∙ (all t ∙ ap (λ (ts : List (List ℕ)). has_tag ts t || tells_tag ds t) same);
    numbers = λ t. ap₂ (λ (ns : List ℕ) (ts : List (List ℕ)). get_or ns (tag_place ts t) 0) tagged.1 tagged.0
        ∙ (numbers-read next number numbers is t ∙ ap (λ (ts : List (List ℕ)). cond (has_tag ts t) (number t) 0) (sym tagged.0));
    expos = λ t there. expos t ∙ cond-true (has_tag next t) (expo_in old t) []
        (all t ∙ or_left _ _ (ap (λ (ts : List (List ℕ)). has_tag ts t) same ∙ there));
  }
