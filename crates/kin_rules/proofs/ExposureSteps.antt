-- Counting the entries of tags, step by step.
use Rattle.std.proofs.Common.{◌≡◌, ◌<◌, ◌≤◌, ◌+◌, ◌∙◌, ◌==◌, ℕ, zero, suc, Bool, true, false, eqb, ltb, nat_lt, List, [], ◌∷◌, ◌++◌, length, get_or, set, take, map, filter, cond, replicate, arith, refl, sym, ap, subst}
use Rattle.std.specs.Prelude.{count_by}
use Rattle.std.specs.List.{list_any, range_with_len}
use Rattle.std.specs.List.Sorted.{IsStrictlySortedBy}
use Rattle.std.proofs.lemmas.Bool.Decides.{nat_tests}
use Rattle.std.proofs.lemmas.List.{append-nil, get_or-map, length-map, map-append, map-set, get_or-set_same, get_or-set_other, length-set, take_more}
use Rattle.std.proofs.lemmas.List.Elements.{filter-append}
use Rattle.std.proofs.lemmas.List.FromFn.{filter_of_map_range_with_len_more}
use Rattle.std.proofs.lemmas.List.Sums.{count_by-le-length, count_by_more_no, count_by_more_yes}
use Rattle.kin_ids.specs.Users.{tag_cmp, same_tag}
use Rattle.kin_ids.proofs.Same.{same_tag-refl, same_tag-sym}
use Rattle.kin_rules.specs.declared.exposure_rules.UseK.{UseK}
use Rattle.kin_rules.specs.declared.numbers.KCount.{KCount}
use Rattle.kin_rules.specs.ExposureLists.{counted, ks_of, listed}
use Rattle.kin_rules.specs.Spots.{StandsAt}
use Rattle.kin_rules.proofs.Ascending.{map-at, map-off, read-map}
use Rattle.kin_rules.proofs.KeyOrders.{tag_cmp-exact}

ks-push : (es : List UseK) (e : UseK) (t : List ℕ) → ks_of (es ++ e ∷ []) t ≡ cond (same_tag t e.tag) (ks_of es t ++ e.k ∷ []) (ks_of es t)
ks-push es e t =
    ap (map (λ (d : UseK). d.k)) (filter-append (λ (d : UseK). same_tag t d.tag) es (e ∷ []))
    ∙ map-append (λ (d : UseK). d.k) (filter (λ (d : UseK). same_tag t d.tag) es) (filter (λ (d : UseK). same_tag t d.tag) (e ∷ [])) ∙ here (same_tag t e.tag)
  where
    here : (b : Bool) → ks_of es t ++ map (λ (d : UseK). d.k) (cond b (e ∷ []) []) ≡ cond b (ks_of es t ++ e.k ∷ []) (ks_of es t)
    here true = refl
    here false = append-nil (ks_of es t)

others : (es : List UseK) (e : UseK) (y : List ℕ) → same_tag e.tag y ≡ false → ks_of es y ≡ ks_of (es ++ e ∷ []) y
others es e y off = sym (ks-push es e y ∙ rw (same_tag-sym y e.tag ∙ off) refl)

-- no row of any tag yet
pub no-rows : (ts : List (List ℕ)) → replicate (length ts) [] ≡ map (ks_of []) ts
no-rows [] = refl
no-rows (t ∷ ts) = let rest = no-rows ts in cc

pub put-row : {R : Type 0} (items : R → List ℕ) (rows : List R) (tags : List (List ℕ)) (es : List UseK) (e : UseK) (at : ℕ) (v d : R) → IsStrictlySortedBy tag_cmp tags
    → StandsAt tag_cmp tags e.tag at → at < length rows → items v ≡ items (get_or rows at d) ++ e.k ∷ [] → map items rows ≡ map (ks_of es) tags
    → map items (set rows at v) ≡ map (ks_of (es ++ e ∷ [])) tags
put-row items rows tags es e at v d sorted stands lt is was =
    map-set items rows at v ∙ ap (λ (l : List (List ℕ)). set l at (items v)) was
    ∙ ap (λ (l : List ℕ). set (map (ks_of es) tags) at l) row ∙ ap (λ (n : ℕ). set (map (ks_of es) tags) n (ks_of (es ++ e ∷ []) e.tag)) (sym stands.place)
    ∙ map-at tag_cmp-exact (ks_of es) (ks_of (es ++ e ∷ [])) tags e.tag sorted stands.one (others es e)
  where
    old : items (get_or rows at d) ≡ ks_of es e.tag
    old = sym (get_or-map items rows at d (items d) lt) ∙ ap (λ (l : List (List ℕ)). get_or l at (items d)) was ∙ ap (λ (n : ℕ). get_or (map (ks_of es) tags) n (items d)) (sym stands.place)
        ∙ read-map tag_cmp-exact (ks_of es) tags e.tag (items d) stands.one

    row : items v ≡ ks_of (es ++ e ∷ []) e.tag
    row = is ∙ ap (λ (l : List ℕ). l ++ e.k ∷ []) old ∙ sym (ks-push es e e.tag ∙ rw (same_tag-refl e.tag) refl)

pub keep-rows : {R : Type 0} (items : R → List ℕ) (rows : List R) (tags : List (List ℕ)) (es : List UseK) (e : UseK) → list_any (same_tag e.tag) tags ≡ false → map items rows ≡ map (ks_of es) tags
    → map items rows ≡ map (ks_of (es ++ e ∷ [])) tags
keep-rows items rows tags es e none was = was ∙ map-off tag_cmp-exact (ks_of es) (ks_of (es ++ e ∷ [])) tags e.tag none (others es e)

-- ---- how often each number stands among some

abbrev AreCounts : ℕ → List ℕ → List ℕ → Type 0
AreCounts n counts ks = (length counts ≡ n) × ((j : ℕ) → j < n → get_or counts j 0 ≡ count_by (λ x. x == j) ks)

pub count-more : (n : ℕ) (counts ks : List ℕ) (i k d : ℕ) → i < length ks → get_or ks i d ≡ k → k < n → AreCounts n counts (take i ks) → AreCounts n (set counts k (get_or counts k 0 + 1)) (take (i + 1) ks)
count-more n counts ks i k d lt is less was = (length-set counts k (get_or counts k 0 + 1) ∙ was.0, each)
  where
    each : (j : ℕ) → j < n → get_or (set counts k (get_or counts k 0 + 1)) j 0 ≡ count_by (λ x. x == j) (take (i + 1) ks)
    each j jn = here (eqb k j) refl
      where
        here : (b : Bool) → eqb k j ≡ b → get_or (set counts k (get_or counts k 0 + 1)) j 0 ≡ count_by (λ x. x == j) (take (i + 1) ks)
        here true e =
            let same : k ≡ j = grind (arith, nat_tests, e) in
            let long = was.0 in
            subst (λ (m : ℕ). get_or (set counts k (get_or counts k 0 + 1)) m 0 ≡ count_by (λ x. x == m) (take (i + 1) ks)) same
            (get_or-set_same counts k (get_or counts k 0 + 1) 0 (omega (arith, long, less)) ∙ ap (λ (m : ℕ). m + 1) (was.1 k less)
            ∙ sym (count_by_more_yes (λ x. x == k) ks i d lt (subst (λ (m : ℕ). (m == k) ≡ true) (sym is) (grind (arith, nat_tests)))))
        here false e =
            get_or-set_other counts k j (get_or counts k 0 + 1) 0 (λ (q : j ≡ k). grind (arith, nat_tests, e, q)) ∙ was.1 j jn
            ∙ sym (count_by_more_no (λ x. x == j) ks i d lt (subst (λ (m : ℕ). (m == j) ≡ false) (sym is) e))

pub count-past : (n : ℕ) (counts ks : List ℕ) (i k d : ℕ) → i < length ks → get_or ks i d ≡ k → n ≤ k → AreCounts n counts (take i ks) → AreCounts n counts (take (i + 1) ks)
count-past n counts ks i k d lt is le was = (
  was.0,
  λ j jn. was.1 j jn
      ∙ sym (count_by_more_no (λ x. x == j) ks i d lt (subst (λ (m : ℕ). (m == j) ≡ false) (sym is) (grind (arith, nat_tests, le, jn)))),
)

pub count-fits : (ks : List ℕ) (i k : ℕ) → count_by (λ x. x == k) (take i ks) ≤ length (take i ks)
count-fits ks i k = count_by-le-length (λ x. x == k) (take i ks)

range-same : {A : Type 0} (f h : ℕ → A) (n a : ℕ) → ((k : ℕ) → a ≤ k → k < a + n → f k ≡ h k) → map f (range_with_len a n) ≡ map h (range_with_len a n)
range-same f h zero a e = refl
range-same {A = A} f h (suc n) a e =
    ap (λ (x : A). x ∷ map f (range_with_len (a + 1) n)) (e a (omega arith) (omega arith))
    ∙ ap (λ (xs : List A). h a ∷ xs) (range-same f h n (a + 1) (λ k le lt. e k (omega (arith, le)) (omega (arith, lt))))

-- the counts that aren't 0 are what is counted
pub listed-counted : (counts ks : List ℕ) (n : ℕ) → AreCounts n counts ks → listed counts ≡ counted ks n
listed-counted counts ks n are =
    ap (filter (λ (c : KCount). nat_lt 0 c.users))
    (ap (λ (m : ℕ). map (λ (k : ℕ). let c : KCount = record { k = k; users = get_or counts k 0 } in c) (range_with_len 0 m)) are.0
    ∙ range-same (λ (k : ℕ). let c : KCount = record { k = k; users = get_or counts k 0 } in c) (λ (k : ℕ). let c : KCount = record { k = k; users = count_by (λ x. x == k) ks } in c) n 0
    (λ k le lt. ap (λ (m : ℕ). let c : KCount = record { k = k; users = m } in c) (are.1 k (omega (arith, lt)))))

abbrev listing : List ℕ → ℕ → KCount
listing counts k = record { k = k; users = get_or counts k 0 }

-- one count more is listed, where it isn't 0
pub list-more : (counts : List ℕ) (i : ℕ) (list : List KCount) → list ≡ filter (λ (c : KCount). nat_lt 0 c.users) (map (listing counts) (range_with_len 0 i)) → 0 < get_or counts i 0
    → list ++ listing counts i ∷ [] ≡ filter (λ (c : KCount). nat_lt 0 c.users) (map (listing counts) (range_with_len 0 (i + 1)))
list-more counts i list was some =
    ap (λ (l : List KCount). l ++ listing counts i ∷ []) was
    ∙ sym (filter_of_map_range_with_len_more (λ (c : KCount). nat_lt 0 c.users) (listing counts) 0 i i (omega arith) ∙ (let on : nat_lt 0 (get_or counts i 0) ≡ true = grind (arith, nat_tests, some) in rw on refl))

pub list-none : (counts : List ℕ) (i : ℕ) (list : List KCount) → list ≡ filter (λ (c : KCount). nat_lt 0 c.users) (map (listing counts) (range_with_len 0 i)) → get_or counts i 0 ≡ 0
    → list ≡ filter (λ (c : KCount). nat_lt 0 c.users) (map (listing counts) (range_with_len 0 (i + 1)))
list-none counts i list was none =
    was ∙ sym (filter_of_map_range_with_len_more (λ (c : KCount). nat_lt 0 c.users) (listing counts) 0 i i (omega arith) ∙ rw none (append-nil _))

-- the list of one tag more
pub lists-more : (entries : List UseK) (f : List ℕ → ℕ) (tags : List (List ℕ)) (i : ℕ) (d : List ℕ) (lists : List (List KCount)) (new : List KCount) → i < length tags
    → lists ≡ map (λ t. counted (ks_of entries t) (f t)) (take i tags) → new ≡ counted (ks_of entries (get_or tags i d)) (f (get_or tags i d))
    → lists ++ new ∷ [] ≡ map (λ t. counted (ks_of entries t) (f t)) (take (i + 1) tags)
lists-more entries f tags i d lists new lt was is =
    ap (λ (l : List (List KCount)). l ++ new ∷ []) was ∙ ap (λ (x : List KCount). map (λ t. counted (ks_of entries t) (f t)) (take i tags) ++ x ∷ []) is
    ∙ sym (ap (map (λ t. counted (ks_of entries t) (f t))) (take_more tags i d lt) ∙ map-append (λ t. counted (ks_of entries t) (f t)) (take i tags) (get_or tags i d ∷ []))

-- one number more is counted, where it is below n
pub count-step : (n : ℕ) (counts new ks : List ℕ) (i : ℕ) → i < length ks
    → new ≡ cond (ltb (get_or ks i 0) (length counts)) (set counts (get_or ks i 0) (get_or counts (get_or ks i 0) 0 + 1)) counts
    → AreCounts n counts (take i ks) → AreCounts n new (take (i + 1) ks)
count-step n counts new ks i lt is was = here (ltb (get_or ks i 0) (length counts)) refl is
  where
    here : (b : Bool) → ltb (get_or ks i 0) (length counts) ≡ b → new ≡ cond b (set counts (get_or ks i 0) (get_or counts (get_or ks i 0) 0 + 1)) counts → AreCounts n new (take (i + 1) ks)
    here true e q = let long = was.0 in subst (λ (l : List ℕ). AreCounts n l (take (i + 1) ks)) (sym q) (count-more n counts ks i (get_or ks i 0) 0 lt refl (grind (arith, nat_tests, e, long)) was)
    here false e q = let long = was.0 in subst (λ (l : List ℕ). AreCounts n l (take (i + 1) ks)) (sym q) (count-past n counts ks i (get_or ks i 0) 0 lt refl (grind (arith, nat_tests, e, long)) was)

-- what stands at a place of rows that are a function of each tag
pub row-at : {R : Type 0} (items : R → List ℕ) (rows : List R) (F : List ℕ → List ℕ) (tags : List (List ℕ)) (i : ℕ) (d : R) (e : List ℕ) → map items rows ≡ map F tags → i < length rows
    → items (get_or rows i d) ≡ F (get_or tags i e)
row-at items rows F tags i d e was lt =
    sym (get_or-map items rows i d (items d) lt) ∙ ap (λ (l : List (List ℕ)). get_or l i (items d)) was
    ∙ get_or-map F tags i e (items d) (let a = sym (length-map rows items) ∙ ap length was ∙ length-map tags F in omega (arith, a, lt))

pub number-at : (f : List ℕ → ℕ) (tags : List (List ℕ)) (ns : List ℕ) (i : ℕ) (e : List ℕ) → ns ≡ map f tags → i < length tags → get_or ns i 0 ≡ f (get_or tags i e)
number-at f tags ns i e is lt = ap (λ (l : List ℕ). get_or l i 0) is ∙ get_or-map f tags i e 0 lt
