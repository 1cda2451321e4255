-- What an evaluation makes of a view of a whole graph is its result.
use Rattle.std.proofs.Common.{◌≡◌, ◌<◌, ◌∙◌, ◌==◌, ◌&&◌, ◌+◌, eqb, ℕ, zero, suc, Bool, true, false, not, nat_lt, List, [], ◌∷◌, ◌++◌, length, take, get_or, cond, map, filter, Option, None, All, arith, refl, sym, ap, subst, zero-add}
use Rattle.std.specs.Prelude.{slice_get, count_by}
use Rattle.std.specs.List.{AllByRecursion, range_with_len}
use Rattle.std.specs.Ordering.{nat_cmp}
use Rattle.std.specs.declared.cmp.Ordering.TheVariants.{Less}
use Rattle.std.proofs.lemmas.Bool.Decides.{nat_tests}
use Rattle.std.specs.List.Sorted.{IsStrictlySortedBy}
use Rattle.std.proofs.lemmas.List.{get_or-map, length-append, length-map, map_push, take_more}
use Rattle.std.proofs.lemmas.List.Folds.{list_any_at}
use Rattle.kin_ids.proofs.Same.{same_tag-refl}
use Rattle.std.proofs.lemmas.List.Sorted.{length_permutation}
use Rattle.kin_ids.specs.declared.ids.User.{User}
use Rattle.kin_ids.specs.declared.ops.Half.{Half}
use Rattle.kin_ids.specs.Graph.{Graph, vertices, tag_users}
use Rattle.kin_ids.specs.Parts.{PartView}
use Rattle.kin_ids.specs.Users.{tag_cmp, same_tag, has_user}
use Rattle.kin_ids.specs.Wholes.{IsViewOf}
use Rattle.kin_graph.specs.Views.{is_in_use, AreVertices}
use Rattle.kin_graph.proofs.Wholes.{whole-vertices, whole-in_use}
use Rattle.kin_rules.specs.declared.exposure_rules.UseK.{UseK}
use Rattle.kin_rules.specs.declared.numbers.KCount.{KCount}
use Rattle.kin_rules.specs.declared.numbers.Num.{Num}
use Rattle.kin_rules.specs.declared.numbers.Num.TheVariants as num
use Rattle.kin_rules.specs.declared.columns.Column.{Column}
use Rattle.kin_rules.specs.Columns.{AreOf, column_of, columns_of}
use Rattle.kin_rules.specs.declared.pull_rules.Facts.{Facts}
use Rattle.kin_rules.specs.LayerTables.{facts_seen}
use Rattle.kin_rules.specs.Counts.{tag_count}
use Rattle.kin_rules.specs.Exposure.{exposure, exposures}
use Rattle.kin_rules.specs.ExposureLists.{counted, ks_of}
use Rattle.kin_rules.specs.ExposureRule.{is_entry}
use Rattle.kin_rules.specs.Instances.{hops_rule, close_rule}
use Rattle.kin_rules.specs.Nets.{net_of, hops_of, close_of}
use Rattle.kin_rules.specs.RuleLaws.{hops-laws, close-laws}
use Rattle.kin_rules.specs.Places.{place}
use Rattle.kin_rules.specs.Ranks.{rank}
use Rattle.kin_rules.specs.Results.{ColumnView, ResultView, IsResult, AreExposures, value_in, from_landmark, has_tag, tag_place, number_in, number_of}
use Rattle.kin_rules.specs.Scratches.{AreLists, in_seen, out_seen, users_seen, column_by}
use Rattle.kin_rules.proofs.Ascending.{read-map}
use Rattle.kin_rules.proofs.ColumnReads.{past-none}
use Rattle.kin_rules.proofs.EdgeRows.{least-outside}
use Rattle.kin_rules.proofs.KeyOrders.{tag_cmp-exact}
use Rattle.kin_rules.proofs.LayerViews.{map-same}
use Rattle.kin_rules.proofs.Nets.{nets-whole}
use Rattle.kin_rules.proofs.Places.{map-place}
use Rattle.kin_rules.proofs.ResultReads.{tag-past}
use Rattle.kin_rules.specs.Orderings.{count-cons}

-- what is kept of each of these users, read of any
pub user-read : (f : User → ℕ) (us : List User) (u : User) → get_or (map f us) (place us u) 0 ≡ cond (has_user us u) (f u) 0
user-read f us u = here (has_user us u) refl
  where
    here : (b : Bool) → has_user us u ≡ b → get_or (map f us) (place us u) 0 ≡ cond b (f u) 0
    here true e = map-place f us u 0 e
    here false e = past-none us (map f us) u 0 (length-map us f) e

pub tag-read : {V : Type 0} (f : List ℕ → V) (ts : List (List ℕ)) (t : List ℕ) (d : V) → get_or (map f ts) (tag_place ts t) d ≡ cond (has_tag ts t) (f t) d
tag-read f ts t d = here (has_tag ts t) refl
  where
    here : (b : Bool) → has_tag ts t ≡ b → get_or (map f ts) (tag_place ts t) d ≡ cond b (f t) d
    here true e = read-map tag_cmp-exact f ts t d e
    here false e = tag-past ts (map f ts) t d (length-map ts f) e

-- what was evaluated on a view
pub record IsEvaluated (g : Graph) (v : PartView) (ls : List User) (r : ResultView) : Type 0 where
  pub vertices : AreVertices v r.users
  pub ins : r.ins ≡ map (in_seen v) r.users
  pub outs : r.outs ≡ map (out_seen v) r.users
  pub said : r.said ≡ map v.said r.users
  pub ranks : r.ranks ≡ map (rank g) r.users
  pub tags_ascend : IsStrictlySortedBy tag_cmp r.tags
  pub tags : (t : List ℕ) → has_tag r.tags t ≡ is_in_use v t
  pub tag_users : r.tag_users ≡ map (users_seen v) r.tags
  pub expos : r.expos ≡ map (exposures g) r.tags
  pub hops : r.hops ≡ map (λ l. column_by (hops_of g l) r.users) ls
  pub close : r.close ≡ map (λ l. column_by (close_of g l) r.users) ls

module _ (g : Graph) (v : PartView) (whole : IsViewOf g v) where
  number-is : (us : List User) → AreVertices v us → (f h : User → ℕ) (ns : List ℕ) → ns ≡ map f us → ((u : User) → f u ≡ h u) → (u : User)
      → get_or ns (place us u) 0 ≡ cond (has_user (vertices g) u) (h u) 0
  number-is us are f h ns is same u =
      ap (λ (l : List ℕ). get_or l (place us u) 0) is ∙ user-read f us u
      ∙ ap (λ (b : Bool). cond b (f u) 0) (whole-vertices g v whole us are u) ∙ ap (λ (n : ℕ). cond (has_user (vertices g) u) n 0) (same u)

  pub count-is : (t : List ℕ) → users_seen v t ≡ tag_count g t
  count-is t = sym (length_permutation (v.tag_users t) (tag_users g t) (whole.tag_users t))

  none-counted : (n : ℕ) → cond (not (eqb n 0)) n 0 ≡ n
  none-counted n = here (eqb n 0) refl
    where
      here : (b : Bool) → eqb n 0 ≡ b → cond (not b) n 0 ≡ n
      here true e = let none : n ≡ 0 = grind (arith, nat_tests, e) in sym none
      here false e = refl

  tag-number : (ts : List (List ℕ)) → ((t : List ℕ) → has_tag ts t ≡ is_in_use v t) → (t : List ℕ) → get_or (map (users_seen v) ts) (tag_place ts t) 0 ≡ tag_count g t
  tag-number ts used t = tag-read (users_seen v) ts t 0 ∙ ap (λ (b : Bool). cond b (users_seen v t) 0) (used t) ∙ none-counted (length (v.tag_users t)) ∙ count-is t

  no-exposure : (t : List ℕ) → is_in_use v t ≡ false → exposures g t ≡ []
  no-exposure t off =
      let none : tag_count g t ≡ 0 = sym (count-is t) ∙ zero-of (length (v.tag_users t)) off in
      ap (λ (n : ℕ). filter (λ (c : KCount). nat_lt 0 c.users) (map (λ (k : ℕ). let c : KCount = record { k = k; users = exposure g t k } in c) (range_with_len 0 n))) none
    where
      zero-of : (n : ℕ) → not (eqb n 0) ≡ false → n ≡ 0
      zero-of n h = here (eqb n 0) refl h
        where
          here : (b : Bool) → eqb n 0 ≡ b → not b ≡ false → n ≡ 0
          here true e k = grind (arith, nat_tests, e)
          here false e k = cc

  tag-expo : (ts : List (List ℕ)) → ((t : List ℕ) → has_tag ts t ≡ is_in_use v t) → (t : List ℕ) → get_or (map (exposures g) ts) (tag_place ts t) [] ≡ exposures g t
  tag-expo ts used t = tag-read (exposures g) ts t [] ∙ here (has_tag ts t) refl
    where
      here : (b : Bool) → has_tag ts t ≡ b → cond b (exposures g t) [] ≡ exposures g t
      here true e = refl
      here false e = sym (no-exposure t (sym (used t) ∙ e))

  abbrev no_value : Option ℕ
  no_value = None

  nobody : (b : Bool) (p : ℕ) → cond b (get_or {A = Option ℕ} [] p None) None ≡ no_value
  nobody true p = refl
  nobody false p = refl

  -- the values of a rule in columns
  values-are : (us : List User) → AreVertices v us → (f : User → User → Option ℕ) → ((l u : User) → has_user (vertices g) u ≡ false → f l u ≡ None) → (ls : List User) (i : ℕ) (u : User)
      → value_in us (map (λ l. column_by (f l) us) ls) i u ≡ from_landmark f (slice_get ls i) u
  values-are us are f away [] i u = nobody (has_user us u) (place us u)
  values-are us are f away (l ∷ ls) zero u = here (has_user us u) refl
    where
      here : (b : Bool) → has_user us u ≡ b → cond b (get_or (map (f l) us) (place us u) None) None ≡ f l u
      here true e = map-place (f l) us u None e
      here false e = sym (away l u (sym (whole-vertices g v whole us are u) ∙ e))
  values-are us are f away (l ∷ ls) (suc i) u = values-are us are f away ls i u

  pub result-is : (ls : List User) (r : ResultView) → IsEvaluated g v ls r → IsResult g ls r
  result-is ls r e = record {
    users_ascend = e.vertices.ascend;
    users = whole-vertices g v whole r.users e.vertices;
    tags_ascend = e.tags_ascend;
    tags = λ t. e.tags t ∙ whole-in_use g v whole t;
    numbers = numbers;
    tag_users = λ t. ap (λ (ns : List ℕ). get_or ns (tag_place r.tags t) 0) e.tag_users ∙ tag-number r.tags e.tags t;
    expos = λ t. ap (λ (es : List (List KCount)). get_or es (tag_place r.tags t) []) e.expos ∙ tag-expo r.tags e.tags t;
    columns = ap length e.hops ∙ length-map ls (λ (l : User). column_by (hops_of g l) r.users);
    hops = λ i u. ap (λ (cs : List ColumnView). value_in r.users cs i u) e.hops ∙ values-are r.users e.vertices (hops_of g) hops-away ls i u;
    close = λ i u. ap (λ (cs : List ColumnView). value_in r.users cs i u) e.close ∙ values-are r.users e.vertices (close_of g) close-away ls i u;
  }
    where
      hops-away : (l u : User) → has_user (vertices g) u ≡ false → hops_of g l u ≡ None
      hops-away l u off = least-outside (net_of (hops_rule l) g) hops-laws (nets-whole (hops_rule l) g) u off

      close-away : (l u : User) → has_user (vertices g) u ≡ false → close_of g l u ≡ None
      close-away l u off = least-outside (net_of (close_rule l) g) close-laws (nets-whole (close_rule l) g) u off

      numbers : (which : Num) (u : User) → number_in r which u ≡ cond (has_user (vertices g) u) (number_of g which u) 0
      numbers num.In u = number-is r.users e.vertices (in_seen v) (number_of g num.In) r.ins e.ins (λ x. ap (λ (hs : List Half). count_by (λ h. h.present) hs) (whole.inn x)) u
      numbers num.Out u = number-is r.users e.vertices (out_seen v) (number_of g num.Out) r.outs e.outs (λ x. ap (λ (hs : List Half). count_by (λ h. h.present) hs) (whole.out x)) u
      numbers num.Said u = number-is r.users e.vertices v.said (number_of g num.Said) r.said e.said whole.said u
      numbers num.Rank u = number-is r.users e.vertices (rank g) (number_of g num.Rank) r.ranks e.ranks (λ x. refl) u

-- ---- entries of exposures, counted

entries-of : (t : List ℕ) (k : ℕ) (es : List UseK) → count_by (λ x. x == k) (ks_of es t) ≡ count_by (is_entry t k) es
entries-of t k [] = refl
entries-of t k (e ∷ es) = here (same_tag t e.tag) refl (entries-of t k es) ∙ sym (count-cons (is_entry t k) e es)
  where
    here : (b : Bool) → same_tag t e.tag ≡ b → count_by (λ x. x == k) (ks_of es t) ≡ count_by (is_entry t k) es
        → count_by (λ x. x == k) (map (λ (d : UseK). d.k) (cond b (e ∷ filter (λ (d : UseK). same_tag t d.tag) es) (filter (λ (d : UseK). same_tag t d.tag) es)))
        ≡ cond (same_tag t e.tag && e.k == k) 1 0 + count_by (is_entry t k) es
    here true q rest = count-cons (λ x. x == k) e.k (ks_of es t) ∙ rw (q, rest) refl
    here false q rest = rw (q, rest) (sym (zero-add (count_by (is_entry t k) es)))

-- counted, they are the tag's exposures
pub counted-is : (g : Graph) (t : List ℕ) (es : List UseK) → ((k : ℕ) → count_by (is_entry t k) es ≡ exposure g t k) → (n : ℕ) → n ≡ tag_count g t → counted (ks_of es t) n ≡ exposures g t
counted-is g t es each n is =
    ap (λ (m : ℕ). counted (ks_of es t) m) is
    ∙ ap (λ (l : List KCount). filter (λ (c : KCount). nat_lt 0 c.users) l)
    (map-same (λ (k : ℕ). let c : KCount = record { k = k; users = count_by (λ x. x == k) (ks_of es t) } in c) (λ (k : ℕ). let c : KCount = record { k = k; users = exposure g t k } in c) (range_with_len 0 (tag_count g t))
    (λ k. ap (λ (n : ℕ). let c : KCount = record { k = k; users = n } in c) (entries-of t k es ∙ each k)))

all-passing : {A : Type 0} (p : A → Bool) (P : A → Type 0) → ((x : A) → p x ≡ true → P x) → (xs : List A) → All P (filter p xs)
all-passing p P holds [] = λ k d lt. absurd (omega (arith, lt))
all-passing p P holds (x ∷ xs) = here (p x) refl (all-passing p P holds xs)
  where
    here : (b : Bool) → p x ≡ b → All P (filter p xs) → All P (cond b (x ∷ filter p xs) (filter p xs))
    here true e rest = cons
      where
        cons : (k : ℕ) (d : _) → k < length (x ∷ filter p xs) → P (get_or (x ∷ filter p xs) k d)
        cons zero d lt = holds x e
        cons (suc k) d lt = rest k d (omega (arith, lt))
    here false e rest = rest

module _ (F : ℕ → KCount) (named : (k : ℕ) → (F k).k ≡ k) (p : KCount → Bool) where
  rising : (n a : ℕ) → IsStrictlySortedBy (λ (x y : KCount). nat_cmp x.k y.k) (filter p (map F (range_with_len a n)))
      × ((b : ℕ) → b < a → AllByRecursion (λ (y : KCount). nat_cmp b y.k ≡ Less) (filter p (map F (range_with_len a n))))
  unfolding IsStrictlySortedBy
  rising zero a = (tt, λ b lt. tt)
  rising (suc n) a = here (p (F a)) (rising n (a + 1))
    where
      less : (b c : ℕ) → b < c → nat_cmp b c ≡ Less
      less b c lt = grind (arith, nat_tests, lt)

      here : (t : Bool) → IsStrictlySortedBy (λ (x y : KCount). nat_cmp x.k y.k) (filter p (map F (range_with_len (a + 1) n)))
          × ((b : ℕ) → b < a + 1 → AllByRecursion (λ (y : KCount). nat_cmp b y.k ≡ Less) (filter p (map F (range_with_len (a + 1) n))))
          → IsStrictlySortedBy (λ (x y : KCount). nat_cmp x.k y.k) (cond t (F a ∷ filter p (map F (range_with_len (a + 1) n))) (filter p (map F (range_with_len (a + 1) n))))
          × ((b : ℕ) → b < a → AllByRecursion (λ (y : KCount). nat_cmp b y.k ≡ Less) (cond t (F a ∷ filter p (map F (range_with_len (a + 1) n))) (filter p (map F (range_with_len (a + 1) n)))))
      here true rest = (
        (subst (λ (m : ℕ). AllByRecursion (λ (y : KCount). nat_cmp m y.k ≡ Less) (filter p (map F (range_with_len (a + 1) n)))) (sym (named a)) (rest.1 a (omega arith)), rest.0),
        λ b lt. (less b (F a).k (rw (named a) lt), rest.1 b (omega (arith, lt))),
      )
      here false rest = (rest.0, λ b lt. rest.1 b (omega (arith, lt)))

pub counted-ascend : (ks : List ℕ) (n : ℕ) → AreExposures (counted ks n)
counted-ascend ks n = record {
  ascend = (rising (λ (k : ℕ). let c : KCount = record { k = k; users = count_by (λ x. x == k) ks } in c) (λ k. refl) (λ (c : KCount). nat_lt 0 c.users) n 0).0;
  some = all-passing (λ (c : KCount). nat_lt 0 c.users) (λ (c : KCount). 0 < c.users) (λ c h. grind (arith, nat_tests, h)) (map (λ (k : ℕ). let c : KCount = record { k = k; users = count_by (λ x. x == k) ks } in c) (range_with_len 0 n));
}

abbrev column : List (Option ℕ) → List (User × ℕ) → ColumnView
column vs es = record { values = vs; others = es }

-- one column more: the values of one more landmark for the users, and no others
pub columns-step : (f : Graph → User → User → Option ℕ) (us : List User) (E : Graph → Type 0) (cs new : List Column) (c : Column) (ls : List User) (i : ℕ) (d : User)
    → i < length ls → new ≡ cs ++ c ∷ [] → length c.values.items ≡ length us → ((g : Graph) → E g → c.values.items ≡ map (f g (get_or ls i d)) us) → c.others.entries ≡ []
    → (length cs ≡ i) × AreOf (length us) (columns_of cs) × ((g : Graph) → E g → columns_of cs ≡ map (λ l. column_by (f g l) us) (take i ls))
    → (length new ≡ i + 1) × AreOf (length us) (columns_of new) × ((g : Graph) → E g → columns_of new ≡ map (λ l. column_by (f g l) us) (take (i + 1) ls))
columns-step f us E cs new c ls i d lt is long each none was = (
  ap length is ∙ length-append cs (c ∷ []) ∙ ap (λ (m : ℕ). m + 1) was.0,
  subst (λ (l : List Column). AreOf (length us) (columns_of l)) (sym is) (all-more cs was.1),
  λ g e. ap columns_of is ∙ map_push column_of cs c ∙ ap (λ (l : List ColumnView). l ++ column_of c ∷ []) (was.2 g e)
      ∙ ap (λ (v : ColumnView). map (λ (l : User). column_by (f g l) us) (take i ls) ++ v ∷ []) (same g e)
      ∙ sym (ap (map (λ (l : User). column_by (f g l) us)) (take_more ls i d lt) ∙ map_push (λ (l : User). column_by (f g l) us) (take i ls) (get_or ls i d)),
)
  where
    same : (g : Graph) → E g → column_of c ≡ column_by (f g (get_or ls i d)) us
    same g e = ap (λ (vs : List (Option ℕ)). column vs c.others.entries) (each g e) ∙ ap (column (map (f g (get_or ls i d)) us)) none

    all-more : (ys : List Column) → AreOf (length us) (columns_of ys) → AreOf (length us) (columns_of (ys ++ c ∷ []))
    all-more [] all = λ k e less. last k e less
      where
        last : (k : ℕ) (e : ColumnView) → k < 1 → length (get_or (column_of c ∷ []) k e).values ≡ length us
        last zero e less = long
        last (suc k) e less = absurd (omega (arith, less))
    all-more (y ∷ ys) all = cons (all-more ys (λ k e less. all (suc k) e (omega (arith, less))))
      where
        cons : AreOf (length us) (columns_of (ys ++ c ∷ [])) → (k : ℕ) (e : ColumnView) → k < length (columns_of (y ∷ ys ++ c ∷ []))
            → length (get_or (columns_of (y ∷ ys ++ c ∷ [])) k e).values ≡ length us
        cons rest zero e less = all 0 e (omega arith)
        cons rest (suc k) e less = rest k e (omega (arith, less))

pub following-are : (v : PartView) (us : List User) → map (λ (f : Facts). f.following) (map (facts_seen v) us) ≡ map (out_seen v) us
following-are v [] = refl
following-are v (u ∷ us) = ap (λ (ns : List ℕ). out_seen v u ∷ ns) (following-are v us)

-- each list of exposures that was counted ascends
pub lists-are : (es : List UseK) (f : List ℕ → ℕ) (ts : List (List ℕ)) (expos : List (List KCount)) → expos ≡ map (λ t. counted (ks_of es t) (f t)) ts → AreLists ts expos
lists-are es f ts expos is = record {
  long = ap length is ∙ length-map ts (λ t. counted (ks_of es t) (f t));
  each = λ k d lt. let lt' : k < length ts = (let a = ap length is ∙ length-map ts (λ t. counted (ks_of es t) (f t)) in omega (arith, a, lt)) in
      subst AreExposures (sym (ap (λ (l : List (List KCount)). get_or l k d) is ∙ get_or-map (λ t. counted (ks_of es t) (f t)) ts k [] d lt')) (counted-ascend (ks_of es (get_or ts k [])) (f (get_or ts k [])));
}

-- each tag in use has a user
pub all-used : (v : PartView) (ts : List (List ℕ)) (ns : List ℕ) → ns ≡ map (users_seen v) ts → ((t : List ℕ) → has_tag ts t ≡ is_in_use v t) → All (λ n. 0 < n) ns
all-used v ts ns is used k d lt =
    let a = ap length is ∙ length-map ts (users_seen v) in
    let within : k < length ts = omega (arith, a, lt) in
    subst (λ (n : ℕ). 0 < n) (sym (ap (λ (l : List ℕ). get_or l k d) is ∙ get_or-map (users_seen v) ts k [] d within)) (some (length (v.tag_users (get_or ts k []))) (sym (used (get_or ts k [])) ∙ list_any_at (same_tag (get_or ts k [])) ts k [] within (same_tag-refl (get_or ts k []))))
  where
    some : (n : ℕ) → not (eqb n 0) ≡ true → 0 < n
    some n h = here (eqb n 0) refl h
      where
        here : (b : Bool) → eqb n 0 ≡ b → not b ≡ true → 0 < n
        here true e k = absurd cc
        here false e k = grind (arith, nat_tests, e)
