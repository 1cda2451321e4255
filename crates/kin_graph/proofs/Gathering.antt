-- Of what is made of the items of a list with ascending keys, what is of one key.
use Rattle.std.proofs.Common.{◌≡◌, ◌||◌, Bool, true, false, List, [], ◌∷◌, ◌++◌, filter, Option, refl, sym, ap, ap₂, ◌∙◌, subst}
use Rattle.std.proofs.Common.{append-nil, append_assoc}
use Rattle.std.specs.List.{list_any, AllByRecursion}
use Rattle.std.specs.List.Sorted.{IsStrictlySortedBy}
use Rattle.std.specs.BTreeMap.{is_at}
use Rattle.std.specs.Cmp.{Equal-is}
use Rattle.std.specs.Ordering.{is_eq}
use Rattle.std.specs.declared.cmp.Ordering.{Ordering}
use Rattle.std.specs.declared.cmp.Ordering.TheVariants.{Less, Equal}
use Rattle.std.proofs.lemmas.Bool.{both_ways, or_parts}
use Rattle.std.proofs.lemmas.List.Elements.{filter-append}
use Rattle.std.proofs.lemmas.Map.Keys.{sorted_head, sorted_tail}
use Rattle.kin_ids.specs.declared.ops.Half.{Half}
use Rattle.kin_store.specs.declared.pairs.Pair.{Pair}
use Rattle.kin_graph.specs.declared.deltas.HalfChanges.{HalfChanges}
use Rattle.kin_graph.specs.Deltas.{one_if, is_new, is_now, is_gone}
use Rattle.kin_graph.specs.Gathered.{gathered, half_changes, also_told}

pub one-kept : {X : Type 0} (q : X → Bool) (b : Bool) (x : X) → q x ≡ true → filter q (one_if b x) ≡ one_if b x
one-kept q true x t = rw t refl
one-kept q false x t = refl

pub one-dropped : {X : Type 0} (q : X → Bool) (b : Bool) (x : X) → q x ≡ false → filter q (one_if b x) ≡ []
one-dropped q true x t = rw t refl
one-dropped q false x t = refl

-- what is made of the items so far, and of those that are left
pub gathered-step : {K Y : Type 0} (f : K → List Y) (done new all : List Y) (k : K) (ks : List K) → done ++ gathered f (k ∷ ks) ≡ all
    → new ≡ done ++ f k → new ++ gathered f ks ≡ all
gathered-step {K} {Y} f done new all k ks e more = ap (λ (ys : List Y). ys ++ gathered f ks) more
    ∙ (append_assoc done (f k) (gathered f ks) ∙ e)

pub gathered-end : {K Y : Type 0} (f : K → List Y) (done all : List Y) → done ++ gathered f [] ≡ all → done ≡ all
gathered-end f done all e = sym (append-nil done) ∙ e

-- the same at what is left of a loop
pub gathered-next : {K Y : Type 0} (f : K → List Y) (done new all : List Y) (k : K) (left rest : List K) → left ≡ k ∷ rest
    → new ≡ done ++ f k → done ++ gathered f left ≡ all → new ++ gathered f rest ≡ all
gathered-next {K} {Y} f done new all k left rest first more e =
    gathered-step f done new all k rest (subst (λ (ks : List K). done ++ gathered f ks ≡ all) first e) more

pub gathered-last : {K Y : Type 0} (f : K → List Y) (done all : List Y) (left : List K) → left ≡ [] → done ++ gathered f left ≡ all
    → done ≡ all
gathered-last {K} f done all left none e = gathered-end f done all (subst (λ (ks : List K). done ++ gathered f ks ≡ all) none e)

-- the keys past the first are others
none-past : {K : Type 0} (cmp : K → K → Ordering) (k : K) (ks : List K) → AllByRecursion (λ j. cmp k j ≡ Less) ks
    → list_any (is_at (cmp k)) ks ≡ false
none-past cmp k [] below = refl
none-past cmp k (j ∷ js) below = ap (λ (o : Ordering). is_eq o || list_any (is_at (cmp k)) js) below.0 ∙ none-past cmp k js below.1

module _ {K Y : Type 0} {cmp : K → K → Ordering} (exact : (x y : K) → cmp x y ≡ Equal → x ≡ y) (f : K → List Y) (q : Y → Bool) (k : K)
    (own : filter q (f k) ≡ f k) (others : (j : K) → is_at (cmp k) j ≡ false → filter q (f j) ≡ []) where
  none-of : (ks : List K) → list_any (is_at (cmp k)) ks ≡ false → filter q (gathered f ks) ≡ []
  none-of [] e = refl
  none-of (j ∷ js) e =
      let parts = or_parts (is_at (cmp k) j) (list_any (is_at (cmp k)) js) e in
      filter-append q (f j) (gathered f js) ∙ (ap (λ (ys : List Y). ys ++ filter q (gathered f js)) (others j parts.0) ∙ none-of js parts.1)

  all-of : (ks : List K) → IsStrictlySortedBy cmp ks → list_any (is_at (cmp k)) ks ≡ true → filter q (gathered f ks) ≡ f k
  all-of [] s e = absurd (both_ways false refl e)
  all-of (j ∷ js) s e = filter-append q (f j) (gathered f js) ∙ by_test (is_at (cmp k) j) refl e (all-of js (sorted_tail cmp j js s)) where
    by_test : (b : Bool) → is_at (cmp k) j ≡ b → (b || list_any (is_at (cmp k)) js) ≡ true
        → (list_any (is_at (cmp k)) js ≡ true → filter q (gathered f js) ≡ f k)
        → filter q (f j) ++ filter q (gathered f js) ≡ f k
    by_test true t h rest =
        let same : k ≡ j = exact k j ((Equal-is (cmp k j)).0 t) in
        let past : list_any (is_at (cmp k)) js ≡ false = ap (λ (i : K). list_any (is_at (cmp i)) js) same
        ∙ none-past cmp j js (sorted_head cmp j js s) in
        ap (λ (ys : List Y). filter q (f j) ++ ys) (none-of js past)
        ∙ (append-nil (filter q (f j)) ∙ (ap (λ (i : K). filter q (f i)) (sym same) ∙ own))
    by_test false t h rest = ap (λ (ys : List Y). ys ++ filter q (gathered f js)) (others j t) ∙ rest h

  -- where nothing is made of what isn't among the keys
  pub gathered-just : (ks : List K) → IsStrictlySortedBy cmp ks → (list_any (is_at (cmp k)) ks ≡ false → f k ≡ [])
      → filter q (gathered f ks) ≡ f k
  gathered-just ks s none = by_test (list_any (is_at (cmp k)) ks) refl where
    by_test : (b : Bool) → list_any (is_at (cmp k)) ks ≡ b → filter q (gathered f ks) ≡ f k
    by_test true t = all-of ks s t
    by_test false t = none-of ks t ∙ sym (none t)

-- nothing is made yet
pub gathered-start : {K Y : Type 0} (f : K → List Y) (done : List Y) (ks all : List K) → done ≡ [] → ks ≡ all
    → done ++ gathered f ks ≡ gathered f all
gathered-start {K} {Y} f done ks all none e = ap (λ (ys : List Y). ys ++ gathered f ks) none ∙ ap (gathered f) e

-- what is told of the halves so far, and of those that are left
pub record IsLeft (was is : Pair → Option Half) (ps rest : List Pair) (c : HalfChanges) : Type 0 where
  pub added : c.added ++ (half_changes was is rest).added ≡ (half_changes was is ps).added
  pub present : c.present ++ (half_changes was is rest).present ≡ (half_changes was is ps).present
  pub gone : c.gone ++ (half_changes was is rest).gone ≡ (half_changes was is ps).gone

module _ (was is : Pair → Option Half) (ps : List Pair) where
  pub halves-start : (c : HalfChanges) (rest : List Pair) → (c.added ≡ []) × (c.present ≡ []) × (c.gone ≡ []) → rest ≡ ps
      → IsLeft was is ps rest c
  halves-start c rest none e = record {
    added = gathered-start (λ p. one_if (is_new (was p) (is p)) p) c.added rest ps none.0 e;
    present = gathered-start (λ p. one_if (is_now (was p) (is p)) p) c.present rest ps none.1 e;
    gone = gathered-start (λ p. one_if (is_gone (was p) (is p)) p) c.gone rest ps none.2 e;
  }

  pub halves-step : (c n : HalfChanges) (p : Pair) (a b : Option Half) (all rest : List Pair) → all ≡ p ∷ rest → a ≡ was p → b ≡ is p
      → n ≡ also_told p a b c → IsLeft was is ps all c → IsLeft was is ps rest n
  halves-step c n p a b all rest first before after told l =
      let more : n ≡ also_told p (was p) (is p) c = told ∙ ap₂ (λ (x y : Option Half). also_told p x y c) before after in
      let left : IsLeft was is ps (p ∷ rest) c = subst (λ (qs : List Pair). IsLeft was is ps qs c) first l in
      record {
        added = gathered-step (λ q. one_if (is_new (was q) (is q)) q) c.added n.added _ p rest left.added
            (ap (λ (m : HalfChanges). m.added) more);
        present = gathered-step (λ q. one_if (is_now (was q) (is q)) q) c.present n.present _ p rest left.present
            (ap (λ (m : HalfChanges). m.present) more);
        gone = gathered-step (λ q. one_if (is_gone (was q) (is q)) q) c.gone n.gone _ p rest left.gone
            (ap (λ (m : HalfChanges). m.gone) more);
      }

  pub halves-end : (c : HalfChanges) (rest : List Pair) → rest ≡ [] → IsLeft was is ps rest c → c ≡ half_changes was is ps
  halves-end c rest none l =
      let left : IsLeft was is ps [] c = subst (λ (qs : List Pair). IsLeft was is ps qs c) none l in
      λ i. record {
        added = (sym (append-nil c.added) ∙ left.added) i;
        present = (sym (append-nil c.present) ∙ left.present) i;
        gone = (sym (append-nil c.gone) ∙ left.gone) i;
      }
