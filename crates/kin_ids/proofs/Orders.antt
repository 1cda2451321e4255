-- The agreed order has each record once, by ascending place.
use Rattle.std.proofs.Common.{◌≡◌, ◌≢◌, ℕ, zero, suc, ◌+◌, ◌-◌, ◌<◌, ◌≤◌, Bool, true, false, cond, eqb, ltb, ⊎_elim, List, [], ◌∷◌, ◌++◌, length, drop, refl, sym, ◌∙◌, ap, subst, arith, add-one}
use Rattle.std.specs.Prelude.{map}
use Rattle.std.specs.List.{list_all, AllByRecursion}
use Rattle.std.proofs.lemmas.Bool.{cases_eq, cond-true, cond-false, and_from, or_left, or_right, eq-eqb, ne_eqb, lt-ltb}
use Rattle.std.proofs.lemmas.List.{map-append, append-nil, length-take}
use Rattle.std.proofs.lemmas.List.Elements.{All-from_recursion}
use Rattle.std.proofs.lemmas.List.Folds.{list_all-append}
use Rattle.kin_ids.specs.Types.{Place, Record}
use Rattle.kin_ids.specs.Users.{is_before, IsAscending}
use Rattle.kin_ids.specs.Order.{Entry, feed_at, entries, between, of_epoch, order}
use Rattle.kin_ids.specs.Records.{counted, of_feed, IsOfEpoch, DoNotFall, OrderLaw}
use Rattle.kin_ids.proofs.Joins.{between-front, counted-split}

abbrev places : List Entry → List Place
places xs = map (λ (x : Entry). x.place) xs

-- the records of one node
of-append : (i : ℕ) (xs ys : List Entry) → of_feed i (xs ++ ys) ≡ of_feed i xs ++ of_feed i ys
of-append i [] ys = refl
of-append i (x ∷ xs) ys = go (eqb x.place.ingest.0 i) (of-append i xs ys)
  where
    go : (b : Bool) → of_feed i (xs ++ ys) ≡ of_feed i xs ++ of_feed i ys → cond b (record { number = x.place.number; content = x.content } ∷ of_feed i (xs ++ ys)) (of_feed i (xs ++ ys)) ≡ cond b (record { number = x.place.number; content = x.content } ∷ of_feed i xs) (of_feed i xs) ++ of_feed i ys
    go true h = ap (λ cs. record { number = x.place.number; content = x.content } ∷ cs) h
    go false h = h

of-same : (e i n : ℕ) (rs : List Record) → of_feed i (entries e i n rs) ≡ counted n rs
of-same e i n [] = refl
of-same e i n (r ∷ rs) = cond-true (eqb i i) _ _ (eq-eqb i i refl) ∙ ap (λ cs. record { number = n + 1; content = r } ∷ cs) (of-same e i (n + 1) rs)

of-other : (e j i n : ℕ) (rs : List Record) → j ≢ i → of_feed i (entries e j n rs) ≡ []
of-other e j i n [] ne = refl
of-other e j i n (r ∷ rs) ne = cond-false (eqb j i) _ _ (ne_eqb j i ne) ∙ of-other e j i (n + 1) rs ne

module _ (feeds : List (List Record)) (e : ℕ) (was now : ℕ → ℕ) where
  of-later : (n i : ℕ) → n ≤ i → of_feed i (of_epoch feeds e was now n) ≡ []
  of-later zero i le = refl
  of-later (suc n) i le = of-append i (of_epoch feeds e was now n) (entries e n (was n) (between (feed_at feeds n) (was n) (now n)))
      ∙ rw (of-later n i (omega arith), of-other e n i (was n) (between (feed_at feeds n) (was n) (now n)) (λ (same : n ≡ i). omega arith)) refl

  of-epoch : (n i : ℕ) → i < n → of_feed i (of_epoch feeds e was now n) ≡ counted (was i) (between (feed_at feeds i) (was i) (now i))
  of-epoch zero i lt = absurd (omega arith)
  of-epoch (suc n) i lt = of-append i (of_epoch feeds e was now n) (entries e n (was n) (between (feed_at feeds n) (was n) (now n)))
      ∙ ⊎_elim (λ (same : i ≡ n). subst (λ (j : ℕ). of_feed j (of_epoch feeds e was now n) ++ of_feed j (entries e n (was n) (between (feed_at feeds n) (was n) (now n))) ≡ counted (was j) (between (feed_at feeds j) (was j) (now j))) (sym same)
      (rw (of-later n n (omega arith)) (of-same e n (was n) (between (feed_at feeds n) (was n) (now n)))))
      (λ (ne : i ≢ n). rw (of-epoch n i (omega arith), of-other e n i (was n) (between (feed_at feeds n) (was n) (now n)) (λ (same : n ≡ i). ne (sym same))) (append-nil (counted (was i) (between (feed_at feeds i) (was i) (now i)))))
      (cases_eq i n)

each : (feeds : List (List Record)) (vectors : ℕ → ℕ → ℕ) (k : ℕ) → DoNotFall feeds vectors k → (i : ℕ) → i < length feeds → of_feed i (order feeds vectors k) ≡ counted 0 (between (feed_at feeds i) 0 (vectors k i))
each feeds vectors zero d i lt = rw (d.start i lt) refl
each feeds vectors (suc k) d i lt =
    let shorter : DoNotFall feeds vectors k = record { start = d.start; grow = λ j i less inside. d.grow j i (omega arith) inside } in
    let next : vectors k i ≤ vectors (suc k) i = rw (add-one k) at (d.grow k i (omega arith) lt) in
    of-append i (order feeds vectors k) (of_epoch feeds (suc k) (vectors k) (vectors (suc k)) (length feeds))
    ∙ rw (each feeds vectors k shorter i lt, of-epoch feeds (suc k) (vectors k) (vectors (suc k)) (length feeds) i lt)
    (sym (counted-split (feed_at feeds i) 0 (vectors k i) (vectors (suc k) i) (omega arith) next))

-- places
before-number : (a b : Place) → a.epoch.0 ≡ b.epoch.0 → a.ingest.0 ≡ b.ingest.0 → a.number < b.number → is_before a b ≡ true
before-number a b e i n = or_right (ltb a.epoch.0 b.epoch.0) _ (and_from _ _ (eq-eqb _ _ e) (or_right (ltb a.ingest.0 b.ingest.0) _ (and_from _ _ (eq-eqb _ _ i) (lt-ltb _ _ n))))

before-node : (a b : Place) → a.epoch.0 ≡ b.epoch.0 → a.ingest.0 < b.ingest.0 → is_before a b ≡ true
before-node a b e i = or_right (ltb a.epoch.0 b.epoch.0) _ (and_from _ _ (eq-eqb _ _ e) (or_left _ _ (lt-ltb _ _ i)))

before-epoch : (a b : Place) → a.epoch.0 < b.epoch.0 → is_before a b ≡ true
before-epoch a b e = or_left _ _ (lt-ltb _ _ e)

all-from : (P : Place → Type 0) (test : Place → Bool) (ps : List Place) → ((p : Place) → P p → test p ≡ true) → AllByRecursion P ps → list_all test ps ≡ true
all-from P test [] h all = refl
all-from P test (p ∷ ps) h all = and_from _ _ (h p all.0) (all-from P test ps h all.1)

all-append : {X : Type 0} (P : X → Type 0) (xs ys : List X) → AllByRecursion P xs → AllByRecursion P ys → AllByRecursion P (xs ++ ys)
all-append P [] ys a b = b
all-append P (x ∷ xs) ys a b = (a.0, all-append P xs ys a.1 b)

all-weaker : {X : Type 0} (P Q : X → Type 0) (xs : List X) → ((p : X) → P p → Q p) → AllByRecursion P xs → AllByRecursion Q xs
all-weaker P Q [] h a = tt
all-weaker P Q (x ∷ xs) h a = (h x a.0, all-weaker P Q xs h a.1)

ascending-append : (P Q : Place → Type 0) → ((a b : Place) → P a → Q b → is_before a b ≡ true) → (xs ys : List Place) → AllByRecursion P xs → AllByRecursion Q ys → IsAscending xs → IsAscending ys → IsAscending (xs ++ ys)
ascending-append P Q before [] ys a b up later = later
ascending-append P Q before (x ∷ xs) ys a b up later =
    (list_all-append (is_before x) xs ys ∙ and_from _ _ up.0 (all-from Q (is_before x) ys (λ p q. before x p a.0 q) b), ascending-append P Q before xs ys a.1 b up.1 later)

-- the places of one node, of one epoch's first nodes, and of the first epochs
record IsNode (e i n : ℕ) (p : Place) : Type 0 where
  epoch : p.epoch.0 ≡ e
  node : p.ingest.0 ≡ i
  past : n < p.number

record IsEpoch (e n : ℕ) (p : Place) : Type 0 where
  epoch : p.epoch.0 ≡ e
  node : p.ingest.0 < n

node-places : (e i n : ℕ) (rs : List Record) → AllByRecursion (IsNode e i n) (places (entries e i n rs))
node-places e i n [] = tt
node-places e i n (r ∷ rs) = (record { epoch = refl; node = refl; past = omega arith }, all-weaker (IsNode e i (n + 1)) (IsNode e i n) (places (entries e i (n + 1) rs)) (λ p h. let past = h.past in record { epoch = h.epoch; node = h.node; past = omega arith }) (node-places e i (n + 1) rs))

node-ascends : (e i n : ℕ) (rs : List Record) → IsAscending (places (entries e i n rs))
node-ascends e i n [] = tt
node-ascends e i n (r ∷ rs) = (all-from (IsNode e i (n + 1)) (is_before (record { epoch = record { 0 = e }; ingest = record { 0 = i }; number = n + 1 })) (places (entries e i (n + 1) rs)) (λ p h. before-number _ p (sym h.epoch) (sym h.node) h.past) (node-places e i (n + 1) rs), node-ascends e i (n + 1) rs)

module _ (feeds : List (List Record)) (e : ℕ) (was now : ℕ → ℕ) where
  epoch-places : (n : ℕ) → AllByRecursion (IsEpoch e n) (places (of_epoch feeds e was now n))
  epoch-places zero = tt
  epoch-places (suc n) = subst (AllByRecursion (IsEpoch e (suc n))) (sym (map-append (λ (x : Entry). x.place) (of_epoch feeds e was now n) (entries e n (was n) (between (feed_at feeds n) (was n) (now n)))))
      (all-append (IsEpoch e (suc n)) (places (of_epoch feeds e was now n)) (places (entries e n (was n) (between (feed_at feeds n) (was n) (now n))))
      (all-weaker (IsEpoch e n) (IsEpoch e (suc n)) (places (of_epoch feeds e was now n)) (λ p h. let node = h.node in record { epoch = h.epoch; node = omega arith }) (epoch-places n))
      (all-weaker (IsNode e n (was n)) (IsEpoch e (suc n)) (places (entries e n (was n) (between (feed_at feeds n) (was n) (now n)))) (λ p h. let node = h.node in record { epoch = h.epoch; node = omega arith }) (node-places e n (was n) (between (feed_at feeds n) (was n) (now n)))))

  epoch-ascends : (n : ℕ) → IsAscending (places (of_epoch feeds e was now n))
  epoch-ascends zero = tt
  epoch-ascends (suc n) = subst IsAscending (sym (map-append (λ (x : Entry). x.place) (of_epoch feeds e was now n) (entries e n (was n) (between (feed_at feeds n) (was n) (now n)))))
      (ascending-append (IsEpoch e n) (IsNode e n (was n)) (λ a b p q. let i = p.node in let j = q.node in before-node a b (p.epoch ∙ sym q.epoch) (omega arith))
      (places (of_epoch feeds e was now n)) (places (entries e n (was n) (between (feed_at feeds n) (was n) (now n)))) (epoch-places n) (node-places e n (was n) (between (feed_at feeds n) (was n) (now n)))
      (epoch-ascends n) (node-ascends e n (was n) (between (feed_at feeds n) (was n) (now n))))

module _ (feeds : List (List Record)) (vectors : ℕ → ℕ → ℕ) where
  order-places : (k : ℕ) → AllByRecursion (λ (p : Place). p.epoch.0 ≤ k) (places (order feeds vectors k))
  order-places zero = tt
  order-places (suc k) = subst (AllByRecursion (λ (p : Place). p.epoch.0 ≤ suc k)) (sym (map-append (λ (x : Entry). x.place) (order feeds vectors k) (of_epoch feeds (suc k) (vectors k) (vectors (suc k)) (length feeds))))
      (all-append (λ (p : Place). p.epoch.0 ≤ suc k) (places (order feeds vectors k)) (places (of_epoch feeds (suc k) (vectors k) (vectors (suc k)) (length feeds)))
      (all-weaker (λ (p : Place). p.epoch.0 ≤ k) (λ (p : Place). p.epoch.0 ≤ suc k) (places (order feeds vectors k)) (λ p le. omega arith) (order-places k))
      (all-weaker (IsEpoch (suc k) (length feeds)) (λ (p : Place). p.epoch.0 ≤ suc k) (places (of_epoch feeds (suc k) (vectors k) (vectors (suc k)) (length feeds))) (λ p h. let e = h.epoch in omega arith) (epoch-places feeds (suc k) (vectors k) (vectors (suc k)) (length feeds))))

  pub order-ascends : (k : ℕ) → IsAscending (places (order feeds vectors k))
  order-ascends zero = tt
  order-ascends (suc k) = subst IsAscending (sym (map-append (λ (x : Entry). x.place) (order feeds vectors k) (of_epoch feeds (suc k) (vectors k) (vectors (suc k)) (length feeds))))
      (ascending-append (λ (p : Place). p.epoch.0 ≤ k) (IsEpoch (suc k) (length feeds)) (λ a b p q. let e = q.epoch in before-epoch a b (omega arith))
      (places (order feeds vectors k)) (places (of_epoch feeds (suc k) (vectors k) (vectors (suc k)) (length feeds))) (order-places k) (epoch-places feeds (suc k) (vectors k) (vectors (suc k)) (length feeds))
      (order-ascends k) (epoch-ascends feeds (suc k) (vectors k) (vectors (suc k)) (length feeds)))

-- each entry is of its epoch
record IsNumbered (e i low high : ℕ) (x : Entry) : Type 0 where
  epoch : x.place.epoch.0 ≡ e
  node : x.place.ingest.0 ≡ i
  past : low < x.place.number
  upto : x.place.number ≤ high

numbered-entries : (e i n : ℕ) (rs : List Record) → AllByRecursion (IsNumbered e i n (n + length rs)) (entries e i n rs)
numbered-entries e i n [] = tt
numbered-entries e i n (r ∷ rs) = (
  record { epoch = refl; node = refl; past = omega arith; upto = omega arith },
  all-weaker (IsNumbered e i (n + 1) (n + 1 + length rs)) (IsNumbered e i n (n + length (r ∷ rs))) (entries e i (n + 1) rs)
      (λ x h. let low = h.past in let high = h.upto in record { epoch = h.epoch; node = h.node; past = omega arith; upto = omega arith }) (numbered-entries e i (n + 1) rs),
)

module _ (feeds : List (List Record)) (vectors : ℕ → ℕ → ℕ) where
  of-this-epoch : (k i : ℕ) (x : Entry) → i < length feeds → IsNumbered (suc k) i (vectors k i) (vectors k i + length (between (feed_at feeds i) (vectors k i) (vectors (suc k) i))) x → IsOfEpoch feeds vectors (suc k) x
  of-this-epoch k i x lt h =
      let epoch = h.epoch in
      let node = h.node in
      let low = h.past in
      let high = h.upto in
      let some = length-take (vectors (suc k) i - vectors k i) (drop (vectors k i) (feed_at feeds i)) in
      let before : x.place.epoch.0 - 1 ≡ k = omega arith in
      record {
        first = omega arith;
        last = omega arith;
        node = omega arith;
        past = rw (before, node) low;
        upto = rw (epoch, node) (omega arith);
      }

  epoch-of : (k n : ℕ) → n ≤ length feeds → AllByRecursion (IsOfEpoch feeds vectors (suc k)) (of_epoch feeds (suc k) (vectors k) (vectors (suc k)) n)
  epoch-of k zero le = tt
  epoch-of k (suc n) le =
      let new = between (feed_at feeds n) (vectors k n) (vectors (suc k) n) in
      all-append (IsOfEpoch feeds vectors (suc k)) (of_epoch feeds (suc k) (vectors k) (vectors (suc k)) n) (entries (suc k) n (vectors k n) new) (epoch-of k n (omega arith))
      (all-weaker (IsNumbered (suc k) n (vectors k n) (vectors k n + length new)) (IsOfEpoch feeds vectors (suc k)) (entries (suc k) n (vectors k n) new)
      (λ x h. of-this-epoch k n x (omega arith) h) (numbered-entries (suc k) n (vectors k n) new))

  order-of : (k : ℕ) → AllByRecursion (IsOfEpoch feeds vectors k) (order feeds vectors k)
  order-of zero = tt
  order-of (suc k) = all-append (IsOfEpoch feeds vectors (suc k)) (order feeds vectors k) (of_epoch feeds (suc k) (vectors k) (vectors (suc k)) (length feeds))
      (all-weaker (IsOfEpoch feeds vectors k) (IsOfEpoch feeds vectors (suc k)) (order feeds vectors k)
      (λ x h. let last = h.last in record { first = h.first; last = omega arith; node = h.node; past = h.past; upto = h.upto }) (order-of k))
      (epoch-of k (length feeds) (omega arith))

pub order-law : OrderLaw
order-law feeds vectors k d = record {
  each = λ i lt. each feeds vectors k d i lt ∙ ap (counted 0) (between-front (feed_at feeds i) (vectors k i));
  epochs = All-from_recursion (IsOfEpoch feeds vectors k) (order feeds vectors k) (order-of feeds vectors k);
  ascend = order-ascends feeds vectors k;
}
