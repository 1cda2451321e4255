-- No user is mentioned too often: feeds within the limits have few mentions, and mentions never fall.
use Rattle.std.proofs.Common.{◌≡◌, ℕ, zero, suc, ◌+◌, ◌-◌, ◌*◌, ◌^◌, ◌<◌, ◌≤◌, Bool, true, false, List, [], ◌∷◌, ◌++◌, length, take}
use Rattle.std.proofs.Common.{drop, cond, refl, sym, ◌∙◌, ap, arith, add-one}
use Rattle.std.specs.Prelude.{All}
use Rattle.std.specs.List.{sum_by, AllByRecursion}
use Rattle.std.proofs.lemmas.List.{length-append, length-take, take_all}
use Rattle.std.proofs.lemmas.List.Elements.{recursion_from_All, All-from_recursion, All-take, All-drop}
use Rattle.std.proofs.lemmas.List.Sums.{sum_by_push, sum_by_more}
use Rattle.kin_ids.specs.declared.ids.User.{User}
use Rattle.kin_ids.specs.declared.stamps.Place.{Place}
use Rattle.kin_ids.specs.declared.ops.Item.{Item}
use Rattle.kin_ids.specs.declared.ops.Record.{Record}
use Rattle.kin_ids.specs.declared.ops.Item.TheVariants as item
use Rattle.kin_ids.specs.declared.ops.Record.TheVariants as record_kind
use Rattle.kin_ids.specs.Users.{same_user}
use Rattle.kin_ids.specs.Graph.{Graph, empty_graph, item_applied, items_applied, applied, said, vertices}
use Rattle.kin_ids.specs.Order.{Entry, feed_at, entries, between, of_epoch, order, folded, snapshot}
use Rattle.kin_ids.specs.Records.{DoNotFall}
use Rattle.kin_ids.specs.Sizes.{IsSmall, AreWithinLimits}
use Rattle.kin_ids.proofs.Joins.{length-entries}
use Rattle.kin_ids.proofs.Vertices.{few-vertices-law}

-- an item mentions a user once at most, and so many items at most so often
few-item : (u w : User) (at : Place) (g : Graph) (x : Item) → said (item_applied w at g x) u ≤ said g u + 1
few-item u w at g (item.At v) = let e = sum_by_push (λ y. cond (same_user u y) 1 0) g.mentioned v in go (same_user u v) e
  where
    go : (b : Bool) → said (item_applied w at g (item.At v)) u ≡ said g u + cond b 1 0 → said (item_applied w at g (item.At v)) u
        ≤ said g u + 1
    go true e = omega (arith, e)
    go false e = omega (arith, e)
few-item u w at g (item.Hash t) = omega arith

few-items : (u w : User) (at : Place) (g : Graph) (xs : List Item) → said (items_applied w at g xs) u ≤ said g u + length xs
few-items u w at g [] = omega arith
few-items u w at g (x ∷ xs) = omega (arith, few-item u w at g x, few-items u w at (item_applied w at g x) xs)

few-record : (u : User) (at : Place) (g : Graph) (r : Record) → IsSmall r → said (applied at g r) u ≤ said g u + 16
few-record u at g (record_kind.Follow v w) small = omega arith
few-record u at g (record_kind.Unfollow v w) small = omega arith
few-record u at g (record_kind.Tweet w items) small = omega (arith, few-items u w at g items, small)
few-record u at g record_kind.Bad small = omega arith

abbrev IsSmallEntry : Entry → Type 0
IsSmallEntry x = IsSmall x.content

few-folded : (u : User) (g : Graph) (xs : List Entry) → AllByRecursion IsSmallEntry xs → said (folded g xs) u ≤ said g u + 16 * length xs
few-folded u g [] small = omega arith
few-folded u g (x ∷ xs) small = omega (
  arith,
  few-record u x.place g x.content small.0,
  few-folded u
      (applied x.place g x.content) xs small.1,
)

-- every record of the order is small
small-append : (xs ys : List Entry) → AllByRecursion IsSmallEntry xs → AllByRecursion IsSmallEntry ys
    → AllByRecursion IsSmallEntry (xs ++ ys)
small-append [] ys a b = b
small-append (x ∷ xs) ys a b = (a.0, small-append xs ys a.1 b)

small-entries : (e i n : ℕ) (rs : List Record) → AllByRecursion IsSmall rs → AllByRecursion IsSmallEntry (entries e i n rs)
small-entries e i n [] a = tt
small-entries e i n (r ∷ rs) a = (a.0, small-entries e i (n + 1) rs a.1)

-- the sum of the first n numbers of a function
abbrev total : (ℕ → ℕ) → ℕ → ℕ
total f zero = 0
total f (suc n) = total f n + f n

total-le : (f g : ℕ → ℕ) (n : ℕ) → ((i : ℕ) → i < n → f i ≤ g i) → total f n ≤ total g n
total-le f g zero le = omega arith
total-le f g (suc n) le = omega (arith, total-le f g n (λ i lt. le i (omega arith)), le n (omega arith))

total-none : (f : ℕ → ℕ) (n : ℕ) → ((i : ℕ) → i < n → f i ≡ 0) → total f n ≡ 0
total-none f zero none = refl
total-none f (suc n) none = omega (arith, total-none f n (λ i lt. none i (omega arith)), none n (omega arith))

module _ (feeds : List (List Record)) where
  total-lengths : (n : ℕ) → n ≤ length feeds → total (λ i. length (feed_at feeds i)) n ≡ sum_by (λ (feed : List Record). length feed)
      (take n feeds)
  total-lengths zero le = refl
  total-lengths (suc n) le = rw (← add-one n) (ap (λ s. s + length (feed_at feeds n)) (total-lengths n (omega arith))
      ∙ sym (sum_by_more (λ (feed : List Record). length feed) feeds n [] (omega arith)))

  module _ (e : ℕ) (was now : ℕ → ℕ) where
    length-of_epoch : (n : ℕ) → ((i : ℕ) → i < n → was i ≤ now i) → length (of_epoch feeds e was now n) + total was n ≤ total now n
    length-of_epoch zero grow = omega arith
    length-of_epoch (suc n) grow =
        let rest = length-of_epoch n (λ i lt. grow i (omega arith)) in
        let more = entries e n (was n) (between (feed_at feeds n) (was n) (now n)) in
        let count : length more ≤ now n - was n =
        omega (
          arith,
          length-entries e n (was n) (between (feed_at feeds n) (was n) (now n)),
          length-take (now n - was n)
              (drop (was n) (feed_at feeds n)),
        ) in
        omega (arith, rest, count, grow n (omega arith), length-append (of_epoch feeds e was now n) more)

    small-of_epoch : All (λ (feed : List Record). All IsSmall feed) feeds → (n : ℕ) → n ≤ length feeds
        → AllByRecursion IsSmallEntry (of_epoch feeds e was now n)
    small-of_epoch small zero le = tt
    small-of_epoch small (suc n) le =
        let feed = feed_at feeds n in
        small-append (of_epoch feeds e was now n) (entries e n (was n) (between feed (was n) (now n)))
        (small-of_epoch small n (omega arith))
        (small-entries e n (was n) (between feed (was n) (now n))
        (recursion_from_All IsSmall (between feed (was n) (now n))
        (All-take IsSmall (now n - was n) (drop (was n) feed) (All-drop IsSmall (was n) feed (small n [] (omega arith))))))

  module _ (vectors : ℕ → ℕ → ℕ) where
    small-order : All (λ (feed : List Record). All IsSmall feed) feeds → (k : ℕ) → AllByRecursion IsSmallEntry (order feeds vectors k)
    small-order small zero = tt
    small-order small (suc k) = small-append (order feeds vectors k) (of_epoch feeds (suc k) (vectors k) (vectors (suc k)) (length feeds))
        (small-order small k) (small-of_epoch (suc k) (vectors k) (vectors (suc k)) small (length feeds) (omega arith))

    length-order : (k : ℕ) → DoNotFall feeds vectors k → length (order feeds vectors k) ≤ total (vectors k) (length feeds)
    length-order zero d = omega arith
    length-order (suc k) d =
        let shorter : DoNotFall feeds vectors k = record { start = d.start; grow = λ j i less inside. d.grow j i (omega arith) inside } in
        let grow : (i : ℕ) → i < length feeds → vectors k i ≤ vectors (suc k) i = λ i lt. rw (add-one k) at (d.grow k i (omega arith) lt) in
        omega (
          arith,
          length-order k shorter,
          length-of_epoch (suc k) (vectors k) (vectors (suc k)) (length feeds) grow,
          length-append (order feeds vectors k) (of_epoch feeds (suc k) (vectors k) (vectors (suc k)) (length feeds)),
        )

    module _ (limits : AreWithinLimits feeds) (k : ℕ) (d : DoNotFall feeds vectors k) (inside : (i : ℕ) → i < length feeds
        → vectors k i ≤ length (feed_at feeds i)) where
      few-order : length (order feeds vectors k) ≤ 2097152
      few-order =
          let all : take (length feeds) feeds ≡ feeds = take_all (length feeds) feeds (omega arith) in
          let lengths : total (λ i. length (feed_at feeds i)) (length feeds) ≡ sum_by (λ (feed : List Record). length feed) feeds =
          total-lengths (length feeds) (omega arith)
          ∙ ap (λ (fs : List (List Record)). sum_by (λ (feed : List Record). length feed) fs) all in
          omega (
            arith,
            length-order k d,
            total-le (vectors k) (λ i. length (feed_at feeds i))
                (length feeds) inside,
            lengths,
            limits.records,
          )

      -- no user is mentioned too often in a snapshot
      pub few-said : (u : User) → said (snapshot feeds vectors k) u < 2 ^ 64
      few-said u = omega (arith, few-folded u empty_graph (order feeds vectors k) (small-order limits.small k), few-order)

      -- and it has few vertices
      pub few-vertices : length (vertices (snapshot feeds vectors k)) ≤ 17 * 2097152
      few-vertices = omega (
        arith,
        few-vertices-law (order feeds vectors k) (All-from_recursion IsSmallEntry (order feeds vectors k)
            (small-order limits.small k)),
        few-order,
      )
