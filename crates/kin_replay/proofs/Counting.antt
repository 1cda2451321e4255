-- How much an epoch adds at the first nodes.
use Rattle.std.proofs.Common.{◌≡◌, ℕ, suc, ◌+◌, ◌-◌, ◌<◌, ◌≤◌, get_or, cond, List, [], ◌∷◌, length, take, drop, refl, ap, ◌∙◌, arith}
use Rattle.std.specs.List.{sum_by, count_by}
use Rattle.std.proofs.lemmas.List.{length-append, length-take, length-drop, take_more, take_all, get_or_read_under}
use Rattle.std.proofs.lemmas.List.Sums.{count_by-le-length, sum_by-cons, sum_by-append}
use Rattle.kin_ids.specs.declared.ops.Record.{Record}
use Rattle.kin_ids.specs.Operations.{is_bad}
use Rattle.kin_ids.specs.Order.{Entry, between, entries, feed_at, of_epoch}
use Rattle.kin_ids.proofs.Joins.{length-entries}
use Rattle.kin_rules.proofs.ExposureEntries.{count-append}
use Rattle.kin_replay.specs.Counts.{AreWithin}

-- so many records stand between two positions of a feed
length-between : (feed : List Record) (from to : ℕ) → from ≤ to → to ≤ length feed → length (between feed from to) ≡ to - from
length-between feed from to lo hi = let a = length-take (to - from) (drop from feed) in let b = length-drop from feed in omega (arith, a, b, lo, hi)

-- the Bad ones among entries are those among their records
bad-entries : (e i n : ℕ) (rs : List Record) → count_by (λ (x : Entry). is_bad x.content) (entries e i n rs) ≡ count_by is_bad rs
bad-entries e i n [] = refl
bad-entries e i n (r ∷ rs) =
    let a = sum_by-cons (λ (x : Entry). cond (is_bad x.content) 1 0) (record { place = record { epoch = record { 0 = e }; ingest = record { 0 = i }; number = n + 1 }; content = r }) (entries e i (n + 1) rs) in
    let b = sum_by-cons (λ (x : Record). cond (is_bad x) 1 0) r rs in
    let c = bad-entries e i (n + 1) rs in
    omega (arith, a, b, c)

module _ (feeds : List (List Record)) (e : ℕ) (was now : ℕ → ℕ) (i : ℕ) (lo : was i ≤ now i) (hi : now i ≤ length (feed_at feeds i)) where
  pub records-more : length (of_epoch feeds e was now (i + 1)) ≡ length (of_epoch feeds e was now i) + (now i - was i)
  records-more =
      let rs = between (feed_at feeds i) (was i) (now i) in
      let next : i + 1 ≡ suc i = omega arith in
      rw next (let a = length-append (of_epoch feeds e was now i) (entries e i (was i) rs) in let b = length-entries e i (was i) rs in let c = length-between (feed_at feeds i) (was i) (now i) lo hi in omega (arith, a, b, c))

  pub bad-more : count_by (λ (x : Entry). is_bad x.content) (of_epoch feeds e was now (i + 1)) ≡ count_by (λ (x : Entry). is_bad x.content) (of_epoch feeds e was now i) + count_by is_bad (between (feed_at feeds i) (was i) (now i))
  bad-more =
      let rs = between (feed_at feeds i) (was i) (now i) in
      let next : i + 1 ≡ suc i = omega arith in
      rw next (count-append (λ (x : Entry). is_bad x.content) (of_epoch feeds e was now i) (entries e i (was i) rs) ∙ ap (λ (n : ℕ). count_by (λ (x : Entry). is_bad x.content) (of_epoch feeds e was now i) + n) (bad-entries e i (was i) rs))

  pub bad-few : count_by is_bad (between (feed_at feeds i) (was i) (now i)) ≤ now i - was i
  bad-few = let a = count_by-le-length is_bad (between (feed_at feeds i) (was i) (now i)) in let b = length-between (feed_at feeds i) (was i) (now i) lo hi in omega (arith, a, b)

-- the feeds up to one more node have together at least the records of that feed more
pub feeds-more : (feeds : List (List Record)) (i : ℕ) → i < length feeds → sum_by (λ (f : List Record). length f) (take (i + 1) feeds) ≡ sum_by (λ (f : List Record). length f) (take i feeds) + length (feed_at feeds i)
feeds-more feeds i lt =
    let a = sum_by-append (λ (f : List Record). length f) (take i feeds) (get_or feeds i [] ∷ []) in
    let b = sum_by-cons (λ (f : List Record). length f) (get_or feeds i []) [] in
    rw (take_more feeds i [] lt) (omega (arith, a, b))

-- what is counted at the first i nodes: no more records than their feeds have, and no more Bad ones than records
pub record IsCounted (feeds : List (List Record)) (was now : ℕ → ℕ) (i records bad : ℕ) : Type 0 where
  pub records_are : (e : ℕ) → records ≡ length (of_epoch feeds e was now i)
  pub bad_are : (e : ℕ) → bad ≡ count_by (λ (x : Entry). is_bad x.content) (of_epoch feeds e was now i)
  pub few : records ≤ sum_by (λ (f : List Record). length f) (take i feeds)
  pub some : bad ≤ records

-- one node more
pub count-more : (feeds : List (List Record)) (was now : ℕ → ℕ) (i records bad from to more : ℕ) (feed : List Record) → AreWithin feeds was now → i < length feeds
    → feed ≡ get_or feeds i feed → from ≡ was i → to ≡ now i → more ≡ count_by is_bad (between feed from to) → IsCounted feeds was now i records bad
    → IsCounted feeds was now (i + 1) (records + (to - from)) (bad + more)
count-more feeds was now i records bad from to more feed within lt at first last some c =
    let lo = (within i lt).0 in
    let hi = (within i lt).1 in
    let here : feed ≡ feed_at feeds i = get_or_read_under feeds i (length feeds) feed [] at lt refl in
    let all : more ≡ count_by is_bad (between (feed_at feeds i) (was i) (now i)) = some ∙ ap (λ (f : List Record). count_by is_bad (between f from to)) here
    ∙ ap (λ (n : ℕ). count_by is_bad (between (feed_at feeds i) n to)) first ∙ ap (λ (n : ℕ). count_by is_bad (between (feed_at feeds i) (was i) n)) last in
    record {
      records_are = λ e. let a = c.records_are e in let b = records-more feeds e was now i lo hi in omega (arith, a, b, first, last);
      bad_are = λ e. let a = c.bad_are e in let b = bad-more feeds e was now i lo hi in omega (arith, a, b, all);
      few = let a = c.few in let b = feeds-more feeds i lt in omega (arith, a, b, first, last, hi);
      some = let a = c.some in let b = bad-few feeds 0 was now i lo hi in omega (arith, a, b, all, first, last);
    }

-- how many records of feeds are Bad, and no more than there are
pub record AreCounted (feeds : List (List Record)) (bad : ℕ) : Type 0 where
  pub bad_are : bad ≡ sum_by (λ (feed : List Record). count_by is_bad feed) feeds
  pub few : bad ≤ sum_by (λ (feed : List Record). length feed) feeds

-- one feed more
pub bad-next : (feeds : List (List Record)) (i bad more : ℕ) (feed : List Record) → i < length feeds → feed ≡ get_or feeds i feed → more ≡ count_by is_bad (between feed 0 (length feed))
    → AreCounted (take i feeds) bad → AreCounted (take (i + 1) feeds) (bad + more)
bad-next feeds i bad more feed lt at some c =
    let size = λ (f : List Record). length f in
    let bads = λ (f : List Record). count_by is_bad f in
    let here = get_or feeds i feed in
    let whole : between feed 0 (length feed) ≡ feed = take_all (length feed - 0) feed (omega arith) in
    let is : more ≡ count_by is_bad here = some ∙ ap (λ (f : List Record). count_by is_bad f) (whole ∙ at) in
    let low = count_by-le-length is_bad here in
    let a = sum_by-append bads (take i feeds) (here ∷ []) in
    let b = sum_by-cons bads here [] in
    let x = sum_by-append size (take i feeds) (here ∷ []) in
    let y = sum_by-cons size here [] in
    rw (take_more feeds i feed lt) record {
      bad_are = let n = c.bad_are in omega (arith, n, is, a, b);
      few = let n = c.few in omega (arith, n, is, low, x, y);
    }
