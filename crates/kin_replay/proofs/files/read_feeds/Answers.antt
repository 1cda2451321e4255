use Rattle.std.proofs.Common.{rules, ◌≡◌, ◌+◌, ◌<◌, ◌≤◌, ◌++◌, ◌∷◌, List, [], get_or, length, map, take, refl, ap, arith}
use Rattle.std.specs.List.{sum_by}
use Rattle.std.proofs.lemmas.List.Sums.{sum_by-append, sum_by-cons}
use Rattle.std.specs.Result.{IsErrOf}
use Rattle.kin_ids.specs.declared.ops.Record.{Record}
use Rattle.kin_ids.specs.declared.statuses.Which.TheVariants as which
use Rattle.kin_feed.specs.Records.{records_of}
use Rattle.kin_replay.specs.declared.refusals.Refusal.TheVariants as refusal
use Rattle.kin_replay.proofs.Loads.{map-last, map-next, sum-next-twice}
use Rattle.kin_replay.proofs.files.read_feeds.Goals as goal

pub loop-file-preserved : goal.loop-file-preserved
loop-file-preserved c =
    let inv = c.loop-file.invariant in
    let items : c.push.new.self.items ≡ c.loop-file.feeds.items ++ c.in_ok-feed.feed ∷ [] = c.in-Ok-push.ensures.items in
    let within : length (records_of c.as_slice.result.now) ≤ c.loop-file.left = c.in_ok-feed.ensures.within in
    let feed : c.in_ok-feed.feed ≡ records_of c.as_slice.result.now = c.in_ok-feed.ensures.ok in
    let size = ap (λ (f : List Record). length f) feed in
    let sum = sum_by-append (λ (f : List Record). length f) c.loop-file.feeds.items (c.in_ok-feed.feed ∷ []) in
    let one = sum_by-cons (λ (f : List Record). length f) c.in_ok-feed.feed [] in
    let n : c.len-left.result ≡ length c.in_ok-feed.feed = c.len-left.ensures.count in
    record {
      left = rw items (let was = inv.left in omega (arith, was, sum, one, within, size, n));
      feeds =
          let i = c.loop-file.file-index in
          let next = map-next (λ f. f.items) c.args.files.now i c.file-item.result c.loop-file-test.true in
          rw (items, inv.feeds, next, map-last records_of (map (λ f. f.items) (take i c.args.files.now)) ((get_or c.args.files.now i c.file-item.result).items), feed, ← c.file-item.is) (rw c.as_slice.ensures.value refl);
    }

pub returns-in_err-feed-clause-many : goal.returns-in_err-feed-clause-many
returns-in_err-feed-clause-many c = λ e.
    let inv = c.loop-file.invariant in
    let hit : IsErrOf c.read_one.result (refusal.Limit which.Records) = search rules in
    let past : c.loop-file.left < length (records_of c.as_slice.result.now) = c.read_one.ensures.many hit in
    let i = c.loop-file.file-index in
    let next = sum-next-twice (λ (f : List Record). length f) records_of (λ f. f.items) c.args.files.now i c.file-item.result c.loop-file-test.true in
    let was : c.loop-file.left + sum_by (λ (f : List Record). length f) (map records_of (map (λ f. f.items) (take i c.args.files.now))) ≡ 2097152 = rw (← inv.feeds) inv.left in
    let long : c.loop-file.left < length (records_of (get_or c.args.files.now i c.file-item.result).items) = rw (← c.file-item.is, ← c.as_slice.ensures.value) past in
    omega (arith, next, was, long)
