use Rattle.std.proofs.Common.{rules, leb, ◌≡◌}
use Rattle.std.proofs.lemmas.List.Sorted.{IsPartitionPoint-from_clause}
use Rattle.kin_feed.specs.BadIndex.{bad_numbers}
use Rattle.kin_feed.proofs.BadCounts.{parted, point_counts}
use Rattle.kin_feed.proofs.feeds.Feed.bad_until.Goals as goal

pub returns : goal.returns
returns c =
    let items : c.deref.result.now ≡ bad_numbers 0 c.args.self.now = search rules in
    let point = IsPartitionPoint-from_clause (λ y. leb y c.args.to) _ _ c.partition_point.ensures.partitioned (rw items (parted c.args.to c.args.self.now)) (λ a r q k. search rules) in
    point_counts c.args.to c.args.self.now c.partition_point.result (rw items at c.partition_point.ensures.bound) (rw items at point)
