use Rattle.std.proofs.Common.{ℕ, ap, ◌∙◌, count_by}
use Rattle.std.proofs.lemmas.List.{take_all}
use Rattle.kin_ids.specs.Operations.{is_bad}
use Rattle.kin_ids.specs.Order.{between}
use Rattle.kin_replay.specs.Demos.{bad_of}
use Rattle.kin_replay.proofs.Counting.{bad-next}
use Rattle.kin_replay.proofs.generated.count_bad.Goals as goal

pub loop-feed-preserved : goal.loop-feed-preserved
loop-feed-preserved c =
    bad-next c.args.feeds.now c.loop-feed.feed-index c.loop-feed.bad c.bad_between-bad.result c.feed-item.result c.loop-feed-test.true c.feed-item.is
    (c.bad_between-bad.ensures ∙ ap (λ (n : ℕ). count_by is_bad (between c.feed-item.result 0 n)) c.len.ensures.count) c.loop-feed.invariant

pub returns : goal.returns
returns c = c.loop-feed.invariant.bad_are ∙ ap bad_of (take_all c.loop-feed.feed-index c.args.feeds.now c.loop-feed-test.false)
