use Rattle.std.proofs.Common.{◌≡◌, ◌+◌, List, length, map, take}
use Rattle.std.specs.List.{sum_by}
use Rattle.kin_ids.specs.declared.ops.Record.{Record}
use Rattle.kin_feed.specs.Records.{records_of}
use Rattle.kin_replay.proofs.files.read_feeds.Given as goal

-- the feeds so far are those of the first files, and what is left of the limit goes with them
abbrev pub invariant-loop-file : goal.invariant-loop-file
invariant-loop-file l = record {
  left : l.left + sum_by (λ (feed : List Record). length feed) l.feeds.items ≡ 2097152;
  feeds : l.feeds.items ≡ map records_of (map (λ f. f.items) (take l.file-index l.files));
}
