use Rattle.kin_replay.proofs.FeedRows.{all-bad, quoted}
use Rattle.kin_replay.proofs.rows.rows_on_feeds.Goals as goal

pub returns-clause-all_bad : goal.returns-clause-all_bad
returns-clause-all_bad c = all-bad

pub returns-clause-quoted : goal.returns-clause-quoted
returns-clause-quoted c = quoted
