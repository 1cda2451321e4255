use Rattle.std.proofs.Common.{map, ap, ◌∙◌}
use Rattle.kin_feed.specs.Records.{records_of}
use Rattle.kin_replay.proofs.generated.generated_feeds.Goals as goal

pub returns-in-Ok-clause-feeds : goal.returns-in-Ok-clause-feeds
returns-in-Ok-clause-feeds c =
    c.in-Ok.ensures.ok ∙ ap (λ ts. map records_of (map (λ f. f.items) ts)) c.as_slice.ensures.value ∙ ap (map records_of) c.in_ok-texts.ensures
