use Rattle.kin_ids.proofs.Heard.{tweet-law}
use Rattle.kin_ids.proofs.laws.tweet_laws.Goals as goal

pub returns : goal.returns
returns c = record { tweets = tweet-law }
