use Rattle.kin_replay.proofs.OneJob.{asked-once}
use Rattle.kin_replay.proofs.laws.job_laws.Goals as goal

pub returns : goal.returns
returns c = asked-once c.text_laws.ensures
