-- What a job that was read is, and what its words are to be like.
use Rattle.std.specs.Prelude.{◌<◌, ◌≤◌, length}
use Rattle.kin_ids.specs.declared.options.ReplayWords.{ReplayWords}
use Rattle.kin_replay.specs.Jobs as jobs
use Rattle.kin_replay.specs.declared.jobs.Job.{Job}

-- the job that stands for it
abbrev pub job_of : Job → jobs.Job
job_of job = record {
  setting = record { feeds = job.feeds.items; parts = job.parts; landmarks = job.options.landmarks };
  options = job.options;
  trace = job.trace;
  lines = job.lines.items;
}

-- 1 to 16 feeds, 1 to 64 partitions, and at most 16 landmarks
pub record AreInRange (w : ReplayWords) : Type 0 where
  pub some_feeds : 0 < length w.feeds
  pub few_feeds : length w.feeds ≤ 16
  pub some_parts : 0 < w.parts
  pub few_parts : w.parts ≤ 64
  pub few_landmarks : length w.options.landmarks ≤ 16
