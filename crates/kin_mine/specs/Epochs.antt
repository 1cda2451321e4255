-- What a miner's calls do to what it keeps.
use Rattle.std.specs.Prelude.{◌≡◌, ℕ, List, Some, slice_get}
use Rattle.kin_ids.specs.declared.ids.User.{User}
use Rattle.kin_ids.specs.Parts.{PartView}
use Rattle.kin_graph.specs.Deltas.{DeltaLists}
use Rattle.kin_pull.specs.Begins.{IsBegun}
use Rattle.kin_push.specs.Begins.{Begins}
use Rattle.kin_push.specs.States.{PushState}
use Rattle.kin_rules.specs.ExposureRule.{exposure_rule}
use Rattle.kin_rules.specs.RankRule.{rank_rule}
use Rattle.kin_scores.specs.Turns as scores
use Rattle.kin_mine.specs.declared.walk_rules.Distance.{Distance}
use Rattle.kin_mine.specs.Lanes.{lane}
use Rattle.kin_mine.specs.Marks.{rule_of}
use Rattle.kin_mine.specs.Miners.{MinerView, seen}
use Rattle.kin_mine.specs.Walkers.{AreSettled, AreTurned, lanes_of, walks_owed}

-- the state of the landmark of a number under a distance
abbrev pub lane_of : Distance → MinerView → ℕ → PushState
lane_of d m i = lane m.result.users (lanes_of d m.result m.walkers) i

-- nothing but walks, ranks and exposures changes
abbrev pub KeepsRest : MinerView → MinerView → Type 0
KeepsRest old new = new ≡ record old {
  result = record old.result { hops = new.result.hops; close = new.result.close; ranks = new.result.ranks; expos = new.result.expos };
  walkers = new.walkers;
  scores = new.scores;
}

-- by a turn of u each column of walks is turned, and so are ranks and exposures, and nothing else changes
pub record TurnsAt (u : User) (old new : MinerView) : Type 0 where
  pub walks : AreTurned (seen old) u old.landmarks old.result old.walkers new.result new.walkers
  pub scores : scores.AreTurned (seen old) old.result.users u old.scores new.scores
  pub rest : KeepsRest old new

-- by turns each column of walks is settled, and so are ranks and exposures, and nothing else changes
pub record Settles (old new : MinerView) : Type 0 where
  pub walks : AreSettled (seen old) old.landmarks old.result old.walkers new.result new.walkers
  pub scores : scores.AreSettled (seen old) old.result.users old.scores new.scores
  pub rest : KeepsRest old new

-- each column of walks begins a later epoch, and so do ranks and exposures
pub record BeginsOn (v : PartView) (ds : List DeltaLists) (old new : MinerView) : Type 0 where
  pub walks : (d : Distance) (i : ℕ) (l : User) → slice_get old.landmarks i ≡ Some l → Begins (rule_of d l) v ds (lane_of d old i) (lane_of d new i)
  pub ranks : IsBegun rank_rule ds old.result.users old.scores.ranks new.result.users new.scores.ranks
  pub expos : IsBegun exposure_rule ds old.result.users old.scores.expos new.result.users new.scores.expos

-- what the later turns of walks may read
abbrev pub owed : MinerView → ℕ
owed m = walks_owed (seen m) m.landmarks m.result m.walkers
