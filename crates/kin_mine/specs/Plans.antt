-- What a miner begins an epoch with.
use Rattle.std.specs.Prelude.{◌≡◌, List, Option, Some, None, length}
use Rattle.kin_ids.specs.declared.ids.User.{User}
use Rattle.kin_ids.specs.Users.{has_user}
use Rattle.kin_ids.specs.Parts.{PartView}
use Rattle.kin_graph.specs.Deltas.{DeltaLists}
use Rattle.kin_changes.specs.Views.{AreLed}
use Rattle.kin_counts.specs.Plans.{IsPlanOf, planned_tags, planned_users}
use Rattle.kin_push.specs.Begins.{is_started}
use Rattle.kin_scores.specs.Plans.{HasBegun}
use Rattle.kin_scores.specs.Plans as scores
use Rattle.kin_mine.specs.declared.walk_rules.Distance.TheVariants as distance
use Rattle.kin_mine.specs.declared.plans.Plan.{Plan}
use Rattle.kin_mine.specs.Lanes.{no_user}
use Rattle.kin_mine.specs.Marks.{rule_of}
use Rattle.kin_mine.specs.Miners.{MinerView}
use Rattle.kin_mine.specs.Walkers.{WalkersView, no_walkers}

-- deltas lead to some later view
abbrev pub LeadOn : PartView → List DeltaLists → Type 0
LeadOn was ds = (is : PartView) × AreLed was is ds

-- marks for the next users, or else the users stay
abbrev pub IsFreshFor : List User → List User → List User → Option WalkersView → Type 0
IsFreshFor landmarks old next None = next ≡ old
IsFreshFor landmarks old next (Some w) = w ≡ no_walkers (length landmarks) (length next)

-- The counts' part is of the deltas; there are marks where users are new; the starts are those that hops and closeness use; and ranks and
-- exposures begin the epoch of the deltas over its users and tags.
pub record IsPlanned (m : MinerView) (ds : List DeltaLists) (p : Plan) : Type 0 where
  pub counts : IsPlanOf m.result ds p.counts
  pub fresh : IsFreshFor m.landmarks m.result.users (planned_users p.counts m.result) p.fresh
  pub hop_starts : (u : User) → has_user p.hop_starts.items u ≡ is_started (rule_of distance.Hops no_user) ds u
  pub close_starts : (u : User) → has_user p.close_starts.items u ≡ is_started (rule_of distance.Close no_user) ds u
  pub scores : scores.IsPlanOf (planned_users p.counts m.result) (planned_tags p.counts m.result) p.scores
  pub begun : HasBegun ds m.result.users m.scores (planned_users p.counts m.result) p.scores
