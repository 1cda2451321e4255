-- What an epoch begins with.
use Rattle.std.specs.Prelude.{ℕ, List}
use Rattle.kin_ids.specs.declared.ids.User.{User}
use Rattle.kin_ids.specs.Parts.{PartView}
use Rattle.kin_graph.specs.Deltas.{DeltaLists}
use Rattle.kin_graph.specs.Views.{AreVertices}
use Rattle.kin_changes.specs.Views.{AreLed}
use Rattle.kin_rules.specs.ExposureLists.{AreTallies}
use Rattle.kin_rules.specs.ExposureRule.{exposure_rule}
use Rattle.kin_rules.specs.RankRule.{rank_rule}
use Rattle.kin_rules.specs.Scratches.{AreLists}
use Rattle.kin_pull.specs.Begins.{IsBegun}
use Rattle.kin_scores.specs.declared.plans.ScorePlan.{ScorePlan}
use Rattle.kin_scores.specs.Scores.{AreKept, AreQuiet, ScoresView, StandOn, entries_in}

-- what is kept once the epoch is begun
abbrev pub planned : ScorePlan → ScoresView
planned p = record { ranks = p.ranks; expos = p.expos }

-- It keeps something of each of these users, and has the exposures that the entries make of these tags.
pub record IsPlanOf (us : List User) (tags : List (List ℕ)) (p : ScorePlan) : Type 0 where
  pub kept : AreKept us (planned p)
  pub lists : AreLists tags p.lists.items
  pub tallies : AreTallies (entries_in (planned p)) tags p.lists.items

-- both rules begin the epoch of these deltas
pub record HasBegun (ds : List DeltaLists) (us : List User) (s : ScoresView) (more : List User) (p : ScorePlan) : Type 0 where
  pub ranks : IsBegun rank_rule ds us s.ranks more p.ranks
  pub expos : IsBegun exposure_rule ds us s.expos more p.expos

-- then the facts stand over the view to which the deltas lead
abbrev pub BeginLaw : Type 0
BeginLaw = (was is : PartView) (ds : List DeltaLists) (us : List User) (s : ScoresView) (more : List User) (p : ScorePlan)
    → AreLed was is ds → AreVertices is more → StandOn was us s → AreQuiet us s → HasBegun ds us s more p → StandOn is more (planned p)
