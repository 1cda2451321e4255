-- What turns and settles do to ranks and exposures.
use Rattle.std.specs.Prelude.{◌≡◌, ◌≤◌, ◌+◌, ℕ, true, false, List, if◌then◌else◌}
use Rattle.kin_ids.specs.declared.ids.User.{User}
use Rattle.kin_ids.specs.Parts.{PartView}
use Rattle.kin_rules.specs.declared.turns.Turn.{Turn}
use Rattle.kin_rules.specs.declared.turns.Turn.TheVariants as turn
use Rattle.kin_rules.specs.ExposureRule.{exposure_rule}
use Rattle.kin_rules.specs.Layers.{LayerRule}
use Rattle.kin_rules.specs.RankRule.{rank_rule}
use Rattle.kin_rules.specs.Results.{ResultView}
use Rattle.kin_pull.specs.Keeping.{layer_in}
use Rattle.kin_pull.specs.Settles.{settle_reads}
use Rattle.kin_pull.specs.States.{IsQuiet, KeptView, keeping, net_in, value_in}
use Rattle.kin_pull.specs.States as kept
use Rattle.kin_pull.specs.Turns.{IsMoved, IsRested, turn_reads}
use Rattle.kin_scores.specs.Scores.{ScoresView, is_active}

-- By a turn of u its layers alone change, and u is active no longer. Where u was active it is at rest, and else nothing changes.
pub record IsTurnedBy {V : Type 0} (r : LayerRule V) (top : ℕ) (v : PartView) (us : List User) (u : User) (old new : KeptView V) : Type 0 where
  pub moved : kept.is_active us old u ≡ true → IsMoved (net_in r.side v us old) top u (keeping r.first us old) (keeping r.first us new)
  pub rested : kept.is_active us old u ≡ true → IsRested r (net_in r.side v us new) top (keeping r.first us new) u
  pub idle : kept.is_active us old u ≡ false → new ≡ old
  pub turned : kept.is_active us new u ≡ false

pub record AreTurned (v : PartView) (us : List User) (u : User) (old new : ScoresView) : Type 0 where
  pub ranks : IsTurnedBy rank_rule 8 v us u old.ranks new.ranks
  pub expos : IsTurnedBy exposure_rule 1 v us u old.expos new.expos

-- By a settle nobody is active, and every layer is the rule's. Where nobody was active nothing changes.
pub record IsSettledBy {V : Type 0} (r : LayerRule V) (top : ℕ) (v : PartView) (us : List User) (old new : KeptView V) : Type 0 where
  pub layers : (j : ℕ) (x : User) → j ≤ top → value_in r.first us new j x ≡ layer_in r (net_in r.side v us old) j x
  pub quiet : IsQuiet us new
  pub idle : IsQuiet us old → new ≡ old

pub record AreSettled (v : PartView) (us : List User) (old new : ScoresView) : Type 0 where
  pub ranks : IsSettledBy rank_rule 8 v us old.ranks new.ranks
  pub expos : IsSettledBy exposure_rule 1 v us old.expos new.expos

-- what a turn of a user answers
abbrev pub turn_of : List User → ScoresView → User → Turn
turn_of us s u = if is_active us s u then turn.Turned else turn.Idle

-- the most that a turn of a user reads by both rules
abbrev pub most_reads : PartView → List User → ScoresView → User → ℕ
most_reads v us s u = turn_reads rank_rule v us s.ranks u + turn_reads exposure_rule v us s.expos u

-- what a settle reads by both rules
abbrev pub scores_reads : PartView → List User → ScoresView → ℕ
scores_reads v us s =
    settle_reads rank_rule (net_in rank_rule.side v us s.ranks) v (keeping rank_rule.first us s.ranks) us 8
    + settle_reads exposure_rule (net_in exposure_rule.side v us s.expos) v (keeping exposure_rule.first us s.expos) us 1

-- nothing but ranks and exposures of a result changes
abbrev pub KeepsRest : ResultView → ResultView → Type 0
KeepsRest old new = new ≡ record old { ranks = new.ranks; expos = new.expos }
