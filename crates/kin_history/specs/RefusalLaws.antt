-- Refused events.
use Rattle.std.specs.Prelude.{ℕ, ◌≡◌, Bool, List, ◌∷◌}
use Rattle.kin_ids.specs.declared.stamps.Stamp.{Stamp}
use Rattle.kin_script.specs.declared.events.Event.{Event}
use Rattle.kin_script.specs.declared.outcomes.Refusal.{Refusal}
use Rattle.kin_script.specs.declared.outcomes.Outcome.TheVariants as outcome
use Rattle.kin_history.specs.Setting.{Setting}
use Rattle.kin_history.specs.Lines as lines
use Rattle.kin_history.specs.Vectors as vectors
use Rattle.kin_history.specs.Mining as mining
use Rattle.kin_history.specs.Outcomes.{outcome_of}

-- All that stands after a history: by node, by partition, by vector, and of mining.
pub record Standing : Type 0 where
  pub up : ℕ → Bool
  pub inc : ℕ → ℕ
  pub line : ℕ → List Stamp
  pub bases : ℕ → List ℕ
  pub agreed : ℕ → ℕ
  pub sent : List Stamp
  pub delivered : ℕ → List Stamp
  pub reported : ℕ → List Stamp
  pub has_reported : ℕ → Bool
  pub cuts : ℕ
  pub vector : ℕ → ℕ → ℕ
  pub committed : ℕ → ℕ
  pub mined : ℕ
  pub is_open : Bool

abbrev pub standing : Setting → List Event → Standing
standing set h = record {
  up = lines.up set h;
  inc = lines.inc set h;
  line = lines.line set h;
  bases = lines.bases set h;
  agreed = lines.agreed set h;
  sent = lines.sent set h;
  delivered = lines.delivered set h;
  reported = lines.reported set h;
  has_reported = lines.has_reported set h;
  cuts = vectors.cuts set h;
  vector = vectors.vector set h;
  committed = vectors.committed set h;
  mined = mining.mined set h;
  is_open = mining.is_open set h;
}

-- a refused event changes nothing
abbrev pub RefusedLaw : Type 0
RefusedLaw = (set : Setting) (h : List Event) (e : Event) (why : Refusal) → outcome_of set h e ≡ outcome.Refused why → standing set (e ∷ h) ≡ standing set h
