-- What an answer tells of the epoch that was mined.
use Rattle.std.specs.Prelude.{ℕ, ◌≡◌, ◌≤◌, ◌<◌, false, List}
use Rattle.kin_script.specs.declared.events.Event.{Event}
use Rattle.kin_script.specs.declared.outcomes.Outcome.{Outcome}
use Rattle.kin_script.specs.declared.outcomes.Outcome.TheVariants as outcome
use Rattle.kin_history.specs.Setting.{Setting}
use Rattle.kin_history.specs.Vectors.{cuts}
use Rattle.kin_history.specs.Mining.{is_open}
use Rattle.kin_world.specs.Worlds.{WorldView}
use Rattle.kin_world.specs.Stands.{Stands, last_begun}

-- The world stands for a history that began this epoch last, cut it, and has none open: so it was just mined.
pub record HasJustMined (w : WorldView) (k : ℕ) : Type 0 where
  pub set : Setting
  pub h : List Event
  pub stands : Stands set w h
  pub some : 0 < k
  pub begun : last_begun set h ≡ k
  pub cut : k ≤ cuts set h
  pub closed : is_open set h ≡ false

-- the same where the answer is that an epoch was mined
abbrev pub HasMined : WorldView → Outcome → Type 0
HasMined w (outcome.Mined k) = HasJustMined w k.0
HasMined w _ = Unit {0}

-- an answer that an epoch was mined names the one that was begun last
abbrev pub IsOfHistory : Setting → List Event → Outcome → Type 0
IsOfHistory set h (outcome.Mined k) = last_begun set h ≡ k.0
IsOfHistory set h _ = Unit {0}
