-- The facts of users while an epoch is planned.
use Rattle.std.specs.Prelude.{◌≡◌, ◌<◌, ◌+◌, ◌-◌, ◌++◌, ℕ, Bool, true, false, List, [], Option, Some, None, length, map, slice_index_or}
use Rattle.std.specs.Prelude.{if◌then◌else◌}
use Rattle.kin_ids.specs.declared.ids.User.{User}
use Rattle.kin_ids.specs.declared.ops.Use.{Use}
use Rattle.kin_rules.specs.declared.pull_rules.Facts.{Facts}
use Rattle.kin_rules.specs.Layers.{LayerRule, blank}
use Rattle.kin_rules.specs.Places.{place}
use Rattle.kin_pull.specs.States.{KeptView, value_in}

-- the facts at the place of a user
abbrev pub facts_at : List User → List Facts → User → Facts
facts_at us facts x = slice_index_or facts (place us x) (blank x)

-- facts of a user that follows so many more, or so many fewer, or has these uses beside
abbrev pub with_more : ℕ → Facts → Facts
with_more n f = record f { following = f.following + n }

abbrev pub with_fewer : ℕ → Facts → Facts
with_fewer n f = record f { following = f.following - n }

abbrev pub with_uses : List Use → Facts → Facts
with_uses xs f = record f { uses = f.uses ++ xs }

-- rows of these users' values in the layers above layer 0
pub record AreCopied {V : Type 0} (first : V) (us : List User) (k : KeptView V) (vs : List User) (n : ℕ) (rows : List
    (List V)) : Type 0 where
  pub long : length rows ≡ n
  pub each : (j : ℕ) → j < n → slice_index_or rows j [] ≡ map (value_in first us k (j + 1)) vs

-- The layer from which on a user starts active: layer 1 where an input came or went, or where the facts that it told make other values than
-- those
-- of now.
abbrev pub start_of : {V : Type 0} → LayerRule V → Bool → Option Facts → Facts → Option ℕ
start_of r true told now = Some 1
start_of r false None now = None
start_of r false (Some told) now = if r.own_alike told now then None else Some 1
