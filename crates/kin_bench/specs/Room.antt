-- A store of one partition in all, in which no count of mentions is near its end.
use Rattle.std.specs.Prelude.{ℕ, ◌≡◌, ◌<◌, ◌^◌, List, [], ◌∷◌}
use Rattle.kin_ids.specs.declared.ids.User.{User}
use Rattle.kin_ids.specs.declared.ops.Numbered.{Numbered}
use Rattle.kin_ids.specs.declared.ops.Op.TheVariants as op
use Rattle.kin_graph.specs.State.{PartState, view_of}

pub record HasRoom (s : PartState) : Type 0 where
  pub part : s.part ≡ 0
  pub parts : s.parts ≡ 1
  pub said : (u : User) → (view_of s).said u < 2 ^ 64

-- both halves of a follow edge
abbrev pub both_halves : ℕ → User → User → List Numbered
both_halves n u v = record { number = n; op = op.AddOut u v } ∷ record { number = n; op = op.AddIn v u } ∷ []
