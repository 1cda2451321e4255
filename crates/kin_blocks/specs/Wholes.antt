-- The parts of a graph together, and the two halves of its edges.
use Rattle.std.specs.Prelude.{ℕ, ◌≡◌, ◌<◌, Bool, List, Option, length}
use Rattle.std.specs.List.{find}
use Rattle.std.specs.Option.{option_map}
use Rattle.kin_ids.specs.declared.ids.User.{User}
use Rattle.kin_ids.specs.declared.stamps.Place.{Place}
use Rattle.kin_ids.specs.declared.ops.Half.{Half}
use Rattle.kin_ids.specs.Users.{same_user}
use Rattle.kin_ids.specs.Graph.{Graph}
use Rattle.kin_ids.specs.Parts.{PartView, IsPart}
use Rattle.kin_ids.specs.Wholes.{IsViewOf}
use Rattle.kin_graph.specs.State.{PartState}
use Rattle.kin_blocks.specs.Snaps.{IsSnap, view_at, joined}

-- the parts of a graph on all partitions are the whole graph together
abbrev pub JoinLaw : Type 0
JoinLaw = (stores : List PartState) (g : Graph) → IsSnap stores →
    ((p : ℕ) → p < length stores → IsPart (length stores) p g (view_at stores p)) → IsViewOf g (joined stores)

-- what a half tells of its edge: whether it is present, and where it was first added
pub record Told : Type 0 where
  pub present : Bool
  pub added : Place

abbrev pub told : Half → Told
told h = record { present = h.present; added = h.added }

-- what the half out of u to w tells, and the half into w from u, where it is there
abbrev pub told_out : PartView → User → User → Option Told
told_out v u w = option_map told (find (λ h. same_user w h.other) (v.out u))

abbrev pub told_in : PartView → User → User → Option Told
told_in v u w = option_map told (find (λ h. same_user u h.other) (v.inn w))

-- no edge has one half only, and the two halves of an edge tell the same
abbrev pub HalvesLaw : Type 0
HalvesLaw = (g : Graph) (v : PartView) → IsViewOf g v → (u w : User) → told_out v u w ≡ told_in v u w
