-- Follow halves that are turned to present or absent.
use Rattle.std.specs.Prelude.{Bool, List, [], ◌∷◌, if◌then◌else◌}
use Rattle.kin_ids.specs.declared.ids.User.{User}
use Rattle.kin_ids.specs.declared.ops.Half.{Half}
use Rattle.kin_ids.specs.Users.{same_user}

-- the half is present or absent from here on, where it was ever added
abbrev pub turned : User → Bool → List Half → List Half
turned v b [] = []
turned v b (x ∷ xs) = if same_user v x.other then record x { present = b } ∷ xs else x ∷ turned v b xs
