-- Entries of exposure, a use each.
use Rattle.std.specs.Prelude.{◌==◌, ◌&&◌, ℕ, List, map, filter, get_or, count_by}
use Rattle.kin_ids.specs.declared.ids.User.{User}
use Rattle.kin_ids.specs.declared.ops.Use.{Use}
use Rattle.kin_ids.specs.Users.{same_user, same_tag}
use Rattle.kin_ids.specs.Graph.{Graph}
use Rattle.kin_rules.specs.declared.exposure_rules.UseK.{UseK}
use Rattle.kin_rules.specs.declared.pull_rules.Facts.{Facts}
use Rattle.kin_rules.specs.Exposure.{earlier_followed}
use Rattle.kin_rules.specs.ExposureRule.{is_earlier}

-- the uses of those who stand at these places
abbrev pub uses_at : Facts → List Facts → List ℕ → List (List Use)
uses_at df facts ends = map (λ i. (get_or facts i df).uses) ends

-- an entry of a use, where others have these uses
abbrev pub entry_among : List (List Use) → Use → UseK
entry_among lists x = record { tag = x.tag; k = count_by (is_earlier x) lists }

-- how many uses of a tag by a user have the exposure k
abbrev pub uses_with : Graph → List ℕ → ℕ → User → ℕ
uses_with g t k u = count_by (λ x. same_tag t x.tag && earlier_followed g x == k) (filter (λ x. same_user u x.user) g.uses)
