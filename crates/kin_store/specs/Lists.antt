-- Lists in the order of first adding.
use Rattle.std.specs.Prelude.{ℕ, List, Option, position}
use Rattle.std.specs.List.{find}
use Rattle.std.specs.BTreeMap.{is_at}
use Rattle.std.specs.declared.cmp.Ordering.{Ordering}
use Rattle.kin_ids.specs.declared.ids.User.{User}
use Rattle.kin_ids.specs.declared.ops.Half.{Half}
use Rattle.kin_ids.specs.declared.ops.Use.{Use}
use Rattle.kin_ids.specs.Users.{user_cmp, tag_cmp, same_user, same_tag}

-- so many items are scanned, without an index
abbrev pub few : ℕ
few = 16

-- where the first item with this key stands
abbrev pub place_of : {K T : Type 0} → (K → K → Ordering) → (T → K) → K → List T → Option ℕ
place_of cmp key k items = position (λ x. is_at (cmp k) (key x)) items

abbrev pub half_key : Half → User
half_key h = h.other

abbrev pub user_key : User → User
user_key u = u

abbrev pub use_key : Use → List ℕ
use_key x = x.tag

-- where a user stands among halves and among users, and a tag among uses
abbrev pub half_place : List Half → User → Option ℕ
half_place halves w = place_of user_cmp half_key w halves

abbrev pub user_place : List User → User → Option ℕ
user_place users w = place_of user_cmp user_key w users

abbrev pub use_place : List Use → List ℕ → Option ℕ
use_place uses t = place_of tag_cmp use_key t uses

-- the half with this other end, where it was ever added
abbrev pub half_to : List Half → User → Option Half
half_to halves w = find (λ h. same_user w h.other) halves

-- the use of a tag, where there is one
abbrev pub use_of : List Use → List ℕ → Option Use
use_of uses t = find (λ x. same_tag t x.tag) uses
