-- What deltas tell of all partitions together.
use Rattle.std.specs.Prelude.{◌≡◌, ◌+◌, ◌&&◌, ◌||◌, ℕ, Bool, List, is_some, length, count_by, if◌then◌else◌}
use Rattle.std.specs.List.{list_any, sum_by}
use Rattle.kin_ids.specs.declared.ids.User.{User}
use Rattle.kin_ids.specs.Users.{same_user, same_tag, has_user}
use Rattle.kin_ids.specs.Parts.{PartView}
use Rattle.kin_store.specs.declared.pairs.Pair.{Pair}
use Rattle.kin_store.specs.Lists.{half_to}
use Rattle.kin_graph.specs.Deltas.{DeltaLists}
use Rattle.kin_graph.specs.Views.{is_vertex, is_in_use}
use Rattle.kin_changes.specs.Views.{AreLed}

-- whether a pair is of this user, and of this user with this other one
abbrev pub is_of : User → Pair → Bool
is_of u p = same_user u p.user

abbrev pub is_to : User → User → Pair → Bool
is_to u w p = same_user u p.user && same_user w p.other

-- whether a follow edge, or a mention edge, was added for the first time
abbrev pub adds_follow : List DeltaLists → User → User → Bool
adds_follow ds u w = list_any (λ d. list_any (is_to u w) d.new_out) ds

abbrev pub adds_mention : List DeltaLists → User → User → Bool
adds_mention ds u w = list_any (λ d. list_any (is_to u w) d.mention_out) ds

-- whether some such edge out of u was
abbrev pub adds_follow_of : List DeltaLists → User → Bool
adds_follow_of ds u = list_any (λ d. list_any (is_of u) d.new_out) ds

abbrev pub adds_mention_of : List DeltaLists → User → Bool
adds_mention_of ds u = list_any (λ d. list_any (is_of u) d.mention_out) ds

-- whether u stands in an edge, or has a use, that was added for the first time
abbrev pub is_told : DeltaLists → User → Bool
is_told d u = (list_any (is_of u) d.new_out || list_any (is_of u) d.new_in)
    || (list_any (is_of u) d.mention_out || list_any (is_of u) d.mention_in) || list_any (λ x. same_user u x.user) d.uses

abbrev pub are_told : List DeltaLists → User → Bool
are_told ds u = list_any (λ d. is_told d u) ds

-- whether a tag has a new user
abbrev pub tells_tag : List DeltaLists → List ℕ → Bool
tells_tag ds t = list_any (λ d. list_any (λ x. same_tag t x.tag) d.tag_users) ds

-- how many of these lists' pairs are of u
abbrev pub pairs_of : (DeltaLists → List Pair) → List DeltaLists → User → ℕ
pairs_of lists ds u = sum_by (λ d. count_by (is_of u) (lists d)) ds

-- by how much the number of items that mention u grew
abbrev pub said_more : List DeltaLists → User → ℕ
said_more ds u = sum_by (λ d. sum_by (λ x. if same_user u x.user then x.number else 0) d.said) ds

-- how many new users a tag has
abbrev pub tag_more : List DeltaLists → List ℕ → ℕ
tag_more ds t = sum_by (λ d. count_by (λ x. same_tag t x.tag) d.tag_users) ds

-- an edge was ever added where it was before, or is added now
abbrev pub EdgesLaw : Type 0
EdgesLaw = (was is : PartView) (ds : List DeltaLists) → AreLed was is ds → (u w : User)
    → (is_some (half_to (is.out u) w) ≡ (is_some (half_to (was.out u) w) || adds_follow ds u w))
    × (has_user (is.mentions u) w ≡ (has_user (was.mentions u) w || adds_mention ds u w))

-- the vertices are those before and those who stand in something new; likewise the tags in use
abbrev pub VerticesLaw : Type 0
VerticesLaw = (was is : PartView) (ds : List DeltaLists) → AreLed was is ds
    → ((u : User) → is_vertex is u ≡ (is_vertex was u || are_told ds u))
    × ((t : List ℕ) → is_in_use is t ≡ (is_in_use was t || tells_tag ds t))

-- the numbers of followers, of followed, of mentions and of users of tags, from those before
pub record AreCounted (was is : PartView) (ds : List DeltaLists) : Type 0 where
  pub ins : (u : User) → count_by (λ h. h.present) (is.inn u) + pairs_of (λ d. d.gone_in) ds u
      ≡ count_by (λ h. h.present) (was.inn u) + pairs_of (λ d. d.now_in) ds u
  pub outs : (u : User) → count_by (λ h. h.present) (is.out u) + pairs_of (λ d. d.gone_out) ds u
      ≡ count_by (λ h. h.present) (was.out u) + pairs_of (λ d. d.now_out) ds u
  pub said : (u : User) → is.said u ≡ was.said u + said_more ds u
  pub tags : (t : List ℕ) → length (is.tag_users t) ≡ length (was.tag_users t) + tag_more ds t

abbrev pub CountsLaw : Type 0
CountsLaw = (was is : PartView) (ds : List DeltaLists) → AreLed was is ds → AreCounted was is ds
