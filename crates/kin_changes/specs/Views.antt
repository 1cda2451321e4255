-- Views of whole graphs, and what leads from one to the next.
use Rattle.std.specs.Prelude.{◌≡◌, ◌≤◌, ◌<◌, ◌==◌, ℕ, true, List, [], Some, is_some, length, map, slice_index_or}
use Rattle.std.specs.List.{list_any}
use Rattle.kin_ids.specs.declared.ids.User.{User}
use Rattle.kin_ids.specs.declared.ops.Use.{Use}
use Rattle.kin_ids.specs.Users.{same_user, same_tag, has_user}
use Rattle.kin_ids.specs.Follows.{IsOnce, IsSound}
use Rattle.kin_ids.specs.Graph.{Graph}
use Rattle.kin_ids.specs.Order.{Entry, folded}
use Rattle.kin_ids.specs.Parting.{user_part, tag_part}
use Rattle.kin_ids.specs.Parts.{PartView, if_here, count_here}
use Rattle.kin_ids.specs.Wholes.{IsViewOf}
use Rattle.kin_store.specs.Rows.{is_none}
use Rattle.kin_store.specs.Lists.{half_key, use_key, half_to, use_of}
use Rattle.kin_graph.specs.Deltas.{DeltaLists, IsDelta, is_present, no_change}
use Rattle.kin_graph.specs.Tells.{Tells}

-- what a view hands out of one of so many partitions
abbrev pub part_in : ℕ → ℕ → PartView → PartView
part_in parts p v = record {
  out = λ u. if_here (user_part parts u == p) (v.out u);
  inn = λ u. if_here (user_part parts u == p) (v.inn u);
  mentions = λ u. if_here (user_part parts u == p) (v.mentions u);
  mentioners = λ u. if_here (user_part parts u == p) (v.mentioners u);
  said = λ u. count_here (user_part parts u == p) (v.said u);
  uses = λ u. if_here (user_part parts u == p) (v.uses u);
  tag_users = λ t. if_here (tag_part parts t == p) (v.tag_users t);
}

-- nothing is handed out
abbrev pub empty_view : PartView
empty_view = record {
  out = λ u. [];
  inn = λ u. [];
  mentions = λ u. [];
  mentioners = λ u. [];
  said = λ u. 0;
  uses = λ u. [];
  tag_users = λ t. [];
}

-- A whole graph is handed out: each half, each mention and each use once, and of each of them both sides; and no item mentions a
-- user without a mentioner.
pub record IsWholeView (v : PartView) : Type 0 where
  pub out_once : (u : User) → IsOnce same_user (map half_key (v.out u))
  pub in_once : (u : User) → IsOnce same_user (map half_key (v.inn u))
  pub mentions_once : (u : User) → IsOnce same_user (v.mentions u)
  pub mentioners_once : (u : User) → IsOnce same_user (v.mentioners u)
  pub uses_once : (u : User) → IsOnce same_tag (map use_key (v.uses u))
  pub tag_users_once : (t : List ℕ) → IsOnce same_user (v.tag_users t)
  pub follows : (u w : User) → is_some (half_to (v.out u) w) ≡ is_some (half_to (v.inn w) u)
  pub present : (u w : User) → is_present (half_to (v.out u) w) ≡ is_present (half_to (v.inn w) u)
  pub mentioned : (u w : User) → has_user (v.mentions u) w ≡ has_user (v.mentioners w) u
  pub tagged : (u : User) (t : List ℕ) → is_some (use_of (v.uses u) t) ≡ has_user (v.tag_users t) u
  pub said : (u : User) → is_none (v.mentioners u) ≡ true → v.said u ≡ 0

-- what was ever there is there still
pub record Grows (was is : PartView) : Type 0 where
  pub out : (u w : User) → is_some (half_to (was.out u) w) ≡ true → is_some (half_to (is.out u) w) ≡ true
  pub mentions : (u w : User) → has_user (was.mentions u) w ≡ true → has_user (is.mentions u) w ≡ true
  pub said : (u : User) → was.said u ≤ is.said u
  pub uses : (u : User) (t : List ℕ) (x : Use) → use_of (was.uses u) t ≡ Some x → use_of (is.uses u) t ≡ Some x

abbrev pub delta_at : List DeltaLists → ℕ → DeltaLists
delta_at ds p = slice_index_or ds p no_change

-- Deltas, one of each partition in order, lead from a whole graph to a later one: each tells exactly what differs on its
-- partition.
pub record AreLed (was is : PartView) (ds : List DeltaLists) : Type 0 where
  pub some : 0 < length ds
  pub before : IsWholeView was
  pub after : IsWholeView is
  pub grows : Grows was is
  pub each : (p : ℕ) → p < length ds → IsDelta (part_in (length ds) p was) (part_in (length ds) p is) (delta_at ds p)

-- one graph is the other after some more records
abbrev pub Continues : Graph → Graph → Type 0
Continues was is = (entries : List Entry) × (is ≡ folded was entries)

-- whom an item mentions is the end of a mention edge
abbrev pub HasMentioners : Graph → Type 0
HasMentioners g = (u : User) → has_user g.mentioned u ≡ true → list_any (λ m. same_user u m.end) g.mentions ≡ true

-- records leave it so, and the empty graph is so
abbrev pub MentionersLaw : Type 0
MentionersLaw = (g : Graph) (entries : List Entry) → HasMentioners g → HasMentioners (folded g entries)

-- what is handed out of a sound graph is whole
abbrev pub WholeLaw : Type 0
WholeLaw = (g : Graph) (v : PartView) → IsSound g → HasMentioners g → IsViewOf g v → IsWholeView v

-- deltas that tell of each partition what differs between a graph and a later one lead from the one to the other
abbrev pub LedLaw : Type 0
LedLaw = (was is : Graph) (v w : PartView) (ds : List DeltaLists) → IsSound was → IsSound is → HasMentioners was → Continues was is
    → IsViewOf was v → IsViewOf is w → 0 < length ds
    → ((p : ℕ) → p < length ds → Tells (length ds) p was is (delta_at ds p)) → AreLed v w ds
