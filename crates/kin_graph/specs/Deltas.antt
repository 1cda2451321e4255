-- What a delta between two versions of a partition's part tells.
use Rattle.std.specs.Prelude.{◌≡◌, ◌≤◌, ℕ, nat_lt, ◌-◌, ◌&&◌, not, Bool, true, false, List, [], ◌∷◌}
use Rattle.std.specs.Prelude.{filter, Option, Some, None, is_some}
use Rattle.std.specs.Arc.{arc_value}
use Rattle.std.specs.declared.sync.Arc.{Arc}
use Rattle.kin_ids.specs.declared.ids.User.{User}
use Rattle.kin_ids.specs.declared.ops.Half.{Half}
use Rattle.kin_ids.specs.declared.ops.Use.{Use}
use Rattle.kin_ids.specs.Users.{same_user, same_tag, has_user}
use Rattle.kin_ids.specs.Parts.{PartView}
use Rattle.kin_store.specs.declared.pairs.Pair.{Pair}
use Rattle.kin_graph.specs.declared.deltas.SaidRow.{SaidRow}
use Rattle.kin_graph.specs.declared.deltas.UseRow.{UseRow}
use Rattle.kin_store.specs.declared.pairs.TagUser.{TagUser}
pub use Rattle.kin_store.specs.Lists.{half_to, use_of}

-- The lists of a delta.
pub record DeltaLists : Type 0 where
  pub new_out : List Pair
  pub new_in : List Pair
  pub now_out : List Pair
  pub now_in : List Pair
  pub gone_out : List Pair
  pub gone_in : List Pair
  pub mention_out : List Pair
  pub mention_in : List Pair
  pub said : List SaidRow
  pub uses : List UseRow
  pub tag_users : List TagUser

-- nothing changed
abbrev pub no_change : DeltaLists
no_change = record {
  new_out = [];
  new_in = [];
  now_out = [];
  now_in = [];
  gone_out = [];
  gone_in = [];
  mention_out = [];
  mention_in = [];
  said = [];
  uses = [];
  tag_users = [];
}

-- the lists behind a pointer, where there is one
abbrev pub lists_of : {Z : Type 0} → Option (Arc DeltaLists Z) → DeltaLists
lists_of None = no_change
lists_of (Some a) = arc_value a

-- whether a half was ever added and is there now
abbrev pub is_present : Option Half → Bool
is_present None = false
is_present (Some h) = h.present

-- a half that was so and is so: was it added for the first time?
abbrev pub is_new : Option Half → Option Half → Bool
is_new was is = is_some is && not (is_some was)

-- is it present, and wasn't it?
abbrev pub is_now : Option Half → Option Half → Bool
is_now was is = is_present is && not (is_present was)

-- was it present, and isn't it?
abbrev pub is_gone : Option Half → Option Half → Bool
is_gone was is = is_present was && not (is_present is)

-- an item, or none
abbrev pub one_if : {X : Type 0} → Bool → X → List X
one_if true x = x ∷ []
one_if false x = []

-- whether two pairs are of the same users
abbrev pub same_pair : Pair → Pair → Bool
same_pair p q = same_user p.user q.user && same_user p.other q.other

-- the list has just the pairs that pass, each once
abbrev pub HasJust : (Pair → Bool) → List Pair → Type 0
HasJust f ps = (p : Pair) → filter (same_pair p) ps ≡ one_if (f p) p

-- the row of a new use; none where there is no use, or there was one
abbrev pub new_use : User → Option Use → Option Use → List UseRow
new_use u None (Some x) = record { user = u; entry = x } ∷ []
new_use u _ _ = []

-- one side's halves of all users
abbrev pub pair_in : (User → List Half) → Pair → Option Half
pair_in halves p = half_to (halves p.user) p.other

-- of the pairs of a user with another one, those that are there and weren't
abbrev pub is_met : (User → List User) → (User → List User) → Pair → Bool
is_met was is p = has_user (is p.user) p.other && not (has_user (was p.user) p.other)

-- Exactly what differs between a part as it was and as it is, each once: the halves that were added for the first time,
-- those that came to be present and those that ceased to be; the new mentions; by how much each number of `said` grew;
-- the new first uses; and the new users of tags.
pub record IsDelta (was is : PartView) (d : DeltaLists) : Type 0 where
  pub new_out : HasJust (λ p. is_new (pair_in was.out p) (pair_in is.out p)) d.new_out
  pub new_in : HasJust (λ p. is_new (pair_in was.inn p) (pair_in is.inn p)) d.new_in
  pub now_out : HasJust (λ p. is_now (pair_in was.out p) (pair_in is.out p)) d.now_out
  pub now_in : HasJust (λ p. is_now (pair_in was.inn p) (pair_in is.inn p)) d.now_in
  pub gone_out : HasJust (λ p. is_gone (pair_in was.out p) (pair_in is.out p)) d.gone_out
  pub gone_in : HasJust (λ p. is_gone (pair_in was.inn p) (pair_in is.inn p)) d.gone_in
  pub mention_out : HasJust (is_met was.mentions is.mentions) d.mention_out
  pub mention_in : HasJust (is_met was.mentioners is.mentioners) d.mention_in
  pub said : (u : User) → filter (λ x. same_user u x.user) d.said
      ≡ one_if (nat_lt (was.said u) (is.said u)) (record { user = u; number = is.said u - was.said u })
  pub uses : (u : User) (t : List ℕ) → filter (λ x. same_user u x.user && same_tag t x.entry.tag) d.uses
      ≡ new_use u (use_of (was.uses u) t) (use_of (is.uses u) t)
  pub tag_users : (t : List ℕ) (u : User) → filter (λ x. same_tag t x.tag && same_user u x.user) d.tag_users
      ≡ one_if (has_user (is.tag_users t) u && not (has_user (was.tag_users t) u)) (record { tag = t; user = u })

-- A later part has all that an earlier one has: no half, mention, use or user of a tag is missing, and no number of `said` is less.
pub record HasAll (was is : PartView) : Type 0 where
  pub out : (p : Pair) → pair_in is.out p ≡ None → pair_in was.out p ≡ None
  pub inn : (p : Pair) → pair_in is.inn p ≡ None → pair_in was.inn p ≡ None
  pub mentions : (p : Pair) → has_user (is.mentions p.user) p.other ≡ false → has_user (was.mentions p.user) p.other ≡ false
  pub mentioners : (p : Pair) → has_user (is.mentioners p.user) p.other ≡ false → has_user (was.mentioners p.user) p.other ≡ false
  pub said : (u : User) → was.said u ≤ is.said u
  pub uses : (p : TagUser) → use_of (is.uses p.user) p.tag ≡ None → use_of (was.uses p.user) p.tag ≡ None
  pub tag_users : (p : TagUser) → has_user (is.tag_users p.tag) p.user ≡ false → has_user (was.tag_users p.tag) p.user ≡ false
