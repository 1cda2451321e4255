-- What operations touch of a partition's part, and what that leaves as it was.
use Rattle.std.specs.Prelude.{◌≡◌, ℕ, ◌&&◌, Bool, true, false, List, [], None}
use Rattle.std.specs.List.{list_any}
use Rattle.kin_ids.specs.declared.ids.User.{User}
use Rattle.kin_ids.specs.declared.ops.Op.{Op}
use Rattle.kin_ids.specs.declared.ops.Op.TheVariants as op
use Rattle.kin_ids.specs.declared.ops.Numbered.{Numbered}
use Rattle.kin_ids.specs.Users.{same_user, same_tag, has_user}
use Rattle.kin_ids.specs.Parts.{PartView}
use Rattle.kin_store.specs.declared.pairs.Pair.{Pair}
use Rattle.kin_store.specs.declared.pairs.TagUser.{TagUser}
pub use Rattle.kin_store.specs.Pairs.{pair, tag_user}
use Rattle.kin_store.specs.Rows.{UserRow}
use Rattle.kin_graph.specs.Deltas.{same_pair, pair_in, half_to, use_of}

-- Of what operations were: the follow halves on both sides, the mentions on both sides, the numbers of `said`, the uses of tags by
-- users, and the users of tags.
pub record TouchedLists : Type 0 where
  pub out : List Pair
  pub inn : List Pair
  pub mentions : List Pair
  pub mentioners : List Pair
  pub said : List User
  pub uses : List TagUser
  pub tag_users : List TagUser

-- nothing was touched
abbrev pub untouched : TouchedLists
untouched = record { out = []; inn = []; mentions = []; mentioners = []; said = []; uses = []; tag_users = [] }

-- whether a pair is among these
abbrev pub has_pair : List Pair → Pair → Bool
has_pair ps p = list_any (same_pair p) ps

abbrev pub same_tag_user : TagUser → TagUser → Bool
same_tag_user p q = same_tag p.tag q.tag && same_user p.user q.user

-- whether a tag's user is among these
abbrev pub has_tag_user : List TagUser → TagUser → Bool
has_tag_user ps p = list_any (same_tag_user p) ps

-- whether an operation is of the half out of a user to another one
abbrev pub touches_out : Op → Pair → Bool
touches_out (op.AddOut u w) p = same_pair (pair u w) p
touches_out (op.DropOut u w) p = same_pair (pair u w) p
touches_out _ p = false

-- or of the half into a user from another one
abbrev pub touches_in : Op → Pair → Bool
touches_in (op.AddIn w u) p = same_pair (pair w u) p
touches_in (op.DropIn w u) p = same_pair (pair w u) p
touches_in _ p = false

-- or of the mention of another user
abbrev pub touches_mention : Op → Pair → Bool
touches_mention (op.MentionOut u w) p = same_pair (pair u w) p
touches_mention _ p = false

-- or of the mention by another user
abbrev pub touches_mentioner : Op → Pair → Bool
touches_mentioner (op.MentionIn w u) p = same_pair (pair w u) p
touches_mentioner _ p = false

-- or of how often a user was mentioned
abbrev pub touches_said : Op → User → Bool
touches_said (op.Said w) u = same_user w u
touches_said _ u = false

-- or of the use of a tag by a user, as the user has it
abbrev pub touches_use : Op → TagUser → Bool
touches_use (op.Use u t) p = same_tag_user (tag_user t u) p
touches_use _ p = false

-- or as the tag has it
abbrev pub touches_tag : Op → TagUser → Bool
touches_tag (op.TagUse t u) p = same_tag_user (tag_user t u) p
touches_tag _ p = false

-- Both parts hand out the same of everything that isn't touched.
pub record IsTouched (x : TouchedLists) (was is : PartView) : Type 0 where
  pub out : (p : Pair) → has_pair x.out p ≡ false → pair_in is.out p ≡ pair_in was.out p
  pub inn : (p : Pair) → has_pair x.inn p ≡ false → pair_in is.inn p ≡ pair_in was.inn p
  pub mentions : (p : Pair) → has_pair x.mentions p ≡ false → has_user (is.mentions p.user) p.other ≡ has_user (was.mentions p.user) p.other
  pub mentioners : (p : Pair) → has_pair x.mentioners p ≡ false
      → has_user (is.mentioners p.user) p.other ≡ has_user (was.mentioners p.user) p.other
  pub said : (u : User) → has_user x.said u ≡ false → is.said u ≡ was.said u
  pub uses : (p : TagUser) → has_tag_user x.uses p ≡ false → use_of (is.uses p.user) p.tag ≡ use_of (was.uses p.user) p.tag
  pub tag_users : (p : TagUser) → has_tag_user x.tag_users p ≡ false
      → has_user (is.tag_users p.tag) p.user ≡ has_user (was.tag_users p.tag) p.user

-- Both parts hand out the same of everything of which no operation is.
pub record LeavesOthers (ops : List Numbered) (was is : PartView) : Type 0 where
  pub out : (p : Pair) → list_any (λ x. touches_out x.op p) ops ≡ false → pair_in is.out p ≡ pair_in was.out p
  pub inn : (p : Pair) → list_any (λ x. touches_in x.op p) ops ≡ false → pair_in is.inn p ≡ pair_in was.inn p
  pub mentions : (p : Pair) → list_any (λ x. touches_mention x.op p) ops ≡ false
      → has_user (is.mentions p.user) p.other ≡ has_user (was.mentions p.user) p.other
  pub mentioners : (p : Pair) → list_any (λ x. touches_mentioner x.op p) ops ≡ false
      → has_user (is.mentioners p.user) p.other ≡ has_user (was.mentioners p.user) p.other
  pub said : (u : User) → list_any (λ x. touches_said x.op u) ops ≡ false → is.said u ≡ was.said u
  pub uses : (p : TagUser) → list_any (λ x. touches_use x.op p) ops ≡ false → use_of (is.uses p.user) p.tag ≡ use_of (was.uses p.user) p.tag
  pub tag_users : (p : TagUser) → list_any (λ x. touches_tag x.op p) ops ≡ false
      → has_user (is.tag_users p.tag) p.user ≡ has_user (was.tag_users p.tag) p.user

-- what was noted still is
pub record KeepsNotes (old new : TouchedLists) : Type 0 where
  pub out : (p : Pair) → has_pair new.out p ≡ false → has_pair old.out p ≡ false
  pub inn : (p : Pair) → has_pair new.inn p ≡ false → has_pair old.inn p ≡ false
  pub mentions : (p : Pair) → has_pair new.mentions p ≡ false → has_pair old.mentions p ≡ false
  pub mentioners : (p : Pair) → has_pair new.mentioners p ≡ false → has_pair old.mentioners p ≡ false
  pub said : (u : User) → has_user new.said u ≡ false → has_user old.said u ≡ false
  pub uses : (p : TagUser) → has_tag_user new.uses p ≡ false → has_tag_user old.uses p ≡ false
  pub tag_users : (p : TagUser) → has_tag_user new.tag_users p ≡ false → has_tag_user old.tag_users p ≡ false

-- everything is noted of which one of the operations is
pub record HasNoted (ops : List Numbered) (new : TouchedLists) : Type 0 where
  pub out : (p : Pair) → has_pair new.out p ≡ false → list_any (λ x. touches_out x.op p) ops ≡ false
  pub inn : (p : Pair) → has_pair new.inn p ≡ false → list_any (λ x. touches_in x.op p) ops ≡ false
  pub mentions : (p : Pair) → has_pair new.mentions p ≡ false → list_any (λ x. touches_mention x.op p) ops ≡ false
  pub mentioners : (p : Pair) → has_pair new.mentioners p ≡ false → list_any (λ x. touches_mentioner x.op p) ops ≡ false
  pub said : (u : User) → has_user new.said u ≡ false → list_any (λ x. touches_said x.op u) ops ≡ false
  pub uses : (p : TagUser) → has_tag_user new.uses p ≡ false → list_any (λ x. touches_use x.op p) ops ≡ false
  pub tag_users : (p : TagUser) → has_tag_user new.tag_users p ≡ false → list_any (λ x. touches_tag x.op p) ops ≡ false

-- everything is noted of which this operation is
pub record NotesOp (o : Op) (new : TouchedLists) : Type 0 where
  pub out : (p : Pair) → has_pair new.out p ≡ false → touches_out o p ≡ false
  pub inn : (p : Pair) → has_pair new.inn p ≡ false → touches_in o p ≡ false
  pub mentions : (p : Pair) → has_pair new.mentions p ≡ false → touches_mention o p ≡ false
  pub mentioners : (p : Pair) → has_pair new.mentioners p ≡ false → touches_mentioner o p ≡ false
  pub said : (u : User) → has_user new.said u ≡ false → touches_said o u ≡ false
  pub uses : (p : TagUser) → has_tag_user new.uses p ≡ false → touches_use o p ≡ false
  pub tag_users : (p : TagUser) → has_tag_user new.tag_users p ≡ false → touches_tag o p ≡ false

-- everything is noted that this row of a user has
pub record NotesRow (u : User) (r : UserRow) (new : TouchedLists) : Type 0 where
  pub out : (w : User) → has_pair new.out (pair u w) ≡ false → half_to r.out w ≡ None
  pub inn : (w : User) → has_pair new.inn (pair u w) ≡ false → half_to r.inn w ≡ None
  pub mentions : (w : User) → has_pair new.mentions (pair u w) ≡ false → has_user r.mentions w ≡ false
  pub mentioners : (w : User) → has_pair new.mentioners (pair u w) ≡ false → has_user r.mentioners w ≡ false
  pub said : has_user new.said u ≡ true
  pub uses : (t : List ℕ) → has_tag_user new.uses (tag_user t u) ≡ false → use_of r.uses t ≡ None

-- these users of a tag are among the noted ones
abbrev pub NotesUsers : List ℕ → List User → List TagUser → Type 0
NotesUsers t users notes = (u : User) → has_tag_user notes (tag_user t u) ≡ false → has_user users u ≡ false

-- everything is noted that a part has
pub record NotesAll (v : PartView) (new : TouchedLists) : Type 0 where
  pub out : (p : Pair) → has_pair new.out p ≡ false → pair_in v.out p ≡ None
  pub inn : (p : Pair) → has_pair new.inn p ≡ false → pair_in v.inn p ≡ None
  pub mentions : (p : Pair) → has_pair new.mentions p ≡ false → has_user (v.mentions p.user) p.other ≡ false
  pub mentioners : (p : Pair) → has_pair new.mentioners p ≡ false → has_user (v.mentioners p.user) p.other ≡ false
  pub said : (u : User) → has_user new.said u ≡ false → v.said u ≡ 0
  pub uses : (p : TagUser) → has_tag_user new.uses p ≡ false → use_of (v.uses p.user) p.tag ≡ None
  pub tag_users : (p : TagUser) → has_tag_user new.tag_users p ≡ false → has_user (v.tag_users p.tag) p.user ≡ false
