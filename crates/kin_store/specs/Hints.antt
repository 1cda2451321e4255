-- Hints of where a key stands in a list, and indexes that give them.
use Rattle.std.specs.Prelude.{ℕ, [], ◌≡◌, ◌≤◌, cond, List, Option, Some, None, length}
use Rattle.std.specs.declared.cmp.Ordering.{Ordering}
use Rattle.kin_ids.specs.declared.stamps.Place.{Place}
use Rattle.kin_ids.specs.declared.ops.Op.{Op}
use Rattle.kin_ids.specs.declared.ops.Op.TheVariants as op
use Rattle.kin_store.specs.Lists.{few, place_of, half_place, user_place, use_place}
use Rattle.kin_store.specs.Rows.{UserRow}
use Rattle.kin_store.specs.Changes.{Kept, done}
use Rattle.kin_store.specs.declared.pairs.Pair.{Pair}
use Rattle.kin_store.specs.declared.pairs.TagUser.{TagUser}
use Rattle.kin_store.specs.Pairs.{pair, tag_user, same_pair, same_tag_user, noted, tag_noted}

-- a hint of a key's place in a list: right wherever the key stands past the first few items
abbrev pub IsHint : {K T : Type 0} → (K → K → Ordering) → (T → K) → K → List T → Option ℕ → Type 0
IsHint cmp key k items hint = (i : ℕ) → few ≤ i → place_of cmp key k items ≡ Some i → hint ≡ Some i

-- where the item stands in its user's row that an operation is about
abbrev pub row_place : UserRow → Op → Option ℕ
row_place r (op.AddOut u w) = half_place r.out w
row_place r (op.AddIn w u) = half_place r.inn u
row_place r (op.DropOut u w) = half_place r.out w
row_place r (op.DropIn w u) = half_place r.inn u
row_place r (op.MentionOut u w) = user_place r.mentions w
row_place r (op.MentionIn w u) = user_place r.mentioners u
row_place r (op.Use u t) = use_place r.uses t
row_place r _ = None

abbrev pub row_count : UserRow → Op → ℕ
row_count r (op.AddOut u w) = length r.out
row_count r (op.AddIn w u) = length r.inn
row_count r (op.DropOut u w) = length r.out
row_count r (op.DropIn w u) = length r.inn
row_count r (op.MentionOut u w) = length r.mentions
row_count r (op.MentionIn w u) = length r.mentioners
row_count r (op.Use u t) = length r.uses
row_count r _ = 0

-- the same in a store
abbrev pub op_place : Kept → Op → Option ℕ
op_place k (op.AddOut u w) = half_place (k.row u).out w
op_place k (op.AddIn w u) = half_place (k.row w).inn u
op_place k (op.DropOut u w) = half_place (k.row u).out w
op_place k (op.DropIn w u) = half_place (k.row w).inn u
op_place k (op.MentionOut u w) = user_place (k.row u).mentions w
op_place k (op.MentionIn w u) = user_place (k.row w).mentioners u
op_place k (op.Said w) = None
op_place k (op.Use u t) = use_place (k.row u).uses t
op_place k (op.TagUse t u) = user_place (k.users t) u

abbrev pub op_count : Kept → Op → ℕ
op_count k (op.AddOut u w) = length (k.row u).out
op_count k (op.AddIn w u) = length (k.row w).inn
op_count k (op.DropOut u w) = length (k.row u).out
op_count k (op.DropIn w u) = length (k.row w).inn
op_count k (op.MentionOut u w) = length (k.row u).mentions
op_count k (op.MentionIn w u) = length (k.row w).mentioners
op_count k (op.Said w) = 0
op_count k (op.Use u t) = length (k.row u).uses
op_count k (op.TagUse t u) = length (k.users t)

-- a hint for an operation on a row, and in a store
abbrev pub IsRowHint : UserRow → Op → Option ℕ → Type 0
IsRowHint r o hint = (i : ℕ) → few ≤ i → row_place r o ≡ Some i → hint ≡ Some i

abbrev pub IsOpHint : Kept → Op → Option ℕ → Type 0
IsOpHint k o hint = (i : ℕ) → few ≤ i → op_place k o ≡ Some i → hint ≡ Some i

-- The indexes of a partition's lists.
pub record IndexView : Type 0 where
  pub out : List (Pair × ℕ)
  pub inn : List (Pair × ℕ)
  pub mentions : List (Pair × ℕ)
  pub mentioners : List (Pair × ℕ)
  pub uses : List (TagUser × ℕ)
  pub users : List (TagUser × ℕ)

-- indexes that know nothing
abbrev pub empty_index : IndexView
empty_index = record { out = []; inn = []; mentions = []; mentioners = []; uses = []; users = [] }

-- what the indexes say of an operation's item
abbrev pub index_hint : IndexView → Op → Option ℕ
index_hint x (op.AddOut u w) = noted x.out (pair u w)
index_hint x (op.AddIn w u) = noted x.inn (pair w u)
index_hint x (op.DropOut u w) = noted x.out (pair u w)
index_hint x (op.DropIn w u) = noted x.inn (pair w u)
index_hint x (op.MentionOut u w) = noted x.mentions (pair u w)
index_hint x (op.MentionIn w u) = noted x.mentioners (pair w u)
index_hint x (op.Said w) = None
index_hint x (op.Use u t) = tag_noted x.uses (tag_user t u)
index_hint x (op.TagUse t u) = tag_noted x.users (tag_user t u)

-- an index that knows, past the first few places, what another one knew, and the place of one more pair
abbrev pub Covers : List (Pair × ℕ) → Pair → ℕ → List (Pair × ℕ) → Type 0
Covers ss p n ts = (q : Pair) (i : ℕ) → few ≤ i → cond (same_pair p q) (Some n) (noted ss q) ≡ Some i → noted ts q ≡ Some i

abbrev pub CoversTag : List (TagUser × ℕ) → TagUser → ℕ → List (TagUser × ℕ) → Type 0
CoversTag ss p n ts = (q : TagUser) (i : ℕ) → few ≤ i → cond (same_tag_user p q) (Some n) (tag_noted ss q) ≡ Some i
    → tag_noted ts q ≡ Some i

-- the place of an operation's item, which isn't there yet, is known
abbrev pub NotesOp : IndexView → Op → ℕ → IndexView → Type 0
NotesOp x (op.AddOut u w) n y = Covers x.out (pair u w) n y.out × (y ≡ record x { out = y.out })
NotesOp x (op.AddIn w u) n y = Covers x.inn (pair w u) n y.inn × (y ≡ record x { inn = y.inn })
NotesOp x (op.MentionOut u w) n y = Covers x.mentions (pair u w) n y.mentions × (y ≡ record x { mentions = y.mentions })
NotesOp x (op.MentionIn w u) n y = Covers x.mentioners (pair w u) n y.mentioners × (y ≡ record x { mentioners = y.mentioners })
NotesOp x (op.Use u t) n y = CoversTag x.uses (tag_user t u) n y.uses × (y ≡ record x { uses = y.uses })
NotesOp x (op.TagUse t u) n y = CoversTag x.users (tag_user t u) n y.users × (y ≡ record x { users = y.users })
NotesOp x _ n y = y ≡ x

-- the indexes know each list's places past the first few
pub record IsIndexed (k : Kept) (x : IndexView) : Type 0 where
  pub out : (p : Pair) (i : ℕ) → few ≤ i → half_place (k.row p.user).out p.other ≡ Some i → noted x.out p ≡ Some i
  pub inn : (p : Pair) (i : ℕ) → few ≤ i → half_place (k.row p.user).inn p.other ≡ Some i → noted x.inn p ≡ Some i
  pub mentions : (p : Pair) (i : ℕ) → few ≤ i → user_place (k.row p.user).mentions p.other ≡ Some i → noted x.mentions p ≡ Some i
  pub mentioners : (p : Pair) (i : ℕ) → few ≤ i → user_place (k.row p.user).mentioners p.other ≡ Some i → noted x.mentioners p ≡ Some i
  pub uses : (p : TagUser) (i : ℕ) → few ≤ i → use_place (k.row p.user).uses p.tag ≡ Some i → tag_noted x.uses p ≡ Some i
  pub users : (p : TagUser) (i : ℕ) → few ≤ i → user_place (k.users p.tag) p.user ≡ Some i → tag_noted x.users p ≡ Some i

-- an index that knows the places before an operation and after it
pub record IsReady (k : Kept) (o : Op) (x : IndexView) : Type 0 where
  pub after : (at : Place) → IsIndexed (done at k o) x
  pub before : IsIndexed k x

-- every key that stands in a list of k stands at the same place in that list of l
pub record Precedes (k l : Kept) : Type 0 where
  pub out : (p : Pair) (i : ℕ) → half_place (k.row p.user).out p.other ≡ Some i → half_place (l.row p.user).out p.other ≡ Some i
  pub inn : (p : Pair) (i : ℕ) → half_place (k.row p.user).inn p.other ≡ Some i → half_place (l.row p.user).inn p.other ≡ Some i
  pub mentions : (p : Pair) (i : ℕ) → user_place (k.row p.user).mentions p.other ≡ Some i → user_place (l.row p.user).mentions p.other
      ≡ Some i
  pub mentioners : (p : Pair) (i : ℕ) → user_place (k.row p.user).mentioners p.other ≡ Some i → user_place (l.row p.user).mentioners p.other
      ≡ Some i
  pub uses : (p : TagUser) (i : ℕ) → use_place (k.row p.user).uses p.tag ≡ Some i → use_place (l.row p.user).uses p.tag ≡ Some i
  pub users : (p : TagUser) (i : ℕ) → user_place (k.users p.tag) p.user ≡ Some i → user_place (l.users p.tag) p.user ≡ Some i
