-- What is made of the items of a list, one after the other.
use Rattle.std.specs.Prelude.{ℕ, ◌≡◌, nat_lt, ◌-◌, ◌&&◌, not, Bool, List, [], ◌∷◌, ◌++◌, Option}
use Rattle.std.specs.List.Sorted.{IsStrictlySortedBy}
use Rattle.kin_ids.specs.declared.ids.User.{User}
use Rattle.kin_ids.specs.declared.ops.Half.{Half}
use Rattle.kin_ids.specs.Users.{user_cmp, has_user}
use Rattle.kin_ids.specs.Parts.{PartView}
use Rattle.kin_store.specs.Pairs.{pair_cmp, tag_user_cmp}
use Rattle.kin_store.specs.declared.pairs.Pair.{Pair}
use Rattle.kin_store.specs.declared.pairs.TagUser.{TagUser}
use Rattle.kin_graph.specs.declared.deltas.SaidRow.{SaidRow}
use Rattle.kin_graph.specs.declared.deltas.UseRow.{UseRow}
use Rattle.kin_graph.specs.declared.deltas.HalfChanges.{HalfChanges}
use Rattle.kin_graph.specs.declared.differences.Side.{Side}
use Rattle.kin_graph.specs.declared.differences.Side.TheVariants as side
use Rattle.kin_graph.specs.Deltas.{DeltaLists, use_of, is_new, is_now, is_gone, one_if, new_use, pair_in, is_met}
use Rattle.kin_graph.specs.Touches.{TouchedLists}

abbrev pub gathered : {K Y : Type 0} → (K → List Y) → List K → List Y
gathered f [] = []
gathered f (k ∷ ks) = f k ++ gathered f ks

-- of halves that were and are so, the pairs of those that were added, that are there now, and that went
abbrev pub half_changes : (Pair → Option Half) → (Pair → Option Half) → List Pair → HalfChanges
half_changes was is ps = record {
  added = gathered (λ p. one_if (is_new (was p) (is p)) p) ps;
  present = gathered (λ p. one_if (is_now (was p) (is p)) p) ps;
  gone = gathered (λ p. one_if (is_gone (was p) (is p)) p) ps;
}

-- one more half that was and is so
abbrev pub also_told : Pair → Option Half → Option Half → HalfChanges → HalfChanges
also_told p was is c = record {
  added = c.added ++ one_if (is_new was is) p;
  present = c.present ++ one_if (is_now was is) p;
  gone = c.gone ++ one_if (is_gone was is) p;
}

-- by how much a user's number grew, where it did
abbrev pub said_rows : ℕ → ℕ → User → List SaidRow
said_rows was is u = one_if (nat_lt was is) (record { user = u; number = is - was })

-- the halves of each user on a side, and the users who are mentioned there
abbrev pub halves_on : Side → PartView → User → List Half
halves_on side.Out v = v.out
halves_on side.In v = v.inn

abbrev pub users_on : Side → PartView → User → List User
users_on side.Out v = v.mentions
users_on side.In v = v.mentioners

-- what changed of the halves with these ends on a side
abbrev pub changes_on : Side → PartView → PartView → List Pair → HalfChanges
changes_on s was is ps = half_changes (pair_in (halves_on s was)) (pair_in (halves_on s is)) ps

-- of these pairs, those that are of a mention on a side and weren't
abbrev pub mentions_on : Side → PartView → PartView → List Pair → List Pair
mentions_on s was is ps = gathered (λ p. one_if (is_met (users_on s was) (users_on s is) p) p) ps

-- by how much the numbers of these users grew, where they did
abbrev pub said_more : PartView → PartView → List User → List SaidRow
said_more was is us = gathered (λ u. said_rows (was.said u) (is.said u) u) us

-- of these tags with users, the uses that are and weren't, as the users have them
abbrev pub new_uses : PartView → PartView → List TagUser → List UseRow
new_uses was is ps = gathered (λ p. new_use p.user (use_of (was.uses p.user) p.tag) (use_of (is.uses p.user) p.tag)) ps

-- and as the tags have them
abbrev pub is_new_user : PartView → PartView → TagUser → Bool
is_new_user was is p = has_user (is.tag_users p.tag) p.user && not (has_user (was.tag_users p.tag) p.user)

abbrev pub new_tag_users : PartView → PartView → List TagUser → List TagUser
new_tag_users was is ps = gathered (λ p. one_if (is_new_user was is p) p) ps

-- the lists of a delta as the loops over what was touched fill them
pub record IsFilled (x : TouchedLists) (was is : PartView) (d : DeltaLists) : Type 0 where
  pub new_out : d.new_out ≡ (changes_on side.Out was is x.out).added
  pub new_in : d.new_in ≡ (changes_on side.In was is x.inn).added
  pub now_out : d.now_out ≡ (changes_on side.Out was is x.out).present
  pub now_in : d.now_in ≡ (changes_on side.In was is x.inn).present
  pub gone_out : d.gone_out ≡ (changes_on side.Out was is x.out).gone
  pub gone_in : d.gone_in ≡ (changes_on side.In was is x.inn).gone
  pub mention_out : d.mention_out ≡ mentions_on side.Out was is x.mentions
  pub mention_in : d.mention_in ≡ mentions_on side.In was is x.mentioners
  pub said : d.said ≡ said_more was is x.said
  pub uses : d.uses ≡ new_uses was is x.uses
  pub tag_users : d.tag_users ≡ new_tag_users was is x.tag_users

-- notes that ascend
pub record IsNoted (x : TouchedLists) : Type 0 where
  pub out : IsStrictlySortedBy pair_cmp x.out
  pub inn : IsStrictlySortedBy pair_cmp x.inn
  pub mentions : IsStrictlySortedBy pair_cmp x.mentions
  pub mentioners : IsStrictlySortedBy pair_cmp x.mentioners
  pub said : IsStrictlySortedBy user_cmp x.said
  pub uses : IsStrictlySortedBy tag_user_cmp x.uses
  pub tag_users : IsStrictlySortedBy tag_user_cmp x.tag_users
