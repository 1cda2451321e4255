-- Worked values of a delta.
use Rattle.std.proofs.Common.{◌≡◌, ℕ, Bool, true, false, List, [], ◌∷◌, Option, Some, None, refl}
use Rattle.kin_ids.specs.declared.ids.User.{User}
use Rattle.kin_ids.specs.declared.ops.Half.{Half}
use Rattle.kin_ids.specs.declared.ops.Use.{Use}
use Rattle.kin_ids.specs.declared.ops.Op.TheVariants as op
use Rattle.kin_ids.specs.declared.stamps.Place.{Place}
use Rattle.kin_store.specs.declared.pairs.Pair.{Pair}
use Rattle.kin_store.specs.Pairs.{pair, tag_user}
use Rattle.kin_graph.specs.Deltas.{half_to, is_new, is_now, is_gone, new_use}
use Rattle.kin_graph.specs.Gathered.{half_changes, said_rows}
use Rattle.kin_graph.specs.Touches.{touches_out, touches_in, touches_said, touches_use, touches_tag}

-- record 4 of node 0, in epoch 1
abbrev place : Place
place = record { epoch = record { 0 = 1 }; ingest = record { 0 = 0 }; number = 4 }

abbrev user : ℕ → User
user n = record { 0 = n }

-- a half to user n that was first added there, and is present or not
abbrev half : ℕ → Bool → Half
half n b = record { other = user n; present = b; added = place }

-- added for the first time, and there: new and now
pub first-added : (is_new None (Some (half 2 true)) ≡ true)
    × ((is_now None (Some (half 2 true)) ≡ true) × (is_gone None (Some (half 2 true)) ≡ false))
first-added = (refl, (refl, refl))

-- added for the first time and taken away in the same epoch: new alone
pub added-and-dropped : (is_new None (Some (half 2 false)) ≡ true)
    × ((is_now None (Some (half 2 false)) ≡ false) × (is_gone None (Some (half 2 false)) ≡ false))
added-and-dropped = (refl, (refl, refl))

-- taken away and added again in the same epoch: nothing
pub dropped-and-added : (is_new (Some (half 2 true)) (Some (half 2 true)) ≡ false)
    × ((is_now (Some (half 2 true)) (Some (half 2 true)) ≡ false) × (is_gone (Some (half 2 true)) (Some (half 2 true)) ≡ false))
dropped-and-added = (refl, (refl, refl))

-- taken away in an earlier epoch, and back: now, and not new
pub back-again : (is_new (Some (half 2 false)) (Some (half 2 true)) ≡ false)
    × ((is_now (Some (half 2 false)) (Some (half 2 true)) ≡ true) × (is_gone (Some (half 2 false)) (Some (half 2 true)) ≡ false))
back-again = (refl, (refl, refl))

-- User 1 followed 2 and 3; it has taken 2 away, taken 3 away and added it again, and added 4.
abbrev before : Pair → Option Half
before p = half_to (half 2 true ∷ half 3 true ∷ []) p.other

abbrev later : Pair → Option Half
later p = half_to (half 2 false ∷ half 3 true ∷ half 4 true ∷ []) p.other

abbrev touched : List Pair
touched = pair (user 1) (user 2) ∷ pair (user 1) (user 3) ∷ pair (user 1) (user 4) ∷ []

pub follows : half_changes before later touched ≡ record {
  added = pair (user 1) (user 4) ∷ [];
  present = pair (user 1) (user 4) ∷ [];
  gone = pair (user 1) (user 2) ∷ [];
}
follows = refl

-- a store against itself, and where nothing was touched
pub same-follows : half_changes later later touched ≡ record { added = []; present = []; gone = [] }
same-follows = refl

pub none-touched : half_changes before before [] ≡ record { added = []; present = []; gone = [] }
none-touched = refl

-- mentioned three times, and twice more; and mentioned no more
pub said-more : said_rows 3 5 (user 1) ≡ record { user = user 1; number = 2 } ∷ []
said-more = refl

pub said-as-often : said_rows 5 5 (user 1) ≡ []
said-as-often = refl

-- a first use of a tag, and a later one
abbrev use_again : Use
use_again = record { tag = 97 ∷ []; first = place }

pub used-first : new_use (user 1) None (Some use_again) ≡ record { user = user 1; entry = use_again } ∷ []
used-first = refl

pub used-again : new_use (user 1) (Some use_again) (Some use_again) ≡ []
used-again = refl

-- that 1 follows 2 no longer is of the half out of 1, and of none into 1; that 1 is followed by 2 no longer the other way round
pub drops-touch : (touches_out (op.DropOut (user 1) (user 2)) (pair (user 1) (user 2)) ≡ true)
    × ((touches_in (op.DropOut (user 1) (user 2)) (pair (user 1) (user 2)) ≡ false)
    × (touches_in (op.DropIn (user 1) (user 2)) (pair (user 1) (user 2)) ≡ true))
drops-touch = (refl, (refl, refl))

-- a mention of 1 is of its number, and of no other user's
pub mentions-touch : (touches_said (op.Said (user 1)) (user 1) ≡ true) × (touches_said (op.Said (user 1)) (user 2) ≡ false)
mentions-touch = (refl, refl)

-- a use is of the tag's users on the one partition, and of the user's tags on the other
pub uses-touch : (touches_use (op.Use (user 1) (97 ∷ [])) (tag_user (97 ∷ []) (user 1)) ≡ true)
    × ((touches_tag (op.Use (user 1) (97 ∷ [])) (tag_user (97 ∷ []) (user 1)) ≡ false)
    × (touches_tag (op.TagUse (97 ∷ []) (user 1)) (tag_user (97 ∷ []) (user 1)) ≡ true))
uses-touch = (refl, (refl, refl))
