-- The hub of the tests, which takes both pieces of one follow.
use Rattle.std.proofs.Common.{◌≡◌, ℕ, zero, suc, ◌<◌, ◌≤◌, List, [], ◌∷◌, refl, sym, subst, arith, All}
use Rattle.std.proofs.lemmas.List.Elements.{All-cons, All-nil}
use Rattle.kin_ids.specs.declared.ids.PartId.{PartId}
use Rattle.kin_ids.specs.declared.ops.Op.{Op}
use Rattle.kin_ids.specs.declared.ops.Piece.{Piece}
use Rattle.kin_ids.specs.declared.ops.Record.{Record}
use Rattle.kin_ids.specs.declared.ops.Record.TheVariants as record_kind
use Rattle.kin_ids.specs.Operations.{part_ops}
use Rattle.kin_ids.specs.Sizes.{IsSmall}
use Rattle.kin_hub.specs.Hubs.{HubView}
use Rattle.kin_hub.specs.Stands.{Story, HubStands}
use Rattle.kin_hub.specs.Goes.{IsKnown, Knows, HubPlaces}
use Rattle.kin_hub.specs.Opens.{first_story}
use Rattle.kin_hub.specs.Commits.{HasSmallFeeds}

-- node 0 has the follow, and node 1 nothing
abbrev pub follow : List Record
follow = record_kind.Follow (record { 0 = 1 }) (record { 0 = 2 }) ∷ []

abbrev pub feeds : List (List Record)
feeds = follow ∷ [] ∷ []

-- nothing is agreed yet
abbrev pub story : Story
story = first_story feeds 2

abbrev pub Stands : HubView → Type 0
Stands h = HubStands story h

abbrev pub half : PartId → Op → Piece
half p o = record {
  stamp = record { ingest = record { 0 = 0 }; inc = record { 0 = 0 }; from = 0; to = 1 };
  base = 0;
  part = p;
  ops = record { number = 1; op = o } ∷ [];
}

module _ (h : HubView) (p : PartId) (o : Op) (x : Piece) (is : x ≡ half p o) (exact : (half p o).ops ≡ part_ops 2 p.0 0 follow) where
  known : IsKnown story h x
  known = subst (IsKnown story h) (sym is) (record {
    fits = record {
      formed = record { after_base = omega arith; some = omega arith; few = omega arith };
      inside = omega arith;
      exact = exact;
    };
    inc = omega arith;
    base = refl;
  })

  pub knows : Stands h → Knows h x
  knows s = (story, s, known)

  pub places : (new : HubView) → HubPlaces h x new → Stands h → Stands new
  places new goes s = goes story known s

small : All (λ (feed : List Record). All IsSmall feed) feeds
small = All-cons (λ (feed : List Record). All IsSmall feed) follow ([] ∷ [])
    (All-cons IsSmall (record_kind.Follow (record { 0 = 1 }) (record { 0 = 2 })) [] tt (All-nil IsSmall))
    (All-cons (λ (feed : List Record). All IsSmall feed) [] [] (All-nil IsSmall) (All-nil (λ (feed : List Record). All IsSmall feed)))

pub small-feeds : (h : HubView) → Stands h → HasSmallFeeds h
small-feeds h s = (story, s, record { records = omega arith; small = small })

pub below-two : (at : ℕ → ℕ) (k : ℕ) → k ≤ at 0 → k ≤ at 1 → (p : ℕ) → p < 2 → k ≤ at p
below-two at k first second zero lt = first
below-two at k first second (suc zero) lt = second
below-two at k first second (suc (suc p)) lt = omega arith
