-- Counts by themselves, as they are looked up.
use Rattle.std.specs.Prelude.{◌≡◌, ℕ, List, [], ◌∷◌, length, count_by, sum, nat_eq, unwrap_or}
use Rattle.std.specs.Map.{lookup}
use Rattle.std.specs.Cmp.Lexicographic.{pointwise}
use Rattle.std.specs.List.{sum_by}
use Rattle.kin_ids.specs.declared.ids.User.{User}
use Rattle.kin_ids.specs.Parts.{PartView}
use Rattle.kin_store.specs.declared.pairs.Pair.{Pair}
use Rattle.kin_graph.specs.Deltas.{DeltaLists}
use Rattle.kin_changes.specs.Views.{AreLed}
use Rattle.kin_counts.specs.Counts.{FitsNumbers}
use Rattle.kin_counts.specs.declared.sides.Side.{Side}
use Rattle.kin_counts.specs.declared.sides.Side.TheVariants as side

-- For users, by their numbers, how many follow them, how many they follow, and how many items mention them; for tags how many users they
-- have; and how many more users and tags there is room for.
pub record TallyView : Type 0 where
  pub ins : List (ℕ × ℕ)
  pub outs : List (ℕ × ℕ)
  pub said : List (ℕ × ℕ)
  pub tag_users : List (List ℕ × ℕ)
  pub spare : ℕ

-- the number that is kept of a user, and of a tag: 0 where none is
abbrev pub kept : List (ℕ × ℕ) → User → ℕ
kept entries u = unwrap_or (lookup (nat_eq u.0) entries) 0

abbrev pub kept_tag : List (List ℕ × ℕ) → List ℕ → ℕ
kept_tag entries t = unwrap_or (lookup (pointwise nat_eq t) entries) 0

-- they are those of a view
pub record AreTalliesOf (v : PartView) (c : TallyView) : Type 0 where
  pub ins : (u : User) → kept c.ins u ≡ count_by (λ h. h.present) (v.inn u)
  pub outs : (u : User) → kept c.outs u ≡ count_by (λ h. h.present) (v.out u)
  pub said : (u : User) → kept c.said u ≡ v.said u
  pub tag_users : (t : List ℕ) → kept_tag c.tag_users t ≡ length (v.tag_users t)

-- no count is another one; of the room nothing is said
pub record HasSameTallies (old new : TallyView) : Type 0 where
  pub ins : (u : User) → kept new.ins u ≡ kept old.ins u
  pub outs : (u : User) → kept new.outs u ≡ kept old.outs u
  pub said : (u : User) → kept new.said u ≡ kept old.said u
  pub tag_users : (t : List ℕ) → kept_tag new.tag_users t ≡ kept_tag old.tag_users t

-- what is counted after deltas that lead to a later view
abbrev pub TalliesOn : List DeltaLists → TallyView → TallyView → Type 0
TalliesOn ds old new = (was is : PartView) → AreLed was is ds → FitsNumbers is → AreTalliesOf was old → AreTalliesOf is new

-- the halves on a side that went, and those that came
abbrev pub gone_on : Side → DeltaLists → List Pair
gone_on side.In d = d.gone_in
gone_on side.Out d = d.gone_out

abbrev pub now_on : Side → DeltaLists → List Pair
now_on side.In d = d.now_in
now_on side.Out d = d.now_out

-- how many items all lists of a delta have, and those of deltas
abbrev pub delta_items : DeltaLists → ℕ
delta_items d = sum (length d.new_out ∷ length d.new_in ∷ length d.now_out ∷ length d.now_in ∷ length d.gone_out ∷ length d.gone_in
    ∷ length d.mention_out ∷ length d.mention_in ∷ length d.said ∷ length d.uses ∷ length d.tag_users ∷ [])

abbrev pub items_in : List DeltaLists → ℕ
items_in ds = sum_by delta_items ds

-- how many items one of the lists has in all deltas
abbrev pub listed : {X : Type 0} → (DeltaLists → List X) → List DeltaLists → ℕ
listed lists ds = sum_by (λ d. length (lists d)) ds
