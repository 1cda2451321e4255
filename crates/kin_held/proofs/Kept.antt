-- What holds of each piece goes through taking one.
use Rattle.std.proofs.Common.{◌≡◌, ℕ, leb, ⊎_elim, List, [], ◌∷◌, ◌++◌, refl, sym, subst}
use Rattle.std.specs.Prelude.{All}
use Rattle.std.proofs.lemmas.Bool.{cond_both}
use Rattle.std.proofs.lemmas.List.Elements.{All-append, All-cons, All-head, All-nil, All-tail}
use Rattle.std.proofs.lemmas.List.Sorted.{All-permutation}
use Rattle.kin_ids.specs.declared.ops.Piece.{Piece}
use Rattle.kin_held.specs.Chains.{ChainView, pieces_upto, pieces_past}
use Rattle.kin_held.specs.Takes.{entered, Places, Enters, Takes}
use Rattle.kin_held.specs.declared.answers.Taken.{Taken}
use Rattle.kin_held.specs.declared.answers.Taken.TheVariants as taken
use Rattle.kin_held.proofs.Pieces.{All-split}

-- the floor stays, and what held of each piece holds of each piece afterwards
pub record Keeps (P : Piece → Type 0) (old new : ChainView) : Type 0 where
  pub floor : new.floor ≡ old.floor
  pub held : All P new.held
  pub early : All P new.early

module _ (P : Piece → Type 0) where
  front_all : (xs ys : List Piece) → All P (xs ++ ys) → All P xs
  front_all [] ys all = All-nil P
  front_all (x ∷ xs) ys all = All-cons P x xs (All-head P x (xs ++ ys) all) (front_all xs ys (All-tail P x (xs ++ ys) all))

  pub All-pieces_upto : (at : ℕ) (ps : List Piece) → All P ps → All P (pieces_upto at ps)
  All-pieces_upto at [] all = All-nil P
  All-pieces_upto at (p ∷ ps) all = cond_both (leb p.stamp.to at) (p ∷ pieces_upto at ps) [] (λ qs. All P qs)
      (λ _. All-cons P p (pieces_upto at ps) (All-head P p ps all) (All-pieces_upto at ps (All-tail P p ps all))) (λ _. All-nil P)

  pub All-pieces_past : (at : ℕ) (ps : List Piece) → All P ps → All P (pieces_past at ps)
  All-pieces_past at [] all = All-nil P
  All-pieces_past at (p ∷ ps) all = cond_both (leb p.stamp.to at) (pieces_past at ps) (p ∷ ps) (λ qs. All P qs) (λ _. All-pieces_past at ps (All-tail P p ps all)) (λ _. all)

  pub places-all : (old : ChainView) (p : Piece) (t : Taken) (new : ChainView) → All P old.held → All P old.early → P p → Places old p t new → Keeps P old new
  places-all old p taken.Repeat new held early of takes = subst (λ v. Keeps P old v) (sym takes.1) (record { floor = refl; held = held; early = early })
  places-all old p (taken.Early at) new held early of takes =
      let more = All-permutation P (p ∷ old.early) new.early takes.3.early (All-cons P p old.early of early) in
      subst (λ v. Keeps P old v) (sym takes.3.same) (record { floor = refl; held = held; early = more })
  places-all old p (taken.Held at) new held early of takes =
      let more = takes.3 in
      let both = All-permutation P old.early (more.joined ++ new.early) more.joins.split early in
      record {
        floor = more.floor;
        held = subst (λ qs. All P qs) (sym more.held) (All-append P old.held (p ∷ more.joined) held (All-cons P p more.joined of (front_all more.joined new.early both)));
        early = All-split P old.early more.joined new.early more.joins.split early;
      }
  places-all old p (taken.Stale k) new held early of takes = absurd takes
  places-all old p (taken.Adrift b f o) new held early of takes = absurd takes

  enters-all : (old : ChainView) (p : Piece) (t : Taken) (new : ChainView) → All P old.held → All P old.early → P p → Enters old p t new → Keeps P old new
  enters-all old p t new held early of enters = ⊎_elim
      (λ same. places-all old p t new held early of same.1)
      (λ later. let kept = places-all (entered old p) p t new (All-pieces_upto p.base old.held held) (All-nil P) of later.2 in record { floor = kept.floor; held = kept.held; early = kept.early })
      enters

  pub takes-all : (old : ChainView) (p : Piece) (t : Taken) (new : ChainView) → All P old.held → All P old.early → P p → Takes old p t new → Keeps P old new
  takes-all old p (taken.Stale k) new held early of takes = subst (λ v. Keeps P old v) (sym takes.2) (record { floor = refl; held = held; early = early })
  takes-all old p (taken.Adrift b f o) new held early of takes = subst (λ v. Keeps P old v) (sym takes.5) (record { floor = refl; held = held; early = early })
  takes-all old p taken.Repeat new held early of takes = places-all old p taken.Repeat new held early of takes.1
  takes-all old p (taken.Early at) new held early of takes = enters-all old p (taken.Early at) new held early of takes
  takes-all old p (taken.Held at) new held early of takes = enters-all old p (taken.Held at) new held early of takes
