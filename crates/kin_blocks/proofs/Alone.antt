-- What the only partition may take first.
use Rattle.std.proofs.Common.{◌≡◌, ℕ, zero, suc, ◌+◌, ◌<◌, ◌≤◌, ◌^◌, List, [], ◌∷◌, All, length, get_or, sym, subst, arith}
use Rattle.std.specs.Prelude.{slice_index}
use Rattle.std.proofs.lemmas.List.Elements.{All-cons, All-nil}
use Rattle.kin_ids.specs.declared.ids.User.{User}
use Rattle.kin_ids.specs.declared.ops.Numbered.{Numbered}
use Rattle.kin_ids.specs.declared.ops.Piece.{Piece}
use Rattle.kin_ids.specs.Operations.{op_part}
use Rattle.kin_graph.specs.State.{PartState, after, empty_part, view_of}
use Rattle.kin_graph.proofs.Fitting.{after-said, empty-said, one-home}
use Rattle.kin_blocks.specs.Blocks.{IsOfStore, MayTake}
use Rattle.kin_blocks.specs.Versions.{VersionsView, committed_at, first_versions, store_at}
use Rattle.kin_blocks.proofs.Empties.{state_at-empty}

pub alone-home : (ops : List Numbered) → All (λ (x : Numbered). op_part 1 x.op ≡ 0) ops
alone-home ops = λ k d lt. one-home (get_or ops k d).op

pub alone-said : (x : Piece) → length x.ops ≡ 2 → (u : User) → (after 1 x (view_of (empty_part 0 1))).said u < 2 ^ 64
alone-said x two u = omega (arith, two, after-said 1 x (view_of (empty_part 0 1)) u, empty-said 0 1 u)

pub alone-may : (x : Piece) → x.part.0 ≡ 0 → length x.ops ≡ 2 → MayTake 1 (empty_part 0 1) (x ∷ [])
alone-may x part two = record {
  of_store = All-cons (IsOfStore (empty_part 0 1)) x [] (record { part = part; home = alone-home x.ops })
      (All-nil (IsOfStore (empty_part 0 1)));
  said = alone-said x two;
}

-- what versions of one partition may commit first
module _ (v : VersionsView) (first : v ≡ first_versions 1) where
  pub alone-part : 0 < length v.committed
  alone-part = subst (λ (w : VersionsView). 0 < length w.committed) (sym first) (omega arith)

  pub alone-room : committed_at v 0 < 4294967295
  alone-room = subst (λ (w : VersionsView). committed_at w 0 < 4294967295) (sym first) (omega arith)

  pub alone-next : (xs : List Piece) → MayTake 1 (empty_part 0 1) xs → MayTake (committed_at v 0 + 1) (store_at v 0 (committed_at v 0)) xs
  alone-next xs may = subst (λ (w : VersionsView). MayTake (committed_at w 0 + 1) (store_at w 0 (committed_at w 0)) xs) (sym first)
      (subst (λ (s : PartState). MayTake 1 s xs) (sym (state_at-empty 1 0 (omega arith))) may)

only : (p : ℕ) → p < 1 → 1 ≤ slice_index (1 ∷ []) p
only zero lt = omega arith
only (suc p) lt = absurd (omega (arith, lt))

pub alone-kept : (v : VersionsView) → v.committed ≡ 1 ∷ [] → (p : ℕ) → p < length v.committed → 1 ≤ committed_at v p
alone-kept v one p = subst (λ (cs : List ℕ). p < length cs → 1 ≤ slice_index cs p) (sym one) (only p)
