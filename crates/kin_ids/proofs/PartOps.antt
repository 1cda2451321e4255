-- The operations of a partition: where they belong, and how often they mention a user.
use Rattle.std.proofs.Common.{◌≡◌, ℕ, ◌+◌, ◌≤◌, Bool, true, false, cond, eqb, List, [], ◌∷◌, length, refl, ap, arith}
use Rattle.std.specs.Prelude.{All}
use Rattle.std.proofs.lemmas.Bool.{eqb-true}
use Rattle.std.proofs.lemmas.List.Elements.{filter_passes, All-weaker}
use Rattle.kin_ids.specs.Types.{User, Place, Op, Numbered, Record}
use Rattle.kin_ids.specs.declared.ops.Op.TheVariants as op
use Rattle.kin_ids.specs.Users.{same_user}
use Rattle.kin_ids.specs.Operations.{op_part, all_ops, part_ops}
use Rattle.kin_ids.specs.Parts.{PartView, op_applied, ops_applied}
use Rattle.kin_ids.proofs.Same.{same_user-true}

-- a partition's operations belong to it
pub part-home : (parts p n : ℕ) (rs : List Record) → All (λ (x : Numbered). op_part parts x.op ≡ p) (part_ops parts p n rs)
part-home parts p n rs = All-weaker (λ (x : Numbered). eqb (op_part parts x.op) p ≡ true) (λ (x : Numbered). op_part parts x.op ≡ p) (λ x h. eqb-true (op_part parts x.op) p h) (part_ops parts p n rs)
    (filter_passes (λ (x : Numbered). eqb (op_part parts x.op) p) (all_ops n rs))

-- an operation mentions a user at most once more, and never less
pub record IsSaidOnceMore (was now : ℕ) : Type 0 where
  pub more : was ≤ now
  pub once : now ≤ was + 1

pub op-said : (at : Place) (v : PartView) (o : Op) (u : User) → IsSaidOnceMore (v.said u) ((op_applied at v o).said u)
op-said at v (op.AddOut w x) u = record { more = omega arith; once = omega arith }
op-said at v (op.AddIn w x) u = record { more = omega arith; once = omega arith }
op-said at v (op.DropOut w x) u = record { more = omega arith; once = omega arith }
op-said at v (op.DropIn w x) u = record { more = omega arith; once = omega arith }
op-said at v (op.MentionOut w x) u = record { more = omega arith; once = omega arith }
op-said at v (op.MentionIn w x) u = record { more = omega arith; once = omega arith }
op-said at v (op.Said w) u = here (same_user w u) refl
  where
    here : (b : Bool) → same_user w u ≡ b → IsSaidOnceMore (v.said u) (cond b (v.said w + 1) (v.said u))
    here true e = let same : v.said w ≡ v.said u = ap v.said (same_user-true w u e) in record { more = omega arith; once = omega arith }
    here false e = record { more = omega arith; once = omega arith }
op-said at v (op.Use w t) u = record { more = omega arith; once = omega arith }
op-said at v (op.TagUse t w) u = record { more = omega arith; once = omega arith }

-- so many operations mention a user at most so often
pub ops-said : (e i : ℕ) (v : PartView) (xs : List Numbered) (u : User) → (ops_applied e i v xs).said u ≤ v.said u + length xs
ops-said e i v [] u = omega arith
ops-said e i v (x ∷ xs) u =
    let at : Place = record { epoch = record { 0 = e }; ingest = record { 0 = i }; number = x.number } in
    let one = (op-said at v x.op u).once in
    omega (arith, one, ops-said e i (op_applied at v x.op) xs u)

-- nobody is mentioned less after more operations
pub ops-say : (e i : ℕ) (v : PartView) (xs : List Numbered) (u : User) → v.said u ≤ (ops_applied e i v xs).said u
ops-say e i v [] u = omega arith
ops-say e i v (x ∷ xs) u =
    let at : Place = record { epoch = record { 0 = e }; ingest = record { 0 = i }; number = x.number } in
    let one = (op-said at v x.op u).more in
    omega (arith, one, ops-say e i (op_applied at v x.op) xs u)
