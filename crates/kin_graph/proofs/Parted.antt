-- What is kept, as the view of a part: operations do to the one what they do to the other.
use Rattle.std.proofs.Common.{◌≡◌, ℕ, Bool, true, false, if◌then◌else◌, List, [], ◌∷◌, refl, ap, ◌∙◌}
use Rattle.kin_ids.specs.declared.ids.User.{User}
use Rattle.kin_ids.specs.declared.stamps.Place.{Place}
use Rattle.kin_ids.specs.declared.ops.Half.{Half}
use Rattle.kin_ids.specs.declared.ops.Op.{Op}
use Rattle.kin_ids.specs.declared.ops.Op.TheVariants as op
use Rattle.kin_ids.specs.declared.ops.Numbered.{Numbered}
use Rattle.kin_ids.specs.Users.{same_user}
use Rattle.kin_ids.proofs.Same.{same_user-true}
use Rattle.kin_ids.specs.Parts.{PartView, with_half, without_half, changed, op_applied, ops_applied}
use Rattle.kin_graph.specs.Rows.{UserRow, row_applied}
use Rattle.kin_graph.specs.Changes.{Kept, with_row, done, done_all}
use Rattle.kin_graph.proofs.Batches.{place_in}

-- what is handed out of rows and users of tags
abbrev pub part_view : Kept → PartView
part_view k = record {
  out = λ u. (k.row u).out;
  inn = λ u. (k.row u).inn;
  mentions = λ u. (k.row u).mentions;
  mentioners = λ u. (k.row u).mentioners;
  said = λ u. (k.row u).said;
  uses = λ u. (k.row u).uses;
  tag_users = λ t. k.users t;
}

-- a part of a row that is written over
read-changed : {A : Type 0} (p : UserRow → A) (f : User → UserRow) (u : User) (r : UserRow) (q : User)
    → p (changed f u r q) ≡ changed (λ v. p (f v)) u (p r) q
read-changed p f u r q = by_test (same_user u q) where
  by_test : (b : Bool) → p (if b then r else f q) ≡ (if b then p r else p (f q))
  by_test true = refl
  by_test false = refl

-- a part of a row that stays
read-same : {A : Type 0} (p : UserRow → A) (f : User → UserRow) (u : User) (r : UserRow) → p r ≡ p (f u) → (q : User)
    → p (changed f u r q) ≡ p (f q)
read-same p f u r e q = by_test (same_user u q) refl where
  by_test : (b : Bool) → same_user u q ≡ b → p (if b then r else f q) ≡ p (f q)
  by_test true t = e ∙ ap (λ (v : User). p (f v)) (same_user-true u q t)
  by_test false t = refl

module _ (k : Kept) (u : User) (r : UserRow) where
  same-out : r.out ≡ (k.row u).out → (q : User) → ((with_row k u r).row q).out ≡ (k.row q).out
  same-out e = read-same (λ (x : UserRow). x.out) k.row u r e

  same-inn : r.inn ≡ (k.row u).inn → (q : User) → ((with_row k u r).row q).inn ≡ (k.row q).inn
  same-inn e = read-same (λ (x : UserRow). x.inn) k.row u r e

  same-mentions : r.mentions ≡ (k.row u).mentions → (q : User) → ((with_row k u r).row q).mentions ≡ (k.row q).mentions
  same-mentions e = read-same (λ (x : UserRow). x.mentions) k.row u r e

  same-mentioners : r.mentioners ≡ (k.row u).mentioners → (q : User) → ((with_row k u r).row q).mentioners ≡ (k.row q).mentioners
  same-mentioners e = read-same (λ (x : UserRow). x.mentioners) k.row u r e

  same-said : r.said ≡ (k.row u).said → (q : User) → ((with_row k u r).row q).said ≡ (k.row q).said
  same-said e = read-same (λ (x : UserRow). x.said) k.row u r e

  same-uses : r.uses ≡ (k.row u).uses → (q : User) → ((with_row k u r).row q).uses ≡ (k.row q).uses
  same-uses e = read-same (λ (x : UserRow). x.uses) k.row u r e

out-changed : (k : Kept) (u : User) (xs : List Half) → part_view (with_row k u (record (k.row u) { out = xs }))
    ≡ record (part_view k) { out = changed (part_view k).out u xs }
out-changed k u xs =
    let r : UserRow = record (k.row u) { out = xs } in
    λ i. record {
      out = λ q. read-changed (λ (x : UserRow). x.out) k.row u r q i;
      inn = λ q. same-inn k u r refl q i;
      mentions = λ q. same-mentions k u r refl q i;
      mentioners = λ q. same-mentioners k u r refl q i;
      said = λ q. same-said k u r refl q i;
      uses = λ q. same-uses k u r refl q i;
      tag_users = k.users;
    }

inn-changed : (k : Kept) (u : User) (xs : List Half) → part_view (with_row k u (record (k.row u) { inn = xs }))
    ≡ record (part_view k) { inn = changed (part_view k).inn u xs }
inn-changed k u xs =
    let r : UserRow = record (k.row u) { inn = xs } in
    λ i. record {
      out = λ q. same-out k u r refl q i;
      inn = λ q. read-changed (λ (x : UserRow). x.inn) k.row u r q i;
      mentions = λ q. same-mentions k u r refl q i;
      mentioners = λ q. same-mentioners k u r refl q i;
      said = λ q. same-said k u r refl q i;
      uses = λ q. same-uses k u r refl q i;
      tag_users = k.users;
    }

-- an operation does to the view of a part what it does to rows and users of tags
pub part-done : (at : Place) (k : Kept) (o : Op) → part_view (done at k o) ≡ op_applied at (part_view k) o
part-done at k (op.AddOut u w) = out-changed k u (with_half w at (k.row u).out)
part-done at k (op.AddIn w u) = inn-changed k w (with_half u at (k.row w).inn)
part-done at k (op.DropOut u w) = out-changed k u (without_half w (k.row u).out)
part-done at k (op.DropIn w u) = inn-changed k w (without_half u (k.row w).inn)
part-done at k (op.MentionOut u w) =
    let r : UserRow = row_applied at (k.row u) (op.MentionOut u w) in
    λ i. record {
      out = λ q. same-out k u r refl q i;
      inn = λ q. same-inn k u r refl q i;
      mentions = λ q. read-changed (λ (x : UserRow). x.mentions) k.row u r q i;
      mentioners = λ q. same-mentioners k u r refl q i;
      said = λ q. same-said k u r refl q i;
      uses = λ q. same-uses k u r refl q i;
      tag_users = k.users;
    }
part-done at k (op.MentionIn w u) =
    let r : UserRow = row_applied at (k.row w) (op.MentionIn w u) in
    λ i. record {
      out = λ q. same-out k w r refl q i;
      inn = λ q. same-inn k w r refl q i;
      mentions = λ q. same-mentions k w r refl q i;
      mentioners = λ q. read-changed (λ (x : UserRow). x.mentioners) k.row w r q i;
      said = λ q. same-said k w r refl q i;
      uses = λ q. same-uses k w r refl q i;
      tag_users = k.users;
    }
part-done at k (op.Said w) =
    let r : UserRow = row_applied at (k.row w) (op.Said w) in
    λ i. record {
      out = λ q. same-out k w r refl q i;
      inn = λ q. same-inn k w r refl q i;
      mentions = λ q. same-mentions k w r refl q i;
      mentioners = λ q. same-mentioners k w r refl q i;
      said = λ q. read-changed (λ (x : UserRow). x.said) k.row w r q i;
      uses = λ q. same-uses k w r refl q i;
      tag_users = k.users;
    }
part-done at k (op.Use u t) =
    let r : UserRow = row_applied at (k.row u) (op.Use u t) in
    λ i. record {
      out = λ q. same-out k u r refl q i;
      inn = λ q. same-inn k u r refl q i;
      mentions = λ q. same-mentions k u r refl q i;
      mentioners = λ q. same-mentioners k u r refl q i;
      said = λ q. same-said k u r refl q i;
      uses = λ q. read-changed (λ (x : UserRow). x.uses) k.row u r q i;
      tag_users = k.users;
    }
part-done at k (op.TagUse t u) = refl

pub part-done_all : (e i : ℕ) (k : Kept) (ops : List Numbered) → part_view (done_all e i k ops) ≡ ops_applied e i (part_view k) ops
part-done_all e i k [] = refl
part-done_all e i k (x ∷ xs) = part-done_all e i (done (place_in e i x) k x.op) xs ∙ ap (λ (v : PartView). ops_applied e i v xs)
    (part-done (place_in e i x) k x.op)
