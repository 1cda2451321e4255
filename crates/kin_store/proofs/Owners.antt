-- Operations by the user whose row they change.
use Rattle.std.specs.BTreeMap.{is_at}
use Rattle.std.specs.Cmp.{Equal-is}
use Rattle.std.specs.declared.cmp.Ordering.{Ordering}
use Rattle.std.specs.declared.cmp.Ordering.TheVariants.{Equal}
use Rattle.std.proofs.Common.{◌≡◌, List, ℕ, ◌⊎◌, ⊎_elim, refl, sym, subst, Bool, true, false, if◌then◌else◌, ap, ◌∙◌}
use Rattle.std.proofs.lemmas.Cmp.{eq_by_cmp_equiv}
use Rattle.kin_ids.specs.declared.ids.User.{User}
use Rattle.kin_ids.specs.declared.stamps.Place.{Place}
use Rattle.kin_ids.specs.declared.ops.Op.{Op}
use Rattle.kin_ids.specs.declared.ops.Op.TheVariants as op
use Rattle.kin_ids.specs.Parts.{changed}
use Rattle.kin_store.specs.Rows.{UserRow, row_applied}
use Rattle.kin_store.specs.Changes.{Kept, with_row, with_users, done}
use Rattle.kin_store.specs.Hints.{op_place, op_count, row_place, row_count}
use Rattle.kin_store.proofs.Orders.{user_total, user_exact, tag_exact}

-- the operation is one of this user's row
abbrev pub Owns : User → Op → Type 0
Owns u o = ((x : User) × (o ≡ op.AddOut u x))
    ⊎ (((x : User) × (o ≡ op.AddIn u x)) ⊎ (((x : User) × (o ≡ op.DropOut u x)) ⊎ (((x : User) × (o ≡ op.DropIn u x))
    ⊎ (((x : User) × (o ≡ op.MentionOut u x))
    ⊎ (((x : User) × (o ≡ op.MentionIn u x)) ⊎ ((o ≡ op.Said u) ⊎ ((t : List ℕ) × (o ≡ op.Use u t))))))))

-- what is shown of each kind of these operations holds of all
by_owner : (G : Op → Type 0) (u : User) → ((x : User) → G (op.AddOut u x)) → ((x : User) → G (op.AddIn u x))
    → ((x : User) → G (op.DropOut u x)) → ((x : User) → G (op.DropIn u x))
    → ((x : User) → G (op.MentionOut u x)) → ((x : User) → G (op.MentionIn u x)) → G (op.Said u) → ((t : List ℕ) → G (op.Use u t))
    → (o : Op) → Owns u o → G o
by_owner G u ao ai dro dri mo mi s us o =
    ⊎_elim (λ (p : (x : User) × (o ≡ op.AddOut u x)). subst G (sym p.1) (ao p.0))
    (⊎_elim (λ (p : (x : User) × (o ≡ op.AddIn u x)). subst G (sym p.1) (ai p.0))
    (⊎_elim (λ (p : (x : User) × (o ≡ op.DropOut u x)). subst G (sym p.1) (dro p.0))
    (⊎_elim (λ (p : (x : User) × (o ≡ op.DropIn u x)). subst G (sym p.1) (dri p.0))
    (⊎_elim (λ (p : (x : User) × (o ≡ op.MentionOut u x)). subst G (sym p.1) (mo p.0))
    (⊎_elim (λ (p : (x : User) × (o ≡ op.MentionIn u x)). subst G (sym p.1) (mi p.0))
    (⊎_elim (λ (p : o ≡ op.Said u). subst G (sym p) s)
    (λ (p : (t : List ℕ) × (o ≡ op.Use u t)). subst G (sym p.1) (us p.0))))))))

pub done-owner : (at : Place) (k : Kept) (u : User) (o : Op) → Owns u o → done at k o ≡ with_row k u (row_applied at (k.row u) o)
done-owner at k u =
    by_owner (λ o. done at k o ≡ with_row k u (row_applied at (k.row u) o)) u (λ x. refl) (λ x. refl) (λ x. refl) (λ x. refl) (λ x. refl)
    (λ x. refl) refl (λ t. refl)

-- a changed function at the changed place
pub changed-here : {A : Type 0} (f : User → A) (u : User) (a : A) → changed f u a u ≡ a
changed-here f u a = rw ((eq_by_cmp_equiv user_total).refl u) refl

-- a value that is set to what it is changes nothing
set_same : {K X : Type 0} {R : K → K → Ordering} (exact : (x y : K) → R x y ≡ Equal → x ≡ y) (f : K → X) (k q : K) (x : X) → x ≡ f k
    → (if is_at (R k) q then x else f q) ≡ f q
set_same {R = R} exact f k q x e = by_test (is_at (R k) q) refl where
  by_test : (b : Bool) → is_at (R k) q ≡ b → (if b then x else f q) ≡ f q
  by_test true t = e ∙ ap f (exact k q ((Equal-is (R k q)).0 t))
  by_test false t = refl

pub row-kept : (k : Kept) (u : User) (r : UserRow) → r ≡ k.row u → with_row k u r ≡ k
row-kept k u r e = λ i. record { row = λ q. set_same user_exact k.row u q r e i; users = k.users }

pub users-kept : (k : Kept) (t : List ℕ) (us : List User) → us ≡ k.users t → with_users k t us ≡ k
users-kept k t us e = λ i. record { row = k.row; users = λ q. set_same tag_exact k.users t q us e i }

pub place-owner : (k : Kept) (u : User) (o : Op) → Owns u o → op_place k o ≡ row_place (k.row u) o
place-owner k u = by_owner (λ o. op_place k o ≡ row_place (k.row u) o) u (λ x. refl) (λ x. refl) (λ x. refl) (λ x. refl) (λ x. refl)
    (λ x. refl) refl (λ t. refl)

pub count-owner : (k : Kept) (u : User) (o : Op) → Owns u o → op_count k o ≡ row_count (k.row u) o
count-owner k u = by_owner (λ o. op_count k o ≡ row_count (k.row u) o) u (λ x. refl) (λ x. refl) (λ x. refl) (λ x. refl) (λ x. refl)
    (λ x. refl) refl (λ t. refl)
