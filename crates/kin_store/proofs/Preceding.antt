-- Stores in whose lists each key stands where it stood.
use Rattle.std.proofs.Common.{◌≡◌, ℕ, Bool, true, false, cond, if◌then◌else◌, List, [], ◌∷◌, Option, Some, None, is_some, length, refl}
use Rattle.std.proofs.Common.{sym, ap, ◌∙◌, subst}
use Rattle.std.specs.Cmp.{Equal-is}
use Rattle.kin_ids.specs.declared.ids.User.{User}
use Rattle.kin_ids.specs.declared.stamps.Place.{Place}
use Rattle.kin_ids.specs.declared.ops.Half.{Half}
use Rattle.kin_ids.specs.declared.ops.Use.{Use}
use Rattle.kin_ids.specs.declared.ops.Op.{Op}
use Rattle.kin_ids.specs.declared.ops.Op.TheVariants as op
use Rattle.kin_ids.specs.declared.ops.Numbered.{Numbered}
use Rattle.kin_ids.specs.Users.{user_cmp, tag_cmp, same_user, same_tag}
use Rattle.kin_ids.specs.Parts.{with_half, with_member, with_first}
use Rattle.kin_store.specs.declared.pairs.TagUser.{TagUser}
use Rattle.kin_store.specs.Lists.{half_place, user_place, use_place}
use Rattle.kin_store.specs.Rows.{UserRow, row_applied}
use Rattle.kin_store.specs.State.{empty_part}
use Rattle.kin_store.specs.Changes.{Kept, kept, with_row, with_users, done, done_all}
use Rattle.kin_store.specs.Hints.{IndexView, IsIndexed, Precedes, empty_index}
use Rattle.kin_store.proofs.Orders.{user_exact, tag_exact}
use Rattle.kin_store.proofs.Placing.{with_half-places, without_half-places, with_member-there, with_first-there, half-push, member-push}
use Rattle.kin_store.proofs.Placing.{first-push}
use Rattle.kin_store.proofs.Indexing.{stay}
use Rattle.kin_store.proofs.Empties.{empty-row, empty-users}

pub precedes-refl : (k : Kept) → Precedes k k
precedes-refl k = record {
  out = λ p i e. e;
  inn = λ p i e. e;
  mentions = λ p i e. e;
  mentioners = λ p i e. e;
  uses = λ p i e. e;
  users = λ p i e. e;
}

pub precedes-trans : (j k l : Kept) → Precedes j k → Precedes k l → Precedes j l
precedes-trans j k l a b = record {
  out = λ p i e. b.out p i (a.out p i e);
  inn = λ p i e. b.inn p i (a.inn p i e);
  mentions = λ p i e. b.mentions p i (a.mentions p i e);
  mentioners = λ p i e. b.mentioners p i (a.mentioners p i e);
  uses = λ p i e. b.uses p i (a.uses p i e);
  users = λ p i e. b.users p i (a.users p i e);
}

-- an index of the later one serves the earlier one
pub precedes-indexed : (k l : Kept) (x : IndexView) → Precedes k l → IsIndexed l x → IsIndexed k x
precedes-indexed k l x a h = record {
  out = λ p i f e. h.out p i f (a.out p i e);
  inn = λ p i f e. h.inn p i f (a.inn p i e);
  mentions = λ p i f e. h.mentions p i f (a.mentions p i e);
  mentioners = λ p i f e. h.mentioners p i f (a.mentioners p i e);
  uses = λ p i f e. h.uses p i f (a.uses p i e);
  users = λ p i f e. h.users p i f (a.users p i e);
}

-- halves, users and uses stay where they stand
with_half-stay : (w : User) (at : Place) (xs : List Half) (q : User) (i : ℕ) → half_place xs q ≡ Some i → half_place (with_half w at xs) q
    ≡ Some i
with_half-stay w at xs q i e = by_case (half_place xs w) refl where
  by_case : (o : Option ℕ) → half_place xs w ≡ o → half_place (with_half w at xs) q ≡ Some i
  by_case (Some j) t = with_half-places w at xs j t q ∙ e
  by_case None t = half-push w at xs t q ∙ by_test (same_user w q) refl where
    by_test : (b : Bool) → same_user w q ≡ b → cond b (Some (length xs)) (half_place xs q) ≡ Some i
    by_test true z =
        let same : w ≡ q = user_exact w q ((Equal-is (user_cmp w q)).0 z) in
        let bad : None ≡ Some i = sym t ∙ subst (λ (v : User). half_place xs v ≡ Some i) (sym same) e in
        absurd cc
    by_test false z = e

with_member-stay : (w : User) (xs : List User) (q : User) (i : ℕ) → user_place xs q ≡ Some i → user_place (with_member w xs) q ≡ Some i
with_member-stay w xs q i e = by_case (user_place xs w) refl where
  by_case : (o : Option ℕ) → user_place xs w ≡ o → user_place (with_member w xs) q ≡ Some i
  by_case (Some j) t = ap (λ (ys : List User). user_place ys q) (sym (with_member-there w xs (ap is_some t))) ∙ e
  by_case None t = member-push w xs t q ∙ by_test (same_user w q) refl where
    by_test : (b : Bool) → same_user w q ≡ b → cond b (Some (length xs)) (user_place xs q) ≡ Some i
    by_test true z =
        let same : w ≡ q = user_exact w q ((Equal-is (user_cmp w q)).0 z) in
        let bad : None ≡ Some i = sym t ∙ subst (λ (v : User). user_place xs v ≡ Some i) (sym same) e in
        absurd cc
    by_test false z = e

with_first-stay : (t : List ℕ) (at : Place) (xs : List Use) (q : List ℕ) (i : ℕ) → use_place xs q ≡ Some i
    → use_place (with_first t at xs) q ≡ Some i
with_first-stay t at xs q i e = by_case (use_place xs t) refl where
  by_case : (o : Option ℕ) → use_place xs t ≡ o → use_place (with_first t at xs) q ≡ Some i
  by_case (Some j) h = ap (λ (ys : List Use). use_place ys q) (sym (with_first-there t at xs (ap is_some h))) ∙ e
  by_case None h = first-push t at xs h q ∙ by_test (same_tag t q) refl where
    by_test : (b : Bool) → same_tag t q ≡ b → cond b (Some (length xs)) (use_place xs q) ≡ Some i
    by_test true z =
        let same : t ≡ q = tag_exact t q ((Equal-is (tag_cmp t q)).0 z) in
        let bad : None ≡ Some i = sym h ∙ subst (λ (v : List ℕ). use_place xs v ≡ Some i) (sym same) e in
        absurd cc
    by_test false z = e

stay-uses : (k : Kept) (u : User) (r : UserRow) → ((q : List ℕ) (i : ℕ) → use_place (k.row u).uses q ≡ Some i → use_place r.uses q ≡ Some i)
    → (p : TagUser) (i : ℕ) → use_place (k.row p.user).uses p.tag ≡ Some i → use_place ((with_row k u r).row p.user).uses p.tag ≡ Some i
stay-uses k u r h p i e = by_test (same_user u p.user) refl where
  by_test : (b : Bool) → same_user u p.user ≡ b → use_place (if b then r else k.row p.user).uses p.tag ≡ Some i
  by_test true t =
      let same : u ≡ p.user = user_exact u p.user ((Equal-is (user_cmp u p.user)).0 t) in
      h p.tag i (subst (λ (v : User). use_place (k.row v).uses p.tag ≡ Some i) (sym same) e)
  by_test false t = e

stay-users : (k : Kept) (t : List ℕ) (us : List User) → ((q : User) (i : ℕ) → user_place (k.users t) q ≡ Some i → user_place us q ≡ Some i)
    → (p : TagUser) (i : ℕ) → user_place (k.users p.tag) p.user ≡ Some i → user_place ((with_users k t us).users p.tag) p.user ≡ Some i
stay-users k t us h p i e = by_test (same_tag t p.tag) refl where
  by_test : (b : Bool) → same_tag t p.tag ≡ b → user_place (if b then us else k.users p.tag) p.user ≡ Some i
  by_test true z =
      let same : t ≡ p.tag = tag_exact t p.tag ((Equal-is (tag_cmp t p.tag)).0 z) in
      h p.user i (subst (λ (v : List ℕ). user_place (k.users v) p.user ≡ Some i) (sym same) e)
  by_test false z = e

-- halves of one list stand in another one where they stood
abbrev pub HalvesStay : List Half → List Half → Type 0
HalvesStay xs ys = (q : User) (i : ℕ) → half_place xs q ≡ Some i → half_place ys q ≡ Some i

abbrev pub UsersStay : List User → List User → Type 0
UsersStay xs ys = (q : User) (i : ℕ) → user_place xs q ≡ Some i → user_place ys q ≡ Some i

abbrev pub UsesStay : List Use → List Use → Type 0
UsesStay xs ys = (q : List ℕ) (i : ℕ) → use_place xs q ≡ Some i → use_place ys q ≡ Some i

precedes-row : (k : Kept) (u : User) (r : UserRow) → HalvesStay (k.row u).out r.out → HalvesStay (k.row u).inn r.inn
    → UsersStay (k.row u).mentions r.mentions
    → UsersStay (k.row u).mentioners r.mentioners → UsesStay (k.row u).uses r.uses → Precedes k (with_row k u r)
precedes-row k u r out inn mentions mentioners uses = record {
  out = stay half_place (λ x. x.out) k u r out;
  inn = stay half_place (λ x. x.inn) k u r inn;
  mentions = stay user_place (λ x. x.mentions) k u r mentions;
  mentioners = stay user_place (λ x. x.mentioners) k u r mentioners;
  uses = stay-uses k u r uses;
  users = λ p i e. e;
}

-- an operation puts items at the end, and turns halves
pub precedes-done : (at : Place) (k : Kept) (o : Op) → Precedes k (done at k o)
precedes-done at k (op.AddOut u w) = precedes-row k u (row_applied at (k.row u) (op.AddOut u w)) (with_half-stay w at (k.row u).out)
    (λ q i e. e) (λ q i e. e) (λ q i e. e) (λ q i e. e)
precedes-done at k (op.AddIn w u) = precedes-row k w (row_applied at (k.row w) (op.AddIn w u)) (λ q i e. e)
    (with_half-stay u at (k.row w).inn) (λ q i e. e) (λ q i e. e) (λ q i e. e)
precedes-done at k (op.DropOut u w) = precedes-row k u (row_applied at (k.row u) (op.DropOut u w))
    (λ q i e. without_half-places w (k.row u).out q ∙ e) (λ q i e. e) (λ q i e. e) (λ q i e. e) (λ q i e. e)
precedes-done at k (op.DropIn w u) = precedes-row k w (row_applied at (k.row w) (op.DropIn w u)) (λ q i e. e)
    (λ q i e. without_half-places u (k.row w).inn q ∙ e) (λ q i e. e) (λ q i e. e) (λ q i e. e)
precedes-done at k (op.MentionOut u w) = precedes-row k u (row_applied at (k.row u) (op.MentionOut u w)) (λ q i e. e) (λ q i e. e)
    (with_member-stay w (k.row u).mentions) (λ q i e. e) (λ q i e. e)
precedes-done at k (op.MentionIn w u) = precedes-row k w (row_applied at (k.row w) (op.MentionIn w u)) (λ q i e. e) (λ q i e. e)
    (λ q i e. e) (with_member-stay u (k.row w).mentioners) (λ q i e. e)
precedes-done at k (op.Said w) = precedes-row k w (row_applied at (k.row w) (op.Said w)) (λ q i e. e) (λ q i e. e) (λ q i e. e) (λ q i e. e)
    (λ q i e. e)
precedes-done at k (op.Use u t) = precedes-row k u (row_applied at (k.row u) (op.Use u t)) (λ q i e. e) (λ q i e. e) (λ q i e. e)
    (λ q i e. e) (with_first-stay t at (k.row u).uses)
precedes-done at k (op.TagUse t u) = record {
  out = λ p i e. e;
  inn = λ p i e. e;
  mentions = λ p i e. e;
  mentioners = λ p i e. e;
  uses = λ p i e. e;
  users = stay-users k t (with_member u (k.users t)) (with_member-stay u (k.users t));
}

pub precedes-done_all : (e i : ℕ) (k : Kept) (xs : List Numbered) → Precedes k (done_all e i k xs)
precedes-done_all e i k [] = precedes-refl k
precedes-done_all e i k (x ∷ xs) =
    let at : Place = record { epoch = record { 0 = e }; ingest = record { 0 = i }; number = x.number } in
    precedes-trans k (done at k x.op) (done_all e i (done at k x.op) xs) (precedes-done at k x.op)
    (precedes-done_all e i (done at k x.op) xs)

-- an index that knows nothing serves an empty store
pub indexed-empty : (p n : ℕ) → IsIndexed (kept (empty_part p n)) empty_index
indexed-empty p n = record {
  out = λ q i f e. let t : None ≡ Some i = sym (ap (λ (r : UserRow). half_place r.out q.other) (empty-row p n q.user)) ∙ e in absurd cc;
  inn = λ q i f e. let t : None ≡ Some i = sym (ap (λ (r : UserRow). half_place r.inn q.other) (empty-row p n q.user)) ∙ e in absurd cc;
  mentions = λ q i f e. let t : None ≡ Some i = sym (ap (λ (r : UserRow). user_place r.mentions q.other) (empty-row p n q.user)) ∙ e in
      absurd cc;
  mentioners = λ q i f e. let t : None ≡ Some i = sym (ap (λ (r : UserRow). user_place r.mentioners q.other) (empty-row p n q.user)) ∙ e in
      absurd cc;
  uses = λ q i f e. let t : None ≡ Some i = sym (ap (λ (r : UserRow). use_place r.uses q.tag) (empty-row p n q.user)) ∙ e in absurd cc;
  users = λ q i f e. let t : None ≡ Some i = sym (ap (λ (us : List User). user_place us q.user) (empty-users p n q.tag)) ∙ e in absurd cc;
}
