-- Indexes that know the places of long lists, as operations are done.
use Rattle.std.proofs.Common.{◌≡◌, ℕ, ◌<◌, ◌≤◌, ◌&&◌, Bool, true, false, cond, if◌then◌else◌, List, Option, Some, None, is_some, refl}
use Rattle.std.proofs.Common.{sym, ap, ◌∙◌, subst, arith}
use Rattle.std.specs.Cmp.{Equal-is}
use Rattle.std.specs.Ordering.{is_eq, ordering_then}
use Rattle.std.specs.declared.cmp.Ordering.{Ordering}
use Rattle.std.specs.declared.cmp.Ordering.TheVariants.{Less, Equal, Greater}
use Rattle.kin_ids.specs.declared.ids.User.{User}
use Rattle.kin_ids.specs.declared.stamps.Place.{Place}
use Rattle.kin_ids.specs.declared.ops.Use.{Use}
use Rattle.kin_ids.specs.declared.ops.Op.{Op}
use Rattle.kin_ids.specs.declared.ops.Op.TheVariants as op
use Rattle.kin_ids.specs.Users.{user_cmp, tag_cmp, same_user, same_tag}
use Rattle.kin_ids.specs.Parts.{with_member}
use Rattle.kin_store.specs.Rows.{UserRow, row_applied}
use Rattle.kin_store.specs.Changes.{Kept, with_row, with_users, done}
use Rattle.kin_store.proofs.Orders.{user_exact, tag_exact}
use Rattle.kin_store.specs.declared.pairs.Pair.{Pair}
use Rattle.kin_store.specs.declared.pairs.TagUser.{TagUser}
use Rattle.kin_store.specs.Pairs.{pair, tag_user, same_pair, same_tag_user, noted, tag_noted}
use Rattle.kin_store.specs.Lists.{few, half_place, user_place, use_place}
use Rattle.kin_store.specs.Hints.{op_place, op_count, index_hint, Covers, CoversTag, IndexView, IsIndexed, IsOpHint, IsReady, NotesOp}
use Rattle.kin_store.proofs.Exacts.{pair_same, tag_user_same}
use Rattle.kin_store.proofs.Placing.{without_half-places, with_half-places, with_member-there, with_first-there, half-push, member-push}
use Rattle.kin_store.proofs.Placing.{first-push}

-- equal in both parts
both : (a b : Ordering) → is_eq (ordering_then a b) ≡ (is_eq a && is_eq b)
both Less b = refl
both Equal b = refl
both Greater b = refl

-- a place in a list that one key was put into
chosen : (b c : Bool) (n i : ℕ) (was known : Option ℕ) → (was ≡ Some i → known ≡ Some i) → cond b (Some n) was ≡ Some i
    → cond b (Some n) known ≡ Some i
chosen true c n i was known h e = e
chosen false c n i was known h e = h e

pub covers-few : (ss : List (Pair × ℕ)) (p : Pair) (n : ℕ) → n < few → Covers ss p n ss
covers-few ss p n h q i f e = by_test (same_pair p q) e where
  by_test : (b : Bool) → cond b (Some n) (noted ss q) ≡ Some i → noted ss q ≡ Some i
  by_test true t = let same : n ≡ i = cc in absurd (omega (arith, same, h, f))
  by_test false t = t

pub covers-few-tag : (ss : List (TagUser × ℕ)) (p : TagUser) (n : ℕ) → n < few → CoversTag ss p n ss
covers-few-tag ss p n h q i f e = by_test (same_tag_user p q) e where
  by_test : (b : Bool) → cond b (Some n) (tag_noted ss q) ≡ Some i → tag_noted ss q ≡ Some i
  by_test true t = let same : n ≡ i = cc in absurd (omega (arith, same, h, f))
  by_test false t = t

-- lists of a user's row, by users
module _ {T : Type 0} (place : List T → User → Option ℕ) (get : UserRow → List T) where
  abbrev pub Known : Kept → List (Pair × ℕ) → Type 0
  Known k ss = (p : Pair) (i : ℕ) → few ≤ i → place (get (k.row p.user)) p.other ≡ Some i → noted ss p ≡ Some i

  pub keep : (k : Kept) (ss : List (Pair × ℕ)) (u : User) (r : UserRow) → Known k ss
      → ((q : User) (i : ℕ) → place (get r) q ≡ Some i → place (get (k.row u)) q ≡ Some i) → Known (with_row k u r) ss
  keep k ss u r known h p i f e = by_test (same_user u p.user) refl e where
    by_test : (b : Bool) → same_user u p.user ≡ b → place (get (if b then r else k.row p.user)) p.other ≡ Some i → noted ss p ≡ Some i
    by_test true t x =
        let same : u ≡ p.user = user_exact u p.user ((Equal-is (user_cmp u p.user)).0 t) in
        known p i f (subst (λ (v : User). place (get (k.row v)) p.other ≡ Some i) same (h p.other i x))
    by_test false t x = known p i f x

  -- one more key
  pub put : (k : Kept) (ss ts : List (Pair × ℕ)) (u w : User) (r : UserRow) (n : ℕ) → Known k ss
      → ((q : User) → place (get r) q ≡ cond (same_user w q) (Some n) (place (get (k.row u)) q)) → Covers ss (pair u w) n ts
      → Known (with_row k u r) ts
  put k ss ts u w r n known h covers p i f e =
      covers p i f (ap (λ (b : Bool). cond b (Some n) (noted ss p)) (both (user_cmp u p.user) (user_cmp w p.other))
      ∙ by_test (same_user u p.user) refl e) where
        by_test : (b : Bool) → same_user u p.user ≡ b → place (get (if b then r else k.row p.user)) p.other ≡ Some i
            → cond (b && same_user w p.other) (Some n) (noted ss p) ≡ Some i
        by_test true t x =
            let same : u ≡ p.user = user_exact u p.user ((Equal-is (user_cmp u p.user)).0 t) in
            chosen (same_user w p.other) true n i (place (get (k.row u)) p.other) (noted ss p)
            (λ y. known p i f (subst (λ (v : User). place (get (k.row v)) p.other ≡ Some i) same y)) (sym (h p.other) ∙ x)
        by_test false t x = known p i f x

  -- the same list, where a key is noted that wasn't put in
  pub failed : (k : Kept) (ss ts : List (Pair × ℕ)) (u w : User) (n : ℕ) → Known k ss → place (get (k.row u)) w ≡ None
      → Covers ss (pair u w) n ts → Known k ts
  failed k ss ts u w n known none covers p i f e = covers p i f (by_test (same_pair (pair u w) p) refl) where
    by_test : (b : Bool) → same_pair (pair u w) p ≡ b → cond b (Some n) (noted ss p) ≡ Some i
    by_test true t =
        let same : pair u w ≡ p = pair_same (pair u w) p t in
        let bad : None ≡ Some i = sym none ∙ subst (λ (x : Pair). place (get (k.row x.user)) x.other ≡ Some i) (sym same) e in
        absurd cc
    by_test false t = known p i f e

  -- keys stay where they stand
  pub stay : (k : Kept) (u : User) (r : UserRow) → ((q : User) (i : ℕ) → place (get (k.row u)) q ≡ Some i → place (get r) q ≡ Some i)
      → (p : Pair) (i : ℕ) → place (get (k.row p.user)) p.other ≡ Some i → place (get ((with_row k u r).row p.user)) p.other ≡ Some i
  stay k u r h p i e = by_test (same_user u p.user) refl where
    by_test : (b : Bool) → same_user u p.user ≡ b → place (get (if b then r else k.row p.user)) p.other ≡ Some i
    by_test true t =
        let same : u ≡ p.user = user_exact u p.user ((Equal-is (user_cmp u p.user)).0 t) in
        h p.other i (subst (λ (v : User). place (get (k.row v)) p.other ≡ Some i) (sym same) e)
    by_test false t = e

-- the uses of tags
abbrev pub KnownUses : Kept → List (TagUser × ℕ) → Type 0
KnownUses k ss = (p : TagUser) (i : ℕ) → few ≤ i → use_place (k.row p.user).uses p.tag ≡ Some i → tag_noted ss p ≡ Some i

keep-uses : (k : Kept) (ss : List (TagUser × ℕ)) (u : User) (r : UserRow) → KnownUses k ss
    → ((q : List ℕ) (i : ℕ) → use_place r.uses q ≡ Some i → use_place (k.row u).uses q ≡ Some i) → KnownUses (with_row k u r) ss
keep-uses k ss u r known h p i f e = by_test (same_user u p.user) refl e where
  by_test : (b : Bool) → same_user u p.user ≡ b → use_place (if b then r else k.row p.user).uses p.tag ≡ Some i → tag_noted ss p ≡ Some i
  by_test true t x =
      let same : u ≡ p.user = user_exact u p.user ((Equal-is (user_cmp u p.user)).0 t) in
      known p i f (subst (λ (v : User). use_place (k.row v).uses p.tag ≡ Some i) same (h p.tag i x))
  by_test false t x = known p i f x

and_turned : (a b : Bool) → (a && b) ≡ (b && a)
and_turned true true = refl
and_turned true false = refl
and_turned false true = refl
and_turned false false = refl

put-uses : (k : Kept) (ss ts : List (TagUser × ℕ)) (u : User) (t : List ℕ) (r : UserRow) (n : ℕ) → KnownUses k ss
    → ((q : List ℕ) → use_place r.uses q ≡ cond (same_tag t q) (Some n) (use_place (k.row u).uses q)) → CoversTag ss (tag_user t u) n ts
    → KnownUses (with_row k u r) ts
put-uses k ss ts u t r n known h covers p i f e =
    covers p i f (ap (λ (b : Bool). cond b (Some n) (tag_noted ss p)) (both (tag_cmp t p.tag) (user_cmp u p.user)
    ∙ and_turned (same_tag t p.tag) (same_user u p.user)) ∙ by_test (same_user u p.user) refl e) where
      by_test : (b : Bool) → same_user u p.user ≡ b → use_place (if b then r else k.row p.user).uses p.tag ≡ Some i
          → cond (b && same_tag t p.tag) (Some n) (tag_noted ss p) ≡ Some i
      by_test true z x =
          let same : u ≡ p.user = user_exact u p.user ((Equal-is (user_cmp u p.user)).0 z) in
          chosen (same_tag t p.tag) true n i (use_place (k.row u).uses p.tag) (tag_noted ss p)
          (λ y. known p i f (subst (λ (v : User). use_place (k.row v).uses p.tag ≡ Some i) same y)) (sym (h p.tag) ∙ x)
      by_test false z x = known p i f x

failed-uses : (k : Kept) (ss ts : List (TagUser × ℕ)) (u : User) (t : List ℕ) (n : ℕ) → KnownUses k ss → use_place (k.row u).uses t ≡ None
    → CoversTag ss (tag_user t u) n ts → KnownUses k ts
failed-uses k ss ts u t n known none covers p i f e = covers p i f (by_test (same_tag_user (tag_user t u) p) refl) where
  by_test : (b : Bool) → same_tag_user (tag_user t u) p ≡ b → cond b (Some n) (tag_noted ss p) ≡ Some i
  by_test true z =
      let same : tag_user t u ≡ p = tag_user_same (tag_user t u) p z in
      let bad : None ≡ Some i = sym none ∙ subst (λ (x : TagUser). use_place (k.row x.user).uses x.tag ≡ Some i) (sym same) e in
      absurd cc
  by_test false z = known p i f e

-- the users of tags
abbrev pub KnownUsers : Kept → List (TagUser × ℕ) → Type 0
KnownUsers k ss = (p : TagUser) (i : ℕ) → few ≤ i → user_place (k.users p.tag) p.user ≡ Some i → tag_noted ss p ≡ Some i

put-users : (k : Kept) (ss ts : List (TagUser × ℕ)) (u : User) (t : List ℕ) (us : List User) (n : ℕ) → KnownUsers k ss
    → ((q : User) → user_place us q ≡ cond (same_user u q) (Some n) (user_place (k.users t) q)) → CoversTag ss (tag_user t u) n ts
    → KnownUsers (with_users k t us) ts
put-users k ss ts u t us n known h covers p i f e =
    covers p i f (ap (λ (b : Bool). cond b (Some n) (tag_noted ss p)) (both (tag_cmp t p.tag) (user_cmp u p.user))
    ∙ by_test (same_tag t p.tag) refl e) where
      by_test : (b : Bool) → same_tag t p.tag ≡ b → user_place (if b then us else k.users p.tag) p.user ≡ Some i
          → cond (b && same_user u p.user) (Some n) (tag_noted ss p) ≡ Some i
      by_test true z x =
          let same : t ≡ p.tag = tag_exact t p.tag ((Equal-is (tag_cmp t p.tag)).0 z) in
          chosen (same_user u p.user) true n i (user_place (k.users t) p.user) (tag_noted ss p)
          (λ y. known p i f (subst (λ (v : List ℕ). user_place (k.users v) p.user ≡ Some i) same y)) (sym (h p.user) ∙ x)
      by_test false z x = known p i f x

keep-users : (k : Kept) (ss : List (TagUser × ℕ)) (t : List ℕ) (us : List User) → KnownUsers k ss → us ≡ k.users t
    → KnownUsers (with_users k t us) ss
keep-users k ss t us known same_us p i f e = by_test (same_tag t p.tag) refl e where
  by_test : (b : Bool) → same_tag t p.tag ≡ b → user_place (if b then us else k.users p.tag) p.user ≡ Some i → tag_noted ss p ≡ Some i
  by_test true z x =
      let same : t ≡ p.tag = tag_exact t p.tag ((Equal-is (tag_cmp t p.tag)).0 z) in
      known p i f (sym (ap (λ (xs : List User). user_place xs p.user) (same_us ∙ ap k.users same)) ∙ x)
  by_test false z x = known p i f x

failed-users : (k : Kept) (ss ts : List (TagUser × ℕ)) (u : User) (t : List ℕ) (n : ℕ) → KnownUsers k ss → user_place (k.users t) u ≡ None
    → CoversTag ss (tag_user t u) n ts → KnownUsers k ts
failed-users k ss ts u t n known none covers p i f e = covers p i f (by_test (same_tag_user (tag_user t u) p) refl) where
  by_test : (b : Bool) → same_tag_user (tag_user t u) p ≡ b → cond b (Some n) (tag_noted ss p) ≡ Some i
  by_test true z =
      let same : tag_user t u ≡ p = tag_user_same (tag_user t u) p z in
      let bad : None ≡ Some i = sym none ∙ subst (λ (x : TagUser). user_place (k.users x.tag) x.user ≡ Some i) (sym same) e in
      absurd cc
  by_test false z = known p i f e

-- an operation that put its item in: the index knows the old lists and the new ones
pub indexed-new : (at : Place) (k : Kept) (o : Op) (x y : IndexView) (n : ℕ) → IsIndexed k x → op_place k o ≡ None → n ≡ op_count k o
    → NotesOp x o n y → IsIndexed (done at k o) y × IsIndexed k y
indexed-new at k (op.AddOut u w) x y n h none count covers = (
  subst (IsIndexed (done at k (op.AddOut u w))) (sym covers.1)
      (record {
        out = put half_place (λ r. r.out) k x.out y.out u w (row_applied at (k.row u) (op.AddOut u w)) n h.out
            (λ q. half-push w at (k.row u).out none q ∙ ap (λ (m : ℕ). cond (same_user w q) (Some m) (half_place (k.row u).out q))
            (sym count))
            covers.0;
        inn = keep half_place (λ r. r.inn) k x.inn u (row_applied at (k.row u) (op.AddOut u w)) h.inn (λ q i e. e);
        mentions =
            keep user_place (λ r. r.mentions) k x.mentions u (row_applied at (k.row u) (op.AddOut u w)) h.mentions (λ q i e. e);
        mentioners =
            keep user_place (λ r. r.mentioners) k x.mentioners u (row_applied at (k.row u) (op.AddOut u w)) h.mentioners (λ q i e. e);
        uses = keep-uses k x.uses u (row_applied at (k.row u) (op.AddOut u w)) h.uses (λ q i e. e);
        users = h.users;
      }),
  subst (IsIndexed k) (sym covers.1) (record {
    out = failed half_place (λ r. r.out) k x.out y.out u w n h.out none covers.0;
    inn = h.inn;
    mentions = h.mentions;
    mentioners = h.mentioners;
    uses = h.uses;
    users = h.users;
  }),
)
indexed-new at k (op.AddIn w u) x y n h none count covers = (
  subst (IsIndexed (done at k (op.AddIn w u))) (sym covers.1)
      (record {
        out = keep half_place (λ r. r.out) k x.out w (row_applied at (k.row w) (op.AddIn w u)) h.out (λ q i e. e);
        inn = put half_place (λ r. r.inn) k x.inn y.inn w u (row_applied at (k.row w) (op.AddIn w u)) n h.inn
            (λ q. half-push u at (k.row w).inn none q ∙ ap (λ (m : ℕ). cond (same_user u q) (Some m) (half_place (k.row w).inn q))
            (sym count))
            covers.0;
        mentions = keep user_place (λ r. r.mentions) k x.mentions w (row_applied at (k.row w) (op.AddIn w u)) h.mentions
            (λ q i e. e);
        mentioners = keep user_place (λ r. r.mentioners) k x.mentioners w (row_applied at (k.row w) (op.AddIn w u)) h.mentioners
            (λ q i e. e);
        uses = keep-uses k x.uses w (row_applied at (k.row w) (op.AddIn w u)) h.uses (λ q i e. e);
        users = h.users;
      }),
  subst (IsIndexed k) (sym covers.1) (record {
    out = h.out;
    inn = failed half_place (λ r. r.inn) k x.inn y.inn w u n h.inn none covers.0;
    mentions = h.mentions;
    mentioners = h.mentioners;
    uses = h.uses;
    users = h.users;
  }),
)
indexed-new at k (op.MentionOut u w) x y n h none count covers = (
  subst (IsIndexed (done at k (op.MentionOut u w))) (sym covers.1)
      (record {
        out = keep half_place (λ r. r.out) k x.out u (row_applied at (k.row u) (op.MentionOut u w)) h.out (λ q i e. e);
        inn = keep half_place (λ r. r.inn) k x.inn u (row_applied at (k.row u) (op.MentionOut u w)) h.inn (λ q i e. e);
        mentions =
            put user_place (λ r. r.mentions) k x.mentions y.mentions u w (row_applied at (k.row u) (op.MentionOut u w)) n h.mentions
            (λ q. member-push w (k.row u).mentions none q ∙ ap (λ (m : ℕ). cond (same_user w q) (Some m) (user_place (k.row u).mentions q))
            (sym count)) covers.0;
        mentioners = keep user_place (λ r. r.mentioners) k x.mentioners u
            (row_applied at (k.row u) (op.MentionOut u w)) h.mentioners (λ q i e. e);
        uses = keep-uses k x.uses u (row_applied at (k.row u) (op.MentionOut u w)) h.uses (λ q i e. e);
        users = h.users;
      }),
  subst (IsIndexed k) (sym covers.1) (record {
    out = h.out;
    inn = h.inn;
    mentions = failed user_place (λ r. r.mentions) k x.mentions y.mentions u w n h.mentions none covers.0;
    mentioners = h.mentioners;
    uses = h.uses;
    users = h.users;
  }),
)
indexed-new at k (op.MentionIn w u) x y n h none count covers = (
  subst (IsIndexed (done at k (op.MentionIn w u))) (sym covers.1)
      (record {
        out = keep half_place (λ r. r.out) k x.out w (row_applied at (k.row w) (op.MentionIn w u)) h.out (λ q i e. e);
        inn = keep half_place (λ r. r.inn) k x.inn w (row_applied at (k.row w) (op.MentionIn w u)) h.inn (λ q i e. e);
        mentions =
            keep user_place (λ r. r.mentions) k x.mentions w (row_applied at (k.row w) (op.MentionIn w u)) h.mentions (λ q i e. e);
        mentioners =
            put user_place (λ r. r.mentioners) k x.mentioners y.mentioners w u (row_applied at (k.row w) (op.MentionIn w u)) n h.mentioners
            (λ q. member-push u (k.row w).mentioners none q
            ∙ ap (λ (m : ℕ). cond (same_user u q) (Some m) (user_place (k.row w).mentioners q))
            (sym count)) covers.0;
        uses = keep-uses k x.uses w (row_applied at (k.row w) (op.MentionIn w u)) h.uses (λ q i e. e);
        users = h.users;
      }),
  subst (IsIndexed k) (sym covers.1) (record {
    out = h.out;
    inn = h.inn;
    mentions = h.mentions;
    mentioners = failed user_place (λ r. r.mentioners) k x.mentioners y.mentioners w u n h.mentioners none covers.0;
    uses = h.uses;
    users = h.users;
  }),
)
indexed-new at k (op.DropOut u w) x y n h none count covers = (
  subst (IsIndexed (done at k (op.DropOut u w))) (sym covers)
      (record {
        out = keep half_place (λ r. r.out) k x.out u (row_applied at (k.row u) (op.DropOut u w)) h.out
            (λ q i e. sym (without_half-places w (k.row u).out q) ∙ e);
        inn = keep half_place (λ r. r.inn) k x.inn u
            (row_applied at (k.row u) (op.DropOut u w)) h.inn (λ q i e. e);
        mentions = keep user_place (λ r. r.mentions) k x.mentions u
            (row_applied at (k.row u) (op.DropOut u w)) h.mentions (λ q i e. e);
        mentioners = keep user_place (λ r. r.mentioners) k x.mentioners u
            (row_applied at (k.row u) (op.DropOut u w)) h.mentioners (λ q i e. e);
        uses = keep-uses k x.uses u (row_applied at (k.row u) (op.DropOut u w)) h.uses (λ q i e. e);
        users = h.users;
      }),
  subst (IsIndexed k) (sym covers) h,
)
indexed-new at k (op.DropIn w u) x y n h none count covers = (
  subst (IsIndexed (done at k (op.DropIn w u))) (sym covers)
      (record {
        out = keep half_place (λ r. r.out) k x.out w (row_applied at (k.row w) (op.DropIn w u)) h.out (λ q i e. e);
        inn = keep half_place (λ r. r.inn) k x.inn w (row_applied at (k.row w) (op.DropIn w u)) h.inn
            (λ q i e. sym (without_half-places u (k.row w).inn q) ∙ e);
        mentions = keep user_place (λ r. r.mentions) k x.mentions w
            (row_applied at (k.row w) (op.DropIn w u)) h.mentions (λ q i e. e);
        mentioners = keep user_place (λ r. r.mentioners) k x.mentioners w
            (row_applied at (k.row w) (op.DropIn w u)) h.mentioners (λ q i e. e);
        uses = keep-uses k x.uses w (row_applied at (k.row w) (op.DropIn w u)) h.uses (λ q i e. e);
        users = h.users;
      }),
  subst (IsIndexed k) (sym covers) h,
)
indexed-new at k (op.Said w) x y n h none count covers = (
  subst (IsIndexed (done at k (op.Said w))) (sym covers)
      (record {
        out = keep half_place (λ r. r.out) k x.out w (row_applied at (k.row w) (op.Said w)) h.out (λ q i e. e);
        inn = keep half_place (λ r. r.inn) k x.inn w (row_applied at (k.row w) (op.Said w)) h.inn (λ q i e. e);
        mentions =
            keep user_place (λ r. r.mentions) k x.mentions w (row_applied at (k.row w) (op.Said w)) h.mentions (λ q i e. e);
        mentioners =
            keep user_place (λ r. r.mentioners) k x.mentioners w (row_applied at (k.row w) (op.Said w)) h.mentioners (λ q i e. e);
        uses = keep-uses k x.uses w (row_applied at (k.row w) (op.Said w)) h.uses (λ q i e. e);
        users = h.users;
      }),
  subst (IsIndexed k) (sym covers) h,
)
indexed-new at k (op.Use u t) x y n h none count covers = (
  subst (IsIndexed (done at k (op.Use u t))) (sym covers.1)
      (record {
        out = keep half_place (λ r. r.out) k x.out u (row_applied at (k.row u) (op.Use u t)) h.out (λ q i e. e);
        inn = keep half_place (λ r. r.inn) k x.inn u (row_applied at (k.row u) (op.Use u t)) h.inn (λ q i e. e);
        mentions =
            keep user_place (λ r. r.mentions) k x.mentions u (row_applied at (k.row u) (op.Use u t)) h.mentions (λ q i e. e);
        mentioners =
            keep user_place (λ r. r.mentioners) k x.mentioners u (row_applied at (k.row u) (op.Use u t)) h.mentioners (λ q i e. e);
        uses = put-uses k x.uses y.uses u t (row_applied at (k.row u) (op.Use u t)) n h.uses (λ q. first-push t at (k.row u).uses none q
            ∙ ap (λ (m : ℕ). cond (same_tag t q) (Some m) (use_place (k.row u).uses q)) (sym count)) covers.0;
        users = h.users;
      }),
  subst (IsIndexed k) (sym covers.1) (record {
    out = h.out;
    inn = h.inn;
    mentions = h.mentions;
    mentioners = h.mentioners;
    uses = failed-uses k x.uses y.uses u t n h.uses none covers.0;
    users = h.users;
  }),
)
indexed-new at k (op.TagUse t u) x y n h none count covers = (
  subst (IsIndexed (done at k (op.TagUse t u))) (sym covers.1) (record {
    out = h.out;
    inn = h.inn;
    mentions = h.mentions;
    mentioners = h.mentioners;
    uses = h.uses;
    users = put-users k x.users y.users u t (with_member u (k.users t)) n h.users
        (λ q. member-push u (k.users t) none q ∙ ap (λ (m : ℕ). cond (same_user u q) (Some m) (user_place (k.users t) q)) (sym count))
        covers.0;
  }),
  subst (IsIndexed k) (sym covers.1) (record {
    out = h.out;
    inn = h.inn;
    mentions = h.mentions;
    mentioners = h.mentioners;
    uses = h.uses;
    users = failed-users k x.users y.users u t n h.users none covers.0;
  }),
)

-- an operation whose item was there
pub indexed-there : (at : Place) (k : Kept) (o : Op) (x : IndexView) (j : ℕ) → IsIndexed k x → op_place k o ≡ Some j
    → IsIndexed (done at k o) x
indexed-there at k (op.AddOut u w) x j h there =
    record {
      out = keep half_place (λ r. r.out) k x.out u (row_applied at (k.row u) (op.AddOut u w)) h.out
          (λ q i e. sym (with_half-places w at (k.row u).out j there q) ∙ e);
      inn = keep half_place (λ r. r.inn) k x.inn u
          (row_applied at (k.row u) (op.AddOut u w)) h.inn (λ q i e. e);
      mentions = keep user_place (λ r. r.mentions) k x.mentions u
          (row_applied at (k.row u) (op.AddOut u w)) h.mentions (λ q i e. e);
      mentioners = keep user_place (λ r. r.mentioners) k x.mentioners u
          (row_applied at (k.row u) (op.AddOut u w)) h.mentioners (λ q i e. e);
      uses = keep-uses k x.uses u (row_applied at (k.row u) (op.AddOut u w)) h.uses (λ q i e. e);
      users = h.users;
    }
indexed-there at k (op.AddIn w u) x j h there =
    record {
      out = keep half_place (λ r. r.out) k x.out w (row_applied at (k.row w) (op.AddIn w u)) h.out (λ q i e. e);
      inn = keep half_place (λ r. r.inn) k x.inn w (row_applied at (k.row w) (op.AddIn w u)) h.inn
          (λ q i e. sym (with_half-places u at (k.row w).inn j there q) ∙ e);
      mentions = keep user_place (λ r. r.mentions) k x.mentions w
          (row_applied at (k.row w) (op.AddIn w u)) h.mentions (λ q i e. e);
      mentioners = keep user_place (λ r. r.mentioners) k x.mentioners w
          (row_applied at (k.row w) (op.AddIn w u)) h.mentioners (λ q i e. e);
      uses = keep-uses k x.uses w (row_applied at (k.row w) (op.AddIn w u)) h.uses (λ q i e. e);
      users = h.users;
    }
indexed-there at k (op.MentionOut u w) x j h there =
    record {
      out = keep half_place (λ r. r.out) k x.out u (row_applied at (k.row u) (op.MentionOut u w)) h.out (λ q i e. e);
      inn = keep half_place (λ r. r.inn) k x.inn u (row_applied at (k.row u) (op.MentionOut u w)) h.inn (λ q i e. e);
      mentions =
          keep user_place (λ r. r.mentions) k x.mentions u (row_applied at (k.row u) (op.MentionOut u w)) h.mentions
          (λ q i e. ap (λ (xs : List User). user_place xs q) (with_member-there w (k.row u).mentions (ap is_some there)) ∙ e);
      mentioners =
          keep user_place (λ r. r.mentioners) k x.mentioners u (row_applied at (k.row u) (op.MentionOut u w)) h.mentioners (λ q i e. e);
      uses = keep-uses k x.uses u (row_applied at (k.row u) (op.MentionOut u w)) h.uses (λ q i e. e);
      users = h.users;
    }
indexed-there at k (op.MentionIn w u) x j h there =
    record {
      out = keep half_place (λ r. r.out) k x.out w (row_applied at (k.row w) (op.MentionIn w u)) h.out (λ q i e. e);
      inn = keep half_place (λ r. r.inn) k x.inn w (row_applied at (k.row w) (op.MentionIn w u)) h.inn (λ q i e. e);
      mentions =
          keep user_place (λ r. r.mentions) k x.mentions w (row_applied at (k.row w) (op.MentionIn w u)) h.mentions (λ q i e. e);
      mentioners =
          keep user_place (λ r. r.mentioners) k x.mentioners w (row_applied at (k.row w) (op.MentionIn w u)) h.mentioners
          (λ q i e. ap (λ (xs : List User). user_place xs q) (with_member-there u (k.row w).mentioners (ap is_some there)) ∙ e);
      uses = keep-uses k x.uses w (row_applied at (k.row w) (op.MentionIn w u)) h.uses (λ q i e. e);
      users = h.users;
    }
indexed-there at k (op.DropOut u w) x j h there =
    record {
      out = keep half_place (λ r. r.out) k x.out u (row_applied at (k.row u) (op.DropOut u w)) h.out
          (λ q i e. sym (without_half-places w (k.row u).out q) ∙ e);
      inn = keep half_place (λ r. r.inn) k x.inn u
          (row_applied at (k.row u) (op.DropOut u w)) h.inn (λ q i e. e);
      mentions = keep user_place (λ r. r.mentions) k x.mentions u
          (row_applied at (k.row u) (op.DropOut u w)) h.mentions (λ q i e. e);
      mentioners = keep user_place (λ r. r.mentioners) k x.mentioners u
          (row_applied at (k.row u) (op.DropOut u w)) h.mentioners (λ q i e. e);
      uses = keep-uses k x.uses u (row_applied at (k.row u) (op.DropOut u w)) h.uses (λ q i e. e);
      users = h.users;
    }
indexed-there at k (op.DropIn w u) x j h there =
    record {
      out = keep half_place (λ r. r.out) k x.out w (row_applied at (k.row w) (op.DropIn w u)) h.out (λ q i e. e);
      inn = keep half_place (λ r. r.inn) k x.inn w (row_applied at (k.row w) (op.DropIn w u)) h.inn
          (λ q i e. sym (without_half-places u (k.row w).inn q) ∙ e);
      mentions = keep user_place (λ r. r.mentions) k x.mentions w
          (row_applied at (k.row w) (op.DropIn w u)) h.mentions (λ q i e. e);
      mentioners = keep user_place (λ r. r.mentioners) k x.mentioners w
          (row_applied at (k.row w) (op.DropIn w u)) h.mentioners (λ q i e. e);
      uses = keep-uses k x.uses w (row_applied at (k.row w) (op.DropIn w u)) h.uses (λ q i e. e);
      users = h.users;
    }
indexed-there at k (op.Said w) x j h there = absurd cc
indexed-there at k (op.Use u t) x j h there =
    record {
      out = keep half_place (λ r. r.out) k x.out u (row_applied at (k.row u) (op.Use u t)) h.out (λ q i e. e);
      inn = keep half_place (λ r. r.inn) k x.inn u (row_applied at (k.row u) (op.Use u t)) h.inn (λ q i e. e);
      mentions =
          keep user_place (λ r. r.mentions) k x.mentions u (row_applied at (k.row u) (op.Use u t)) h.mentions (λ q i e. e);
      mentioners =
          keep user_place (λ r. r.mentioners) k x.mentioners u (row_applied at (k.row u) (op.Use u t)) h.mentioners (λ q i e. e);
      uses = keep-uses k x.uses u (row_applied at (k.row u) (op.Use u t)) h.uses
          (λ q i e. ap (λ (xs : List Use). use_place xs q) (with_first-there t at (k.row u).uses (ap is_some there)) ∙ e);
      users = h.users;
    }
indexed-there at k (op.TagUse t u) x j h there = record {
  out = h.out;
  inn = h.inn;
  mentions = h.mentions;
  mentioners = h.mentioners;
  uses = h.uses;
  users = keep-users k x.users t (with_member u (k.users t)) h.users
      (sym (with_member-there u (k.users t) (ap is_some there)));
}

-- what the index says of an operation's item is a hint
pub indexed-hint : (k : Kept) (o : Op) (x : IndexView) → IsIndexed k x → IsOpHint k o (index_hint x o)
indexed-hint k (op.AddOut u w) x h = λ i f e. h.out (pair u w) i f e
indexed-hint k (op.AddIn w u) x h = λ i f e. h.inn (pair w u) i f e
indexed-hint k (op.DropOut u w) x h = λ i f e. h.out (pair u w) i f e
indexed-hint k (op.DropIn w u) x h = λ i f e. h.inn (pair w u) i f e
indexed-hint k (op.MentionOut u w) x h = λ i f e. h.mentions (pair u w) i f e
indexed-hint k (op.MentionIn w u) x h = λ i f e. h.mentioners (pair w u) i f e
indexed-hint k (op.Said w) x h = λ i f e. absurd cc
indexed-hint k (op.Use u t) x h = λ i f e. h.uses (tag_user t u) i f e
indexed-hint k (op.TagUse t u) x h = λ i f e. h.users (tag_user t u) i f e

-- an index that was told of an operation's item, or had it
pub ready-new : (k : Kept) (o : Op) (x y : IndexView) (n : ℕ) → IsIndexed k x → op_place k o ≡ None → n ≡ op_count k o → NotesOp x o n y
    → IsReady k o y
ready-new k o x y n h none count notes = record {
  after = λ at. (indexed-new at k o x y n h none count notes).0;
  before = (indexed-new (record { epoch = record { 0 = 0 }; ingest = record { 0 = 0 }; number = 0 }) k o x y n h none count notes).1;
}

pub ready-there : (k : Kept) (o : Op) (x : IndexView) (some : is_some (op_place k o) ≡ true) → IsIndexed k x → IsReady k o x
ready-there k o x some h = record { after = by_case (op_place k o) refl some; before = h } where
  by_case : (a : Option ℕ) → op_place k o ≡ a → is_some a ≡ true → (at : Place) → IsIndexed (done at k o) x
  by_case None e t = absurd cc
  by_case (Some j) e t = λ at. indexed-there at k o x j h e
