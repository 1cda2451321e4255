-- A partition's operations take its share of all users and tags to its share afterwards.
use Rattle.std.proofs.Common.{◌≡◌, ℕ, ◌+◌, Bool, true, false, cond, eqb, List, [], ◌∷◌, ◌++◌, refl, sym, ap, subst}
use Rattle.std.specs.Prelude.{filter, IsPermutation}
use Rattle.std.specs.List.{list_any}
use Rattle.std.proofs.lemmas.Bool.{cond_both}
use Rattle.std.proofs.lemmas.List.Sorted.{IsPermutation-refl, IsPermutation-append_left, list_any-IsPermutation}
use Rattle.kin_ids.specs.Types.{User, Place, Half, Use, Op, Numbered}
use Rattle.kin_ids.specs.declared.ops.Op.TheVariants as op
use Rattle.kin_ids.specs.Users.{same_user, same_tag, has_user}
use Rattle.kin_ids.specs.Parting.{user_part, tag_part}
use Rattle.kin_ids.specs.Graph.{Graph, applied}
use Rattle.kin_ids.specs.Order.{entries, folded}
use Rattle.kin_ids.specs.Operations.{op_part, record_ops, numbered, all_ops, part_ops, stamp_records}
use Rattle.kin_ids.specs.Parts.{PartView, IsPart, if_here, count_here, with_half, without_half, with_member, with_first, changed, changed_tag, op_applied, ops_applied}
use Rattle.kin_ids.specs.PartLaws.{EmptyLaw, RecordLaw, PartLaw, PiecesLaw}
use Rattle.kin_ids.proofs.Same.{same_user-true, same_tag-true}
use Rattle.kin_ids.proofs.Whole.{whole, record-whole, all-whole}

-- one list among those of a part, and the change of it
module _ {K X : Type 0} (same : K → K → Bool) (tells : (a b : K) → same a b ≡ true → a ≡ b) (keep : Bool → X → X) (off : (x y : X) → keep false x ≡ keep false y) (on : (x : X) → keep true x ≡ x)
    (R : X → X → Type 0) (F : X → X) (keeps : (x y : X) → R x y → R (F x) (F y)) (here : K → Bool) (f v : K → X) (h : (a : K) → R (v a) (keep (here a) (f a))) (u : K) where
  -- the key lives here
  changed-here : here u ≡ true → (a : K) → R (cond (same u a) (F (v u)) (v a)) (keep (here a) (cond (same u a) (F (f u)) (f a)))
  changed-here yes_here a = go (same u a) refl
    where
      go : (b : Bool) → same u a ≡ b → R (cond b (F (v u)) (v a)) (keep (here a) (cond b (F (f u)) (f a)))
      go true t = subst (λ x. R (F (v u)) (keep (here x) (F (f u)))) (tells u a t)
          (subst (λ b. R (F (v u)) (keep b (F (f u)))) (sym yes_here) (subst (R (F (v u))) (sym (on (F (f u)))) (keeps (v u) (f u) (subst (R (v u)) (on (f u)) (subst (λ b. R (v u) (keep b (f u))) yes_here (h u))))))
      go false t = h a

  -- it lives elsewhere
  changed-there : here u ≡ false → (a : K) → R (v a) (keep (here a) (cond (same u a) (F (f u)) (f a)))
  changed-there not_here a = go (same u a) refl
    where
      go : (b : Bool) → same u a ≡ b → R (v a) (keep (here a) (cond b (F (f u)) (f a)))
      go true t = subst (λ x. R (v x) (keep (here x) (F (f u)))) (tells u a t)
          (subst (λ b. R (v u) (keep b (F (f u)))) (sym not_here) (subst (R (v u)) (off (f u) (F (f u))) (subst (λ b. R (v u) (keep b (f u))) not_here (h u))))
      go false t = h a

-- members both ways, each once
member-keeps : (w : User) (xs ys : List User) → IsPermutation xs ys → IsPermutation (with_member w xs) (with_member w ys)
member-keeps w xs ys h = go (has_user ys w) (list_any-IsPermutation (same_user w) xs ys h)
  where
    go : (b : Bool) → has_user xs w ≡ b → IsPermutation (cond (has_user xs w) xs (xs ++ w ∷ [])) (cond b ys (ys ++ w ∷ []))
    go true t = rw t h
    go false t = rw t (IsPermutation-append_left (w ∷ []) xs ys h)

first-keeps : (t : List ℕ) (at : Place) (xs ys : List Use) → IsPermutation xs ys → IsPermutation (with_first t at xs) (with_first t at ys)
first-keeps t at xs ys h = go (list_any (λ (x : Use). same_tag t x.tag) ys) (list_any-IsPermutation (λ (x : Use). same_tag t x.tag) xs ys h)
  where
    go : (b : Bool) → list_any (λ (x : Use). same_tag t x.tag) xs ≡ b → IsPermutation (cond (list_any (λ (x : Use). same_tag t x.tag) xs) xs (xs ++ record { tag = t; first = at } ∷ [])) (cond b ys (ys ++ record { tag = t; first = at } ∷ []))
    go true e = rw e h
    go false e = rw e (IsPermutation-append_left (record { tag = t; first = at } ∷ []) xs ys h)

-- a partition's share of what all parts hand out
record IsShare (parts p : ℕ) (w v : PartView) : Type 0 where
  out : (u : User) → v.out u ≡ if_here (eqb (user_part parts u) p) (w.out u)
  inn : (u : User) → v.inn u ≡ if_here (eqb (user_part parts u) p) (w.inn u)
  mentions : (u : User) → IsPermutation (v.mentions u) (if_here (eqb (user_part parts u) p) (w.mentions u))
  mentioners : (u : User) → IsPermutation (v.mentioners u) (if_here (eqb (user_part parts u) p) (w.mentioners u))
  said : (u : User) → v.said u ≡ count_here (eqb (user_part parts u) p) (w.said u)
  uses : (u : User) → IsPermutation (v.uses u) (if_here (eqb (user_part parts u) p) (w.uses u))
  tag_users : (t : List ℕ) → IsPermutation (v.tag_users t) (if_here (eqb (tag_part parts t) p) (w.tag_users t))

module _ (parts p : ℕ) where
  halves-on : (F : List Half → List Half) (f v : User → List Half) → ((u : User) → v u ≡ if_here (eqb (user_part parts u) p) (f u)) → (u : User) → eqb (user_part parts u) p ≡ true →
      (a : User) → changed v u (F (v u)) a ≡ if_here (eqb (user_part parts a) p) (changed f u (F (f u)) a)
  halves-on F f v h u = changed-here same_user same_user-true if_here (λ x y. refl) (λ x. refl) (λ x y. x ≡ y) F (λ x y. ap F) (λ a. eqb (user_part parts a) p) f v h u

  halves-off : (F : List Half → List Half) (f v : User → List Half) → ((u : User) → v u ≡ if_here (eqb (user_part parts u) p) (f u)) → (u : User) → eqb (user_part parts u) p ≡ false →
      (a : User) → v a ≡ if_here (eqb (user_part parts a) p) (changed f u (F (f u)) a)
  halves-off F f v h u = changed-there same_user same_user-true if_here (λ x y. refl) (λ x. refl) (λ x y. x ≡ y) F (λ x y. ap F) (λ a. eqb (user_part parts a) p) f v h u

  members-on : {A : Type 0} (F : List A → List A) → ((xs ys : List A) → IsPermutation xs ys → IsPermutation (F xs) (F ys)) → (f v : User → List A) → ((u : User) → IsPermutation (v u) (if_here (eqb (user_part parts u) p) (f u))) →
      (u : User) → eqb (user_part parts u) p ≡ true → (a : User) → IsPermutation (changed v u (F (v u)) a) (if_here (eqb (user_part parts a) p) (changed f u (F (f u)) a))
  members-on F keeps f v h u = changed-here same_user same_user-true if_here (λ x y. refl) (λ x. refl) IsPermutation F keeps (λ a. eqb (user_part parts a) p) f v h u

  members-off : {A : Type 0} (F : List A → List A) → ((xs ys : List A) → IsPermutation xs ys → IsPermutation (F xs) (F ys)) → (f v : User → List A) → ((u : User) → IsPermutation (v u) (if_here (eqb (user_part parts u) p) (f u))) →
      (u : User) → eqb (user_part parts u) p ≡ false → (a : User) → IsPermutation (v a) (if_here (eqb (user_part parts a) p) (changed f u (F (f u)) a))
  members-off F keeps f v h u = changed-there same_user same_user-true if_here (λ x y. refl) (λ x. refl) IsPermutation F keeps (λ a. eqb (user_part parts a) p) f v h u

  -- one field changed
  set_out : (w v : PartView) → IsShare parts p w v → (all now : User → List Half) → ((u : User) → now u ≡ if_here (eqb (user_part parts u) p) (all u)) → IsShare parts p (record w { out = all }) (record v { out = now })
  set_out w v s all now h = record { out = h; inn = s.inn; mentions = s.mentions; mentioners = s.mentioners; said = s.said; uses = s.uses; tag_users = s.tag_users }

  set_inn : (w v : PartView) → IsShare parts p w v → (all now : User → List Half) → ((u : User) → now u ≡ if_here (eqb (user_part parts u) p) (all u)) → IsShare parts p (record w { inn = all }) (record v { inn = now })
  set_inn w v s all now h = record { out = s.out; inn = h; mentions = s.mentions; mentioners = s.mentioners; said = s.said; uses = s.uses; tag_users = s.tag_users }

  set_mentions : (w v : PartView) → IsShare parts p w v → (all now : User → List User) → ((u : User) → IsPermutation (now u) (if_here (eqb (user_part parts u) p) (all u))) → IsShare parts p (record w { mentions = all }) (record v { mentions = now })
  set_mentions w v s all now h = record { out = s.out; inn = s.inn; mentions = h; mentioners = s.mentioners; said = s.said; uses = s.uses; tag_users = s.tag_users }

  set_mentioners : (w v : PartView) → IsShare parts p w v → (all now : User → List User) → ((u : User) → IsPermutation (now u) (if_here (eqb (user_part parts u) p) (all u))) → IsShare parts p (record w { mentioners = all }) (record v { mentioners = now })
  set_mentioners w v s all now h = record { out = s.out; inn = s.inn; mentions = s.mentions; mentioners = h; said = s.said; uses = s.uses; tag_users = s.tag_users }

  set_said : (w v : PartView) → IsShare parts p w v → (all now : User → ℕ) → ((u : User) → now u ≡ count_here (eqb (user_part parts u) p) (all u)) → IsShare parts p (record w { said = all }) (record v { said = now })
  set_said w v s all now h = record { out = s.out; inn = s.inn; mentions = s.mentions; mentioners = s.mentioners; said = h; uses = s.uses; tag_users = s.tag_users }

  set_uses : (w v : PartView) → IsShare parts p w v → (all now : User → List Use) → ((u : User) → IsPermutation (now u) (if_here (eqb (user_part parts u) p) (all u))) → IsShare parts p (record w { uses = all }) (record v { uses = now })
  set_uses w v s all now h = record { out = s.out; inn = s.inn; mentions = s.mentions; mentioners = s.mentioners; said = s.said; uses = h; tag_users = s.tag_users }

  set_tag_users : (w v : PartView) → IsShare parts p w v → (all now : List ℕ → List User) → ((t : List ℕ) → IsPermutation (now t) (if_here (eqb (tag_part parts t) p) (all t))) → IsShare parts p (record w { tag_users = all }) (record v { tag_users = now })
  set_tag_users w v s all now h = record { out = s.out; inn = s.inn; mentions = s.mentions; mentioners = s.mentioners; said = s.said; uses = s.uses; tag_users = h }

  -- an operation of this partition
  share-on : (at : Place) (w v : PartView) (o : Op) → eqb (op_part parts o) p ≡ true → IsShare parts p w v → IsShare parts p (op_applied at w o) (op_applied at v o)
  share-on at w v (op.AddOut u x) e s = set_out w v s (changed w.out u (with_half x at (w.out u))) (changed v.out u (with_half x at (v.out u))) (halves-on (with_half x at) w.out v.out s.out u e)
  share-on at w v (op.AddIn u x) e s = set_inn w v s (changed w.inn u (with_half x at (w.inn u))) (changed v.inn u (with_half x at (v.inn u))) (halves-on (with_half x at) w.inn v.inn s.inn u e)
  share-on at w v (op.DropOut u x) e s = set_out w v s (changed w.out u (without_half x (w.out u))) (changed v.out u (without_half x (v.out u))) (halves-on (without_half x) w.out v.out s.out u e)
  share-on at w v (op.DropIn u x) e s = set_inn w v s (changed w.inn u (without_half x (w.inn u))) (changed v.inn u (without_half x (v.inn u))) (halves-on (without_half x) w.inn v.inn s.inn u e)
  share-on at w v (op.MentionOut u x) e s = set_mentions w v s (changed w.mentions u (with_member x (w.mentions u))) (changed v.mentions u (with_member x (v.mentions u))) (members-on (with_member x) (member-keeps x) w.mentions v.mentions s.mentions u e)
  share-on at w v (op.MentionIn u x) e s = set_mentioners w v s (changed w.mentioners u (with_member x (w.mentioners u))) (changed v.mentioners u (with_member x (v.mentioners u))) (members-on (with_member x) (member-keeps x) w.mentioners v.mentioners s.mentioners u e)
  share-on at w v (op.Said u) e s = set_said w v s (changed w.said u (w.said u + 1)) (changed v.said u (v.said u + 1)) (changed-here same_user same_user-true count_here (λ x y. refl) (λ x. refl) (λ x y. x ≡ y) (λ n. n + 1) (λ x y. ap (λ (n : ℕ). n + 1)) (λ a. eqb (user_part parts a) p) w.said v.said s.said u e)
  share-on at w v (op.Use u t) e s = set_uses w v s (changed w.uses u (with_first t at (w.uses u))) (changed v.uses u (with_first t at (v.uses u))) (members-on (with_first t at) (first-keeps t at) w.uses v.uses s.uses u e)
  share-on at w v (op.TagUse t u) e s = set_tag_users w v s (changed_tag w.tag_users t (with_member u (w.tag_users t))) (changed_tag v.tag_users t (with_member u (v.tag_users t))) (changed-here same_tag same_tag-true if_here (λ x y. refl) (λ x. refl) IsPermutation (with_member u) (member-keeps u) (λ a. eqb (tag_part parts a) p) w.tag_users v.tag_users s.tag_users t e)

  -- an operation of another one
  share-off : (at : Place) (w v : PartView) (o : Op) → eqb (op_part parts o) p ≡ false → IsShare parts p w v → IsShare parts p (op_applied at w o) v
  share-off at w v (op.AddOut u x) e s = set_out w v s (changed w.out u (with_half x at (w.out u))) v.out (halves-off (with_half x at) w.out v.out s.out u e)
  share-off at w v (op.AddIn u x) e s = set_inn w v s (changed w.inn u (with_half x at (w.inn u))) v.inn (halves-off (with_half x at) w.inn v.inn s.inn u e)
  share-off at w v (op.DropOut u x) e s = set_out w v s (changed w.out u (without_half x (w.out u))) v.out (halves-off (without_half x) w.out v.out s.out u e)
  share-off at w v (op.DropIn u x) e s = set_inn w v s (changed w.inn u (without_half x (w.inn u))) v.inn (halves-off (without_half x) w.inn v.inn s.inn u e)
  share-off at w v (op.MentionOut u x) e s = set_mentions w v s (changed w.mentions u (with_member x (w.mentions u))) v.mentions (members-off (with_member x) (member-keeps x) w.mentions v.mentions s.mentions u e)
  share-off at w v (op.MentionIn u x) e s = set_mentioners w v s (changed w.mentioners u (with_member x (w.mentioners u))) v.mentioners (members-off (with_member x) (member-keeps x) w.mentioners v.mentioners s.mentioners u e)
  share-off at w v (op.Said u) e s = set_said w v s (changed w.said u (w.said u + 1)) v.said (changed-there same_user same_user-true count_here (λ x y. refl) (λ x. refl) (λ x y. x ≡ y) (λ n. n + 1) (λ x y. ap (λ (n : ℕ). n + 1)) (λ a. eqb (user_part parts a) p) w.said v.said s.said u e)
  share-off at w v (op.Use u t) e s = set_uses w v s (changed w.uses u (with_first t at (w.uses u))) v.uses (members-off (with_first t at) (first-keeps t at) w.uses v.uses s.uses u e)
  share-off at w v (op.TagUse t u) e s = set_tag_users w v s (changed_tag w.tag_users t (with_member u (w.tag_users t))) v.tag_users (changed-there same_tag same_tag-true if_here (λ x y. refl) (λ x. refl) IsPermutation (with_member u) (member-keeps u) (λ a. eqb (tag_part parts a) p) w.tag_users v.tag_users s.tag_users t e)

  share-ops : (e i : ℕ) (w v : PartView) (xs : List Numbered) → IsShare parts p w v → IsShare parts p (ops_applied e i w xs) (ops_applied e i v (filter (λ (x : Numbered). eqb (op_part parts x.op) p) xs))
  share-ops e i w v [] s = s
  share-ops e i w v (x ∷ xs) s =
      let at : Place = record { epoch = record { 0 = e }; ingest = record { 0 = i }; number = x.number } in
      cond_both (eqb (op_part parts x.op) p) (x ∷ filter (λ (y : Numbered). eqb (op_part parts y.op) p) xs) (filter (λ (y : Numbered). eqb (op_part parts y.op) p) xs) (λ ys. IsShare parts p (ops_applied e i (op_applied at w x.op) xs) (ops_applied e i v ys))
      (λ t. share-ops e i (op_applied at w x.op) (op_applied at v x.op) xs (share-on at w v x.op t s))
      (λ n. share-ops e i (op_applied at w x.op) v xs (share-off at w v x.op n s))

  share_of : (g : Graph) (v : PartView) → IsPart parts p g v → IsShare parts p (whole g) v
  share_of g v h = record { out = h.out; inn = h.inn; mentions = h.mentions; mentioners = h.mentioners; said = h.said; uses = h.uses; tag_users = h.tag_users }

  part_of : (g : Graph) (v : PartView) → IsShare parts p (whole g) v → IsPart parts p g v
  part_of g v s = record { out = s.out; inn = s.inn; mentions = s.mentions; mentioners = s.mentioners; said = s.said; uses = s.uses; tag_users = s.tag_users }

pub record-law : RecordLaw
record-law parts p e i n g v r h =
    let at : Place = record { epoch = record { 0 = e }; ingest = record { 0 = i }; number = n } in
    let now = ops_applied e i v (filter (λ (x : Numbered). eqb (op_part parts x.op) p) (numbered n (record_ops r))) in
    part_of parts p (applied at g r) now (subst (λ w. IsShare parts p w now) (record-whole e i n g r) (share-ops parts p e i (whole g) v (numbered n (record_ops r)) (share_of parts p g v h)))

pub part-law : PartLaw
part-law parts p e i n g v rs h =
    let now = ops_applied e i v (part_ops parts p n rs) in
    part_of parts p (folded g (entries e i n rs)) now (subst (λ w. IsShare parts p w now) (all-whole e i n g rs) (share-ops parts p e i (whole g) v (all_ops n rs) (share_of parts p g v h)))

pub pieces-law : PiecesLaw
pieces-law parts e feeds s g views h p lt = part-law parts p e s.ingest.0 s.from g (views p) (stamp_records feeds s) (h p lt)

pub empty-law : EmptyLaw
empty-law parts p = record {
  out = λ u. none (eqb (user_part parts u) p);
  inn = λ u. none (eqb (user_part parts u) p);
  mentions = λ u. no_members (eqb (user_part parts u) p);
  mentioners = λ u. no_members (eqb (user_part parts u) p);
  said = λ u. no_count (eqb (user_part parts u) p);
  uses = λ u. no_members (eqb (user_part parts u) p);
  tag_users = λ t. no_members (eqb (tag_part parts t) p);
}
  where
    none : {A : Type 0} (b : Bool) → [] ≡ if_here {A = A} b []
    none true = refl
    none false = refl

    no_members : {A : Type 0} (b : Bool) → IsPermutation [] (if_here {A = A} b [])
    no_members true = IsPermutation-refl []
    no_members false = IsPermutation-refl []

    no_count : (b : Bool) → 0 ≡ count_here b 0
    no_count true = refl
    no_count false = refl
