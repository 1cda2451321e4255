-- What was told of everything that was touched is the difference, where all else is as it was.
use Rattle.std.proofs.Common.{◌≡◌, ℕ, nat_lt, ◌-◌, ◌&&◌, Bool, true, false, not, List, [], filter, Option, Some, None, is_some, refl}
use Rattle.std.proofs.Common.{sym, ap, ap₂, ◌∙◌, subst, arith}
use Rattle.std.specs.List.Sorted.{IsStrictlySortedBy}
use Rattle.std.proofs.lemmas.Bool.{le-ltb}
use Rattle.kin_ids.specs.declared.ids.User.{User}
use Rattle.kin_ids.specs.declared.ops.Half.{Half}
use Rattle.kin_ids.specs.declared.ops.Use.{Use}
use Rattle.kin_ids.specs.Users.{user_cmp, same_user, same_tag, has_user}
use Rattle.kin_ids.specs.Parts.{PartView}
use Rattle.kin_ids.proofs.Same.{same_user-refl, same_tag-true, same_tag-refl}
use Rattle.kin_store.specs.declared.pairs.Pair.{Pair}
use Rattle.kin_store.specs.declared.pairs.TagUser.{TagUser}
use Rattle.kin_store.specs.Pairs.{pair_cmp, tag_user_cmp, tag_user}
use Rattle.kin_store.proofs.Orders.{user_exact}
use Rattle.kin_store.proofs.Exacts.{pair_exact, tag_user_exact}
use Rattle.kin_graph.specs.declared.deltas.SaidRow.{SaidRow}
use Rattle.kin_graph.specs.declared.deltas.UseRow.{UseRow}
use Rattle.kin_graph.specs.Deltas.{DeltaLists, use_of, is_present, is_new, is_now, is_gone, one_if, same_pair, HasJust, new_use}
use Rattle.kin_graph.specs.Deltas.{pair_in, is_met, IsDelta}
use Rattle.kin_graph.specs.Gathered.{gathered, said_rows, IsFilled, IsNoted}
use Rattle.kin_graph.specs.Touches.{TouchedLists, IsTouched, has_pair, has_tag_user, same_tag_user}
use Rattle.kin_graph.proofs.Picking.{find-passes}
use Rattle.kin_graph.proofs.Gathering.{one-kept, one-dropped, gathered-just}
use Rattle.kin_graph.proofs.Noting.{pair-at, tag_user-at, has_pair-at, has_tag_user-at}
use Rattle.kin_graph.proofs.Determined.{and-not, no-use}

pair-itself : (p : Pair) → same_pair p p ≡ true
pair-itself p = ap₂ (λ (a b : Bool). a && b) (same_user-refl p.user) (same_user-refl p.other)

tag_user-itself : (p : TagUser) → same_tag_user p p ≡ true
tag_user-itself p = ap₂ (λ (a b : Bool). a && b) (same_tag-refl p.tag) (same_user-refl p.user)

-- of ascending pairs those that pass, where no others do
just-pairs : (f : Pair → Bool) (ps : List Pair) → IsStrictlySortedBy pair_cmp ps → ((p : Pair) → has_pair ps p ≡ false → f p ≡ false)
    → HasJust f (gathered (λ p. one_if (f p) p) ps)
just-pairs f ps ascend others p =
    gathered-just pair_exact (λ (q : Pair). one_if (f q) q) (same_pair p) p (one-kept (same_pair p) (f p) p (pair-itself p))
    (λ q t. one-dropped (same_pair p) (f q) q (pair-at p q ∙ t))
    ps ascend (λ t. ap (λ (b : Bool). one_if b p) (others p (has_pair-at ps p ∙ t)))

just-tag_users : (f : TagUser → Bool) (ps : List TagUser) → IsStrictlySortedBy tag_user_cmp ps
    → ((p : TagUser) → has_tag_user ps p ≡ false → f p ≡ false)
    → (p : TagUser) → filter (same_tag_user p) (gathered (λ q. one_if (f q) q) ps) ≡ one_if (f p) p
just-tag_users f ps ascend others p =
    gathered-just tag_user_exact (λ (q : TagUser). one_if (f q) q) (same_tag_user p) p
    (one-kept (same_tag_user p) (f p) p (tag_user-itself p)) (λ q t. one-dropped (same_tag_user p) (f q) q (tag_user-at p q ∙ t))
    ps ascend (λ t. ap (λ (b : Bool). one_if b p) (others p (has_tag_user-at ps p ∙ t)))

just-said : (was is : User → ℕ) (us : List User) → IsStrictlySortedBy user_cmp us → ((u : User) → has_user us u ≡ false → is u ≡ was u)
    → (u : User) → filter (λ (x : SaidRow). same_user u x.user) (gathered (λ v. said_rows (was v) (is v) v) us) ≡ said_rows (was u) (is u) u
just-said was is us ascend others u =
    gathered-just user_exact (λ (v : User). said_rows (was v) (is v) v) q u (one-kept q (nat_lt (was u) (is u)) _ (same_user-refl u))
    (λ v t. one-dropped q (nat_lt (was v) (is v)) _ t)
    us ascend (λ t. ap (λ (n : ℕ). said_rows (was u) n u) (others u t)
    ∙ ap (λ (b : Bool). one_if b (record { user = u; number = was u - was u })) (le-ltb (was u) (was u) (omega arith))) where
      q : SaidRow → Bool
      q x = same_user u x.user

and-turned : (a b : Bool) → (a && b) ≡ (b && a)
and-turned true true = refl
and-turned true false = refl
and-turned false true = refl
and-turned false false = refl

module _ (u : User) (t : List ℕ) where
  abbrev pub of-use : UseRow → Bool
  of-use x = same_user u x.user && same_tag t x.entry.tag

  -- a new use of this tag by this user, and of another one or by another one
  own-use : (a b : Option Use) → ((x : Use) → b ≡ Some x → same_tag t x.tag ≡ true) → filter of-use (new_use u a b) ≡ new_use u a b
  own-use None None found = refl
  own-use (Some y) None found = refl
  own-use (Some y) (Some x) found = refl
  own-use None (Some x) found = rw (ap₂ (λ (b c : Bool). b && c) (same_user-refl u) (found x refl)) refl

  other-use : (v : User) (s : List ℕ) (a b : Option Use) → (same_user u v && same_tag t s) ≡ false → ((x : Use) → b ≡ Some x → s ≡ x.tag)
      → filter of-use (new_use v a b) ≡ []
  other-use v s None None away found = refl
  other-use v s (Some y) None away found = refl
  other-use v s (Some y) (Some x) away found = refl
  other-use v s None (Some x) away found = rw (ap (λ (l : List ℕ). same_user u v && same_tag t l) (sym (found x refl)) ∙ away) refl

just-uses : (was is : User → List Use) (ps : List TagUser) → IsStrictlySortedBy tag_user_cmp ps
    → ((p : TagUser) → has_tag_user ps p ≡ false → use_of (is p.user) p.tag ≡ use_of (was p.user) p.tag)
    → (u : User) (t : List ℕ) → filter (λ (x : UseRow). same_user u x.user && same_tag t x.entry.tag)
    (gathered (λ p. new_use p.user (use_of (was p.user) p.tag) (use_of (is p.user) p.tag)) ps)
    ≡ new_use u (use_of (was u) t) (use_of (is u) t)
just-uses was is ps ascend others u t =
    gathered-just tag_user_exact (λ (p : TagUser). new_use p.user (use_of (was p.user) p.tag) (use_of (is p.user) p.tag)) (of-use u t)
    (tag_user t u)
    (own-use u t (use_of (was u) t) (use_of (is u) t) (find-passes (λ (x : Use). same_tag t x.tag) (is u)))
    (λ p away. other-use u t p.user p.tag (use_of (was p.user) p.tag) (use_of (is p.user) p.tag)
    (and-turned (same_user u p.user) (same_tag t p.tag) ∙ (tag_user-at (tag_user t u) p ∙ away))
    (λ x e. same_tag-true p.tag x.tag (find-passes (λ (y : Use). same_tag p.tag y.tag) (is p.user) x e)))
    ps ascend (λ none. ap (λ (o : Option Use). new_use u (use_of (was u) t) o) (others (tag_user t u) (has_tag_user-at ps (tag_user t u)
    ∙ none)) ∙ sym (no-use u (use_of (was u) t)))

module _ (x : TouchedLists) (was is : PartView) (touched : IsTouched x was is) (ascend : IsNoted x) where
  same-half : (f : Option Half → Option Half → Bool) → ((o : Option Half) → f o o ≡ false) → (a b : Option Half) → b ≡ a → f a b ≡ false
  same-half f none a b e = ap (f a) e ∙ none a

  out-list : (f : Option Half → Option Half → Bool) → ((o : Option Half) → f o o ≡ false)
      → HasJust (λ p. f (pair_in was.out p) (pair_in is.out p)) (gathered (λ p. one_if (f (pair_in was.out p) (pair_in is.out p)) p) x.out)
  out-list f none = just-pairs (λ p. f (pair_in was.out p) (pair_in is.out p)) x.out ascend.out
      (λ p t. same-half f none (pair_in was.out p) (pair_in is.out p) (touched.out p t))

  in-list : (f : Option Half → Option Half → Bool) → ((o : Option Half) → f o o ≡ false)
      → HasJust (λ p. f (pair_in was.inn p) (pair_in is.inn p)) (gathered (λ p. one_if (f (pair_in was.inn p) (pair_in is.inn p)) p) x.inn)
  in-list f none = just-pairs (λ p. f (pair_in was.inn p) (pair_in is.inn p)) x.inn ascend.inn
      (λ p t. same-half f none (pair_in was.inn p) (pair_in is.inn p) (touched.inn p t))

  same-member : (a b : Bool) → b ≡ a → (b && not a) ≡ false
  same-member a b e = ap (λ (c : Bool). c && not a) e ∙ and-not a

  pub delta-exact : (d : DeltaLists) → IsFilled x was is d → IsDelta was is d
  delta-exact d filled = record {
    new_out = subst (HasJust _) (sym filled.new_out) (out-list is_new (λ o. and-not (is_some o)));
    new_in = subst (HasJust _) (sym filled.new_in) (in-list is_new (λ o. and-not (is_some o)));
    now_out = subst (HasJust _) (sym filled.now_out) (out-list is_now (λ o. and-not (is_present o)));
    now_in = subst (HasJust _) (sym filled.now_in) (in-list is_now (λ o. and-not (is_present o)));
    gone_out = subst (HasJust _) (sym filled.gone_out) (out-list is_gone (λ o. and-not (is_present o)));
    gone_in = subst (HasJust _) (sym filled.gone_in) (in-list is_gone (λ o. and-not (is_present o)));
    mention_out = subst (HasJust _) (sym filled.mention_out) (just-pairs (is_met was.mentions is.mentions) x.mentions ascend.mentions
        (λ p t. same-member _ _ (touched.mentions p t)));
    mention_in = subst (HasJust _) (sym filled.mention_in) (just-pairs (is_met was.mentioners is.mentioners) x.mentioners ascend.mentioners
        (λ p t. same-member _ _ (touched.mentioners p t)));
    said = λ u. ap (λ (xs : List SaidRow). filter (λ x. same_user u x.user) xs) filled.said
        ∙ just-said was.said is.said x.said ascend.said touched.said u;
    uses = λ u t. ap (λ (xs : List UseRow). filter (λ x. same_user u x.user && same_tag t x.entry.tag) xs) filled.uses
        ∙ just-uses was.uses is.uses x.uses ascend.uses touched.uses u t;
    tag_users = λ t u. ap (λ (xs : List TagUser). filter (λ x. same_tag t x.tag && same_user u x.user) xs) filled.tag_users
        ∙ just-tag_users (λ p. has_user (is.tag_users p.tag) p.user && not (has_user (was.tag_users p.tag) p.user)) x.tag_users
        ascend.tag_users (λ p s. same-member _ _ (touched.tag_users p s)) (tag_user t u);
  }
