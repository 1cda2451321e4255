-- Notes of what operations are of.
use Rattle.std.proofs.Common.{◌≡◌, ℕ, ◌+◌, ◌<◌, ◌≤◌, ◌&&◌, ◌||◌, Bool, true, false, cond, List, [], ◌∷◌, length, take, get_or, refl}
use Rattle.std.proofs.Common.{sym, ap, ◌∙◌, subst}
use Rattle.std.specs.List.{list_any}
use Rattle.std.specs.BTreeMap.{is_at}
use Rattle.std.specs.Ordering.{is_eq, ordering_then}
use Rattle.std.specs.declared.cmp.Ordering.{Ordering}
use Rattle.std.specs.declared.cmp.Ordering.TheVariants.{Less, Equal, Greater}
use Rattle.std.proofs.lemmas.Bool.{both_ways}
use Rattle.std.proofs.lemmas.List.{take_more, take_all}
use Rattle.std.proofs.lemmas.List.Folds.{list_any-append}
use Rattle.kin_ids.specs.declared.ops.Numbered.{Numbered}
use Rattle.kin_ids.specs.Users.{user_cmp, tag_cmp}
use Rattle.kin_ids.proofs.Same.{list_any-alike}
use Rattle.kin_store.specs.declared.pairs.Pair.{Pair}
use Rattle.kin_store.specs.declared.pairs.TagUser.{TagUser}
use Rattle.kin_graph.specs.Deltas.{same_pair}
use Rattle.kin_store.specs.Pairs.{pair_cmp, tag_user_cmp}
use Rattle.kin_graph.specs.Touches.{TouchedLists, same_tag_user, has_pair, has_tag_user, touches_out, touches_in, touches_mention}
use Rattle.kin_graph.specs.Touches.{touches_mentioner, touches_said, touches_use, touches_tag, KeepsNotes, HasNoted, NotesOp}

both-equal : (a b : Ordering) → (is_eq a && is_eq b) ≡ is_eq (ordering_then a b)
both-equal Less b = refl
both-equal Equal b = refl
both-equal Greater b = refl

pub pair-at : (p q : Pair) → same_pair p q ≡ is_at (pair_cmp p) q
pair-at p q = both-equal (user_cmp p.user q.user) (user_cmp p.other q.other)

pub tag_user-at : (p q : TagUser) → same_tag_user p q ≡ is_at (tag_user_cmp p) q
tag_user-at p q = both-equal (tag_cmp p.tag q.tag) (user_cmp p.user q.user)

-- whether it is among the keys of a set
pub has_pair-at : (ps : List Pair) (p : Pair) → has_pair ps p ≡ list_any (is_at (pair_cmp p)) ps
has_pair-at ps p = list_any-alike (same_pair p) (is_at (pair_cmp p)) ps (pair-at p)

pub has_tag_user-at : (ps : List TagUser) (p : TagUser) → has_tag_user ps p ≡ list_any (is_at (tag_user_cmp p)) ps
has_tag_user-at ps p = list_any-alike (same_tag_user p) (is_at (tag_user_cmp p)) ps (tag_user-at p)

-- what isn't there after something was put in wasn't there before, and isn't what was put in
pub put-kept : (b was is : Bool) → is ≡ cond b true was → is ≡ false → was ≡ false
put-kept true was is e f = absurd (both_ways is f e)
put-kept false was is e f = sym e ∙ f

pub put-other : (b was is : Bool) → is ≡ cond b true was → is ≡ false → b ≡ false
put-other true was is e f = absurd (both_ways is f e)
put-other false was is e f = refl

module _ (old new : List Pair) (a : Pair) (puts : (q : Pair) → list_any (is_at (pair_cmp q)) new ≡ cond (is_at (pair_cmp a) q) true
    (list_any (is_at (pair_cmp q)) old)) (p : Pair) (none : has_pair new p ≡ false) where
  pub pair-kept : has_pair old p ≡ false
  pair-kept = has_pair-at old p ∙ put-kept (is_at (pair_cmp a) p) _ _ (puts p) (sym (has_pair-at new p) ∙ none)

  pub pair-other : same_pair a p ≡ false
  pair-other = pair-at a p ∙ put-other (is_at (pair_cmp a) p) _ _ (puts p) (sym (has_pair-at new p) ∙ none)

module _ (old new : List TagUser) (a : TagUser) (puts : (q : TagUser) → list_any (is_at (tag_user_cmp q)) new
    ≡ cond (is_at (tag_user_cmp a) q) true (list_any (is_at (tag_user_cmp q)) old)) (p : TagUser) (none : has_tag_user new p ≡ false) where
  pub tag_user-kept : has_tag_user old p ≡ false
  tag_user-kept = has_tag_user-at old p ∙ put-kept (is_at (tag_user_cmp a) p) _ _ (puts p) (sym (has_tag_user-at new p) ∙ none)

  pub tag_user-other : same_tag_user a p ≡ false
  tag_user-other = tag_user-at a p ∙ put-other (is_at (tag_user_cmp a) p) _ _ (puts p) (sym (has_tag_user-at new p) ∙ none)

pub keeps-refl : (x : TouchedLists) → KeepsNotes x x
keeps-refl x = record {
  out = λ p e. e;
  inn = λ p e. e;
  mentions = λ p e. e;
  mentioners = λ p e. e;
  said = λ u e. e;
  uses = λ p e. e;
  tag_users = λ p e. e;
}

pub keeps-trans : (x y z : TouchedLists) → KeepsNotes x y → KeepsNotes y z → KeepsNotes x z
keeps-trans x y z k l = record {
  out = λ p e. k.out p (l.out p e);
  inn = λ p e. k.inn p (l.inn p e);
  mentions = λ p e. k.mentions p (l.mentions p e);
  mentioners = λ p e. k.mentioners p (l.mentioners p e);
  said = λ u e. k.said u (l.said u e);
  uses = λ p e. k.uses p (l.uses p e);
  tag_users = λ p e. k.tag_users p (l.tag_users p e);
}

pub noted-none : (ops : List Numbered) (x : TouchedLists) → HasNoted (take 0 ops) x
noted-none ops x = record {
  out = λ p e. refl;
  inn = λ p e. refl;
  mentions = λ p e. refl;
  mentioners = λ p e. refl;
  said = λ u e. refl;
  uses = λ p e. refl;
  tag_users = λ p e. refl;
}

-- one operation more
module _ (ops : List Numbered) (i : ℕ) (x : Numbered) (within : i < length ops) (is : x ≡ get_or ops i x) where
  any-more : (f : Numbered → Bool) → list_any f (take i ops) ≡ false → f x ≡ false → list_any f (take (i + 1) ops) ≡ false
  any-more f none last =
      ap (list_any f) (take_more ops i x within) ∙ (list_any-append f (take i ops) (get_or ops i x ∷ [])
      ∙ neither (list_any f (take i ops)) (f (get_or ops i x)) none (sym (ap f is) ∙ last)) where
        neither : (a b : Bool) → a ≡ false → b ≡ false → (a || (b || false)) ≡ false
        neither true b e f = e
        neither false true e f = f
        neither false false e f = refl

  pub noted-more : (y z : TouchedLists) → HasNoted (take i ops) y → KeepsNotes y z → NotesOp x.op z → HasNoted (take (i + 1) ops) z
  noted-more y z noted kept put = record {
    out = λ p e. any-more (λ o. touches_out o.op p) (noted.out p (kept.out p e)) (put.out p e);
    inn = λ p e. any-more (λ o. touches_in o.op p) (noted.inn p (kept.inn p e)) (put.inn p e);
    mentions = λ p e. any-more (λ o. touches_mention o.op p) (noted.mentions p (kept.mentions p e)) (put.mentions p e);
    mentioners = λ p e. any-more (λ o. touches_mentioner o.op p) (noted.mentioners p (kept.mentioners p e)) (put.mentioners p e);
    said = λ u e. any-more (λ o. touches_said o.op u) (noted.said u (kept.said u e)) (put.said u e);
    uses = λ p e. any-more (λ o. touches_use o.op p) (noted.uses p (kept.uses p e)) (put.uses p e);
    tag_users = λ p e. any-more (λ o. touches_tag o.op p) (noted.tag_users p (kept.tag_users p e)) (put.tag_users p e);
  }

pub noted-end : (ops : List Numbered) (i : ℕ) (x : TouchedLists) → length ops ≤ i → HasNoted (take i ops) x → HasNoted ops x
noted-end ops i x past h = subst (λ (xs : List Numbered). HasNoted xs x) (take_all i ops past) h
