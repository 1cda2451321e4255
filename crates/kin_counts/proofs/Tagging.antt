-- Tags that get users one after the other get them together.
use Rattle.std.proofs.Common.{◌≡◌, ◌<◌, ◌+◌, ◌∙◌, ◌&&◌, ℕ, Bool, true, false, cond, eqb, nat_lt, List, [], length, take, get_or, count_by, refl, sym, ap, subst, arith, ◌≤◌}
use Rattle.std.specs.List.{sum_by}
use Rattle.std.proofs.lemmas.Bool.{lt-ltb, ne_eqb}
use Rattle.std.proofs.lemmas.List.{take_all}
use Rattle.std.proofs.lemmas.List.Sums.{sum_by_more}
use Rattle.kin_ids.specs.Users.{same_tag}
use Rattle.kin_ids.proofs.Same.{same_tag-true}
use Rattle.kin_store.specs.declared.pairs.TagUser.{TagUser}
use Rattle.kin_graph.specs.Deltas.{DeltaLists}
use Rattle.kin_changes.specs.Told.{tag_more}
use Rattle.kin_rules.specs.ResultChanges.{SetsTag}
use Rattle.kin_rules.specs.Results.{ResultView, has_tag, tag_users_in, expo_in}
use Rattle.kin_counts.specs.Changes.{raised, RaisesTags}
use Rattle.kin_counts.proofs.Moving.{raised-twice, raised-above}

abbrev with-tags : ResultView → ResultView → ResultView
with-tags r old = record r { tags = old.tags; tag_users = old.tag_users; expos = old.expos }

same-both : (b : Bool) (n : ℕ) → n ≡ cond b n n
same-both true n = refl
same-both false n = refl

pub tags-nothing : (a : ResultView) → RaisesTags a (λ t. 0) a
tags-nothing a = record { tags = λ t. refl; numbers = λ t. same-both (has_tag a.tags t) (tag_users_in a t); expos = λ t. refl; rest = refl }

pub tags-alike : (a c : ResultView) (more other : List ℕ → ℕ) → ((t : List ℕ) → more t ≡ other t) → RaisesTags a more c
    → RaisesTags a other c
tags-alike a c more other same m = record {
  tags = m.tags;
  numbers = λ t. m.numbers t ∙ ap (λ (k : ℕ). cond (has_tag a.tags t) (raised k (tag_users_in a t)) (tag_users_in a t)) (same t);
  expos = m.expos;
  rest = m.rest;
}

pub tags-twice : (a b c : ResultView) (f g : List ℕ → ℕ) → RaisesTags a f b → RaisesTags b g c → RaisesTags a (λ t. f t + g t) c
tags-twice a b c f g first second = record {
  tags = λ t. second.tags t ∙ first.tags t;
  numbers = λ t. second.numbers t ∙ (ap (λ (there : Bool). cond there (raised (g t) (tag_users_in b t)) (tag_users_in b t))
      (first.tags t) ∙ joined t (has_tag a.tags t) (tag_users_in b t) (first.numbers t));
  expos = λ t. second.expos t ∙ first.expos t;
  rest = ap (λ (r : ResultView). with-tags r a) second.rest ∙ first.rest;
} where
  joined : (t : List ℕ) (there : Bool) (n : ℕ) → n ≡ cond there (raised (f t) (tag_users_in a t)) (tag_users_in a t)
      → cond there (raised (g t) n) n ≡ cond there (raised (f t + g t) (tag_users_in a t)) (tag_users_in a t)
  joined t true n e = ap (raised (g t)) e ∙ raised-twice (f t) (g t) (tag_users_in a t)
  joined t false n e = e

abbrev one-tag : List ℕ → List ℕ → ℕ
one-tag t s = cond (same_tag s t) 1 0

-- a tag in use has one user more
pub tags-one : (a c : ResultView) (t : List ℕ) (n : ℕ) → has_tag a.tags t ≡ true → n ≡ raised 1 (tag_users_in a t) → SetsTag a t n c
    → RaisesTags a (one-tag t) c
tags-one a c t n there is set = record {
  tags = λ s. set.tags s ∙ tag-test s (same_tag s t) refl;
  numbers = λ s. set.number s ∙ number-test s (same_tag s t) refl;
  expos = λ s. set.expo s ∙ expo-test s (same_tag s t);
  rest = set.rest;
} where
  some : 0 < n
  some = subst (λ (m : ℕ). 0 < m) (sym is) (raised-above 1 (tag_users_in a t) (omega arith))

  has-there : (s : List ℕ) → same_tag s t ≡ true → has_tag a.tags s ≡ true
  has-there s e = ap (has_tag a.tags) (same_tag-true s t e) ∙ there

  tag-test : (s : List ℕ) (b : Bool) → same_tag s t ≡ b → cond b (nat_lt 0 n) (has_tag a.tags s) ≡ has_tag a.tags s
  tag-test s true e = lt-ltb 0 n some ∙ sym (has-there s e)
  tag-test s false e = refl

  number-test : (s : List ℕ) (b : Bool) → same_tag s t ≡ b → cond b n (tag_users_in a s)
      ≡ cond (has_tag a.tags s) (raised (cond b 1 0) (tag_users_in a s)) (tag_users_in a s)
  number-test s true e = is ∙ (ap (λ (r : List ℕ). raised 1 (tag_users_in a r)) (sym (same_tag-true s t e)) ∙ rw (has-there s e) refl)
  number-test s false e = same-both (has_tag a.tags s) (tag_users_in a s)

  expo-test : (s : List ℕ) (b : Bool) → cond (b && eqb n 0) [] (expo_in a s) ≡ expo_in a s
  expo-test s true = rw (ne_eqb n 0 (λ e. absurd (omega (arith, e, some)))) refl
  expo-test s false = refl

pub tags-none : (a : ResultView) (t : List ℕ) → has_tag a.tags t ≡ false → RaisesTags a (one-tag t) a
tags-none a t away = record { tags = λ s. refl; numbers = λ s. by_test s (same_tag s t) refl; expos = λ s. refl; rest = refl } where
  by_test : (s : List ℕ) (b : Bool) → same_tag s t ≡ b → tag_users_in a s
      ≡ cond (has_tag a.tags s) (raised (cond b 1 0) (tag_users_in a s)) (tag_users_in a s)
  by_test s true e = let out : has_tag a.tags s ≡ false = ap (has_tag a.tags) (same_tag-true s t e) ∙ away in rw out refl
  by_test s false e = same-both (has_tag a.tags s) (tag_users_in a s)

-- rows of tags
module _ {Y : Type 0} (key : Y → List ℕ) (ys : List Y) (i : ℕ) (a : ResultView) where
  abbrev sums : List Y → List ℕ → ℕ
  sums zs t = sum_by (λ y. cond (same_tag t (key y)) 1 0) zs

  pub tags-next : (b c : ResultView) (y : Y) → i < length ys → y ≡ get_or ys i y → RaisesTags a (sums (take i ys)) b
      → RaisesTags b (one-tag (key y)) c → RaisesTags a (sums (take (i + 1) ys)) c
  tags-next b c y lt is sofar one =
      tags-alike a c (λ t. sums (take i ys) t + one-tag (key y) t) (sums (take (i + 1) ys))
      (λ t. ap (λ (z : Y). sums (take i ys) t + one-tag (key z) t) is ∙ sym (sum_by_more (λ z. cond (same_tag t (key z)) 1 0) ys i y lt))
      (tags-twice a b c (sums (take i ys)) (one-tag (key y)) sofar one)

  pub tags-last : (b : ResultView) → length ys ≤ i → RaisesTags a (sums (take i ys)) b → RaisesTags a (sums ys) b
  tags-last b past m = subst (λ (zs : List Y). RaisesTags a (sums zs) b) (take_all i ys past) m

-- what deltas tell of tags, one after the other
module _ (ds : List DeltaLists) (i : ℕ) where
  abbrev rows_of : List ℕ → DeltaLists → ℕ
  rows_of t d = count_by (λ (x : TagUser). same_tag t x.tag) d.tag_users

  pub tag-deltas-next : (d : DeltaLists) → i < length ds → d ≡ get_or ds i d → (a b c : ResultView)
      → RaisesTags a (tag_more (take i ds)) b → RaisesTags b (λ t. rows_of t d) c → RaisesTags a (tag_more (take (i + 1) ds)) c
  tag-deltas-next d lt is a b c sofar one =
      tags-alike a c (λ t. tag_more (take i ds) t + rows_of t d) (tag_more (take (i + 1) ds))
      (λ t. ap (λ (x : DeltaLists). tag_more (take i ds) t + rows_of t x) is ∙ sym (sum_by_more (rows_of t) ds i d lt))
      (tags-twice a b c (tag_more (take i ds)) (λ t. rows_of t d) sofar one)

  pub tag-deltas-last : (a b : ResultView) → length ds ≤ i → RaisesTags a (tag_more (take i ds)) b → RaisesTags a (tag_more ds) b
  tag-deltas-last a b past m = subst (λ (xs : List DeltaLists). RaisesTags a (tag_more xs) b) (take_all i ds past) m
