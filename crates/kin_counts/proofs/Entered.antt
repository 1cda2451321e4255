-- What is left where counts are changed by a plan.
use Rattle.std.proofs.Common.{◌≡◌, ◌<◌, ◌≤◌, ◌+◌, ◌^◌, ◌∙◌, ◌||◌, ℕ, Bool, true, false, cond, List, Option, Some, None, length, count_by, get_or, refl, sym, ap, ap₂, subst, arith, MatchOption}
use Rattle.std.specs.List.Sorted.{IsStrictlySortedBy}
use Rattle.std.proofs.lemmas.Bool.{or_parts, not-false}
use Rattle.std.proofs.lemmas.List.Sums.{count_by-le-length}
use Rattle.kin_ids.specs.declared.ids.User.{User}
use Rattle.kin_ids.specs.declared.ops.Half.{Half}
use Rattle.kin_ids.specs.Users.{has_user, user_cmp, tag_cmp}
use Rattle.kin_ids.specs.Parts.{PartView}
use Rattle.kin_store.specs.Rows.{is_none}
use Rattle.kin_graph.specs.Deltas.{DeltaLists}
use Rattle.kin_graph.specs.Views.{is_vertex, is_in_use}
use Rattle.kin_changes.specs.Views.{AreLed}
use Rattle.kin_changes.specs.Told.{pairs_of, said_more, tag_more, are_told, tells_tag}
use Rattle.kin_changes.proofs.Members.{vertices-law}
use Rattle.kin_changes.proofs.Counts.{counts-law, gone-in, gone-out}
use Rattle.kin_rules.specs.declared.numbers.Num.{Num}
use Rattle.kin_rules.specs.declared.numbers.Num.TheVariants as num
use Rattle.kin_rules.specs.Results.{ResultView, number_in, has_tag, tag_users_in, expo_in, hops_in, close_in, landmarks_in, no_column}
use Rattle.kin_counts.specs.Changes.{raised, lowered, Lowers, Raises, RaisesTags, went, came, with_users_of, with_tags_of}
use Rattle.kin_counts.specs.Counts.{IsCountOf, FitsNumbers, KeepsOthers}
use Rattle.kin_counts.specs.Plans.{IsWideWhereNew, IsTagged, IsTaggedWhereNew, users_or}
use Rattle.kin_counts.proofs.Laws.{apart, apart-in, apart-out, none-empty}
use Rattle.kin_counts.proofs.Moving.{raised-fits, lowered-none}

-- who is told of where nobody is new was one of the users
pub all-known : (a b : Bool) → (b ≡ true → a ≡ true) → a ≡ (a || b)
all-known true b known = refl
all-known false true known = known refl
all-known false false known = refl

same-both : (b : Bool) (n : ℕ) → cond b n n ≡ n
same-both true n = refl
same-both false n = refl

-- ---- the users
pub record IsWidened (old : ResultView) (ds : List DeltaLists) (over : List User) (r : ResultView) : Type 0 where
  pub users : r.users ≡ over
  pub all : (u : User) → has_user r.users u ≡ (has_user old.users u || are_told ds u)
  pub ascend : IsStrictlySortedBy user_cmp old.users → IsStrictlySortedBy user_cmp r.users
  pub numbers : (which : Num) (u : User) → number_in r which u ≡ number_in old which u
  pub hops : (i : ℕ) (u : User) → hops_in r i u ≡ hops_in old i u
  pub close : (i : ℕ) (u : User) → close_in r i u ≡ close_in old i u
  pub alone_hops : (i : ℕ) → (get_or r.hops i no_column).others ≡ (get_or old.hops i no_column).others
  pub alone_close : (i : ℕ) → (get_or r.close i no_column).others ≡ (get_or old.close i no_column).others
  pub landmarks : landmarks_in r ≡ landmarks_in old
  pub epoch : r.epoch ≡ old.epoch
  pub tags : r.tags ≡ old.tags
  pub tag_users : r.tag_users ≡ old.tag_users
  pub expos : r.expos ≡ old.expos

pub widened : (old : ResultView) (ds : List DeltaLists) (wide : Option ResultView) → IsWideWhereNew old ds wide
    → IsWidened old ds (users_or wide old.users) (with_users_of wide old)
widened old ds None known = record {
  users = refl;
  all = λ u. all-known (has_user old.users u) (are_told ds u) (known u);
  ascend = λ up. up;
  numbers = λ which u. refl;
  hops = λ i u. refl;
  close = λ i u. refl;
  alone_hops = λ i. refl;
  alone_close = λ i. refl;
  landmarks = refl;
  epoch = refl;
  tags = refl;
  tag_users = refl;
  expos = refl;
}
widened old ds (Some w) is = record {
  users = refl;
  all = is.all;
  ascend = λ up. is.ascend;
  numbers = numbers;
  hops = is.wider.hops;
  close = is.wider.close;
  alone_hops = is.wider.plain_hops;
  alone_close = is.wider.plain_close;
  landmarks = is.wider.landmarks;
  epoch = refl;
  tags = refl;
  tag_users = refl;
  expos = refl;
} where
  numbers : (which : Num) (u : User) → number_in (with_users_of (Some w) old) which u ≡ number_in old which u
  numbers num.In u = is.wider.numbers num.In u
  numbers num.Out u = is.wider.numbers num.Out u
  numbers num.Said u = is.wider.numbers num.Said u
  numbers num.Rank u = is.wider.numbers num.Rank u

-- ---- the tags
pub record IsRetagged (old : ResultView) (ds : List DeltaLists) (mid new : ResultView) : Type 0 where
  pub all : (t : List ℕ) → has_tag new.tags t ≡ (has_tag old.tags t || tells_tag ds t)
  pub numbers : (t : List ℕ) → has_tag new.tags t ≡ true → tag_users_in new t ≡ raised (tag_more ds t) (tag_users_in old t)
  pub others : (t : List ℕ) → has_tag new.tags t ≡ false → tag_users_in old t ≡ 0 → tag_users_in new t ≡ 0
  pub expos : (t : List ℕ) → has_tag old.tags t ≡ true → expo_in new t ≡ expo_in old t
  pub rest : record new { tags = mid.tags; tag_users = mid.tag_users; expos = mid.expos } ≡ mid

module _ (old mid new : ResultView) (ds : List DeltaLists) (same-tags : mid.tags ≡ old.tags) (same-users : mid.tag_users ≡ old.tag_users)
    (same-expos : mid.expos ≡ old.expos) where
  same-number : (t : List ℕ) → tag_users_in mid t ≡ tag_users_in old t
  same-number t = ap₂ (λ (ts : List (List ℕ)) (ns : List ℕ). tag_users_in (record old { tags = ts; tag_users = ns }) t) same-tags same-users

  same-expo : (t : List ℕ) → expo_in mid t ≡ expo_in old t
  same-expo t = ap₂ (λ (ts : List (List ℕ)) (es : List (List _)). expo_in (record old { tags = ts; expos = es }) t) same-tags same-expos

  retagged-none : IsTaggedWhereNew old ds None → RaisesTags mid (tag_more ds) new → IsRetagged old ds mid new
  retagged-none known m = record {
    all = λ t. has t ∙ all-known (has_tag old.tags t) (tells_tag ds t) (known t);
    numbers = λ t there. m.numbers t ∙ (rw (has-mid t ∙ (sym (has t) ∙ there)) (ap (raised (tag_more ds t)) (same-number t)));
    others = λ t away none. m.numbers t ∙ (rw (has-mid t ∙ (sym (has t) ∙ away)) (same-number t ∙ none));
    expos = λ t there. m.expos t ∙ same-expo t;
    rest = m.rest;
  } where
    has-mid : (t : List ℕ) → has_tag mid.tags t ≡ has_tag old.tags t
    has-mid t = ap (λ (ts : List (List ℕ)). has_tag ts t) same-tags

    has : (t : List ℕ) → has_tag new.tags t ≡ has_tag old.tags t
    has t = m.tags t ∙ has-mid t

  retagged-some : (r : ResultView) → IsTagged old ds r → new ≡ with_tags_of r mid → IsRetagged old ds mid new
  retagged-some r is e = subst (IsRetagged old ds mid) (sym e) (record {
    all = is.all;
    numbers = λ t there. is.numbers t ∙ rw there refl;
    others = λ t away none. is.numbers t ∙ rw away refl;
    expos = is.expos;
    rest = refl;
  })

  pub retagged : (tagged : Option ResultView) → IsTaggedWhereNew old ds tagged
      → MatchOption tagged (RaisesTags mid (tag_more ds) new) (λ r. new ≡ with_tags_of r mid) → IsRetagged old ds mid new
  retagged None known m = retagged-none known m
  retagged (Some r) is e = retagged-some r is e

-- ---- all together
pub record IsEntered (old : ResultView) (ds : List DeltaLists) (over : List User) (new : ResultView) : Type 0 where
  pub users : new.users ≡ over
  pub all : (u : User) → has_user new.users u ≡ (has_user old.users u || are_told ds u)
  pub ascend : IsStrictlySortedBy user_cmp old.users → IsStrictlySortedBy user_cmp new.users
  pub numbers : (which : Num) (u : User) → number_in new which u
      ≡ cond (has_user new.users u) (raised (came ds which u) (lowered (went ds which u) (number_in old which u))) (number_in old which u)
  pub tags_ascend : IsStrictlySortedBy tag_cmp new.tags
  pub tags : (t : List ℕ) → has_tag new.tags t ≡ (has_tag old.tags t || tells_tag ds t)
  pub tag_users : (t : List ℕ) → has_tag new.tags t ≡ true → tag_users_in new t ≡ raised (tag_more ds t) (tag_users_in old t)
  pub others : (t : List ℕ) → has_tag new.tags t ≡ false → tag_users_in old t ≡ 0 → tag_users_in new t ≡ 0
  pub keeps : KeepsOthers old new
  pub alone_hops : (i : ℕ) → (get_or new.hops i no_column).others ≡ (get_or old.hops i no_column).others
  pub alone_close : (i : ℕ) → (get_or new.close i no_column).others ≡ (get_or old.close i no_column).others

module _ (old r1 r2 r3 new : ResultView) (ds : List DeltaLists) (over : List User) (w : IsWidened old ds over r1)
    (low : Lowers r1 (went ds) r2) (high : Raises r2 (came ds) r3) where
  -- what neither numbers nor tags have to do with
  low-is : {A : Type 0} (f : ResultView → A) → ((r s : ResultView)
      → f (record r { ins = s.ins; outs = s.outs; said = s.said; ranks = s.ranks }) ≡ f r) → f r2 ≡ f r1
  low-is f free = sym (free r2 r1) ∙ ap f low.rest

  high-is : {A : Type 0} (f : ResultView → A) → ((r s : ResultView)
      → f (record r { ins = s.ins; outs = s.outs; said = s.said; ranks = s.ranks }) ≡ f r) → f r3 ≡ f r2
  high-is f free = sym (free r3 r2) ∙ ap f high.rest

  through : {A : Type 0} (f : ResultView → A) → ((r s : ResultView)
      → f (record r { ins = s.ins; outs = s.outs; said = s.said; ranks = s.ranks }) ≡ f r) → f r3 ≡ f r1
  through f free = high-is f free ∙ low-is f free

  pub mid-tags : r3.tags ≡ old.tags
  mid-tags = through (λ r. r.tags) (λ r s. refl) ∙ w.tags

  pub mid-tag_users : r3.tag_users ≡ old.tag_users
  mid-tag_users = through (λ r. r.tag_users) (λ r s. refl) ∙ w.tag_users

  pub mid-expos : r3.expos ≡ old.expos
  mid-expos = through (λ r. r.expos) (λ r s. refl) ∙ w.expos

  module _ (t : IsRetagged old ds r3 new) (ascend : IsStrictlySortedBy tag_cmp new.tags) where
    last-is : {A : Type 0} (f : ResultView → A) → ((r s : ResultView)
        → f (record r { tags = s.tags; tag_users = s.tag_users; expos = s.expos }) ≡ f r) → f new ≡ f r3
    last-is f free = sym (free new r3) ∙ ap f t.rest

    users-are : new.users ≡ r1.users
    users-are = last-is (λ r. r.users) (λ r s. refl) ∙ through (λ r. r.users) (λ r s. refl)

    number-new : (which : Num) (u : User) → number_in new which u ≡ number_in r3 which u
    number-new num.In u = last-is (λ r. number_in r num.In u) (λ r s. refl)
    number-new num.Out u = last-is (λ r. number_in r num.Out u) (λ r s. refl)
    number-new num.Said u = last-is (λ r. number_in r num.Said u) (λ r s. refl)
    number-new num.Rank u = last-is (λ r. number_in r num.Rank u) (λ r s. refl)

    stepped : (which : Num) (u : User) → number_in new which u
        ≡ cond (has_user new.users u) (raised (came ds which u) (lowered (went ds which u) (number_in old which u)))
        (number_in old which u)
    stepped which u =
        number-new which u
        ∙ (high.numbers which u
        ∙ (ap (λ (us : List User). cond (has_user us u) (raised (came ds which u) (number_in r2 which u)) (number_in r2 which u))
        (low-is (λ r. r.users) (λ r s. refl) ∙ sym users-are)
        ∙ by_test (has_user new.users u) (number_in r2 which u)
        (low.numbers which u ∙ (ap (λ (us : List User). cond (has_user us u) (lowered (went ds which u) (number_in r1 which u))
        (number_in r1 which u)) (sym users-are)
        ∙ ap (λ (n : ℕ). cond (has_user new.users u) (lowered (went ds which u) n) n) (w.numbers which u))))) where
          by_test : (b : Bool) (n : ℕ) → n ≡ cond b (lowered (went ds which u) (number_in old which u)) (number_in old which u)
              → cond b (raised (came ds which u) n) n ≡ cond b
              (raised (came ds which u) (lowered (went ds which u) (number_in old which u))) (number_in old which u)
          by_test true n e = ap (raised (came ds which u)) e
          by_test false n e = e

    rank-same : (u : User) → number_in new num.Rank u ≡ number_in old num.Rank u
    rank-same u = stepped num.Rank u ∙ by_test (has_user new.users u) where
      by_test : (b : Bool) → cond b (lowered 0 (number_in old num.Rank u)) (number_in old num.Rank u) ≡ number_in old num.Rank u
      by_test true = lowered-none (number_in old num.Rank u)
      by_test false = refl

    pub entered : IsEntered old ds over new
    entered = record {
      users = users-are ∙ w.users;
      all = λ u. ap (λ (us : List User). has_user us u) users-are ∙ w.all u;
      ascend = λ up. subst (IsStrictlySortedBy user_cmp) (sym users-are) (w.ascend up);
      numbers = stepped;
      tags_ascend = ascend;
      tags = t.all;
      tag_users = t.numbers;
      others = t.others;
      keeps = record {
        epoch = last-is (λ r. r.epoch) (λ r s. refl) ∙ (through (λ r. r.epoch) (λ r s. refl) ∙ w.epoch);
        landmarks = last-is landmarks_in (λ r s. refl) ∙ (through landmarks_in (λ r s. refl) ∙ w.landmarks);
        ranks = rank-same;
        hops = λ i u. last-is (λ r. hops_in r i u) (λ r s. refl) ∙ (through (λ r. hops_in r i u) (λ r s. refl) ∙ w.hops i u);
        close = λ i u. last-is (λ r. close_in r i u) (λ r s. refl) ∙ (through (λ r. close_in r i u) (λ r s. refl) ∙ w.close i u);
        expos = t.expos;
      };
      alone_hops = λ i. last-is (λ r. (get_or r.hops i no_column).others) (λ r s. refl)
          ∙ (through (λ r. (get_or r.hops i no_column).others) (λ r s. refl) ∙ w.alone_hops i);
      alone_close = λ i. last-is (λ r. (get_or r.close i no_column).others) (λ r s. refl)
          ∙ (through (λ r. (get_or r.close i no_column).others) (λ r s. refl) ∙ w.alone_close i);
    }

-- ---- the counts of the next view
abbrev present : List Half → ℕ
present hs = count_by (λ (h : Half). h.present) hs

unused : (v : PartView) (t : List ℕ) → is_in_use v t ≡ false → length (v.tag_users t) ≡ 0
unused v t e = ap (λ (us : List User). length us) (none-empty (v.tag_users t) (not-false (is_none (v.tag_users t)) e))

module _ (old new : ResultView) (ds : List DeltaLists) (over : List User) (entry : IsEntered old ds over new) (was is : PartView)
    (led : AreLed was is ds) (fits : FitsNumbers is) (counts : IsCountOf was old) where
  vertices : (u : User) → has_user new.users u ≡ is_vertex is u
  vertices u = entry.all u ∙ (ap (λ (b : Bool). b || are_told ds u) (counts.users.all u) ∙ sym ((vertices-law was is ds led).0 u))

  in-use : (t : List ℕ) → has_tag new.tags t ≡ is_in_use is t
  in-use t = entry.tags t ∙ (ap (λ (b : Bool). b || tells_tag ds t) (counts.tags t) ∙ sym ((vertices-law was is ds led).1 t))

  -- who is no vertex now was none
  none-was : (u : User) → is_vertex is u ≡ false → is_vertex was u ≡ false
  none-was u e = (or_parts (is_vertex was u) (are_told ds u) (sym ((vertices-law was is ds led).0 u) ∙ e)).0

  -- a number that went and came
  moved : (b : Bool) (n gone now m : ℕ) → m + gone ≡ n + now → gone ≤ n → m < 2 ^ 64 → (b ≡ false → (n ≡ 0) × (m ≡ 0))
      → cond b (raised now (lowered gone n)) n ≡ m
  moved true n gone now m same less small none = raised-fits now (lowered gone n) (omega (arith, same, less, small))
      ∙ omega (arith, same, less)
  moved false n gone now m same less small none = let both = none refl in both.0 ∙ sym both.1

  ins-are : (u : User) → number_in new num.In u ≡ present (is.inn u)
  ins-are u =
      let test : has_user new.users u ≡ is_vertex is u = vertices u in
      let number : number_in old num.In u ≡ present (was.inn u) = counts.ins u in
      entry.numbers num.In u ∙ (ap (λ (n : ℕ). cond (has_user new.users u)
      (raised (pairs_of (λ d. d.now_in) ds u) (lowered (pairs_of (λ d. d.gone_in) ds u) n)) n) number
      ∙ moved (has_user new.users u) (present (was.inn u)) (pairs_of (λ d. d.gone_in) ds u) (pairs_of (λ d. d.now_in) ds u)
      (present (is.inn u)) ((counts-law was is ds led).ins u) (gone-in was is ds led u)
      (omega (arith, count_by-le-length (λ (h : Half). h.present) (is.inn u), fits.ins u))
      (λ away. let none = sym test ∙ away in (apart-in was u (none-was u none), apart-in is u none)))

  outs-are : (u : User) → number_in new num.Out u ≡ present (is.out u)
  outs-are u =
      let test : has_user new.users u ≡ is_vertex is u = vertices u in
      let number : number_in old num.Out u ≡ present (was.out u) = counts.outs u in
      entry.numbers num.Out u ∙ (ap (λ (n : ℕ). cond (has_user new.users u)
      (raised (pairs_of (λ d. d.now_out) ds u) (lowered (pairs_of (λ d. d.gone_out) ds u) n)) n) number
      ∙ moved (has_user new.users u) (present (was.out u)) (pairs_of (λ d. d.gone_out) ds u) (pairs_of (λ d. d.now_out) ds u)
      (present (is.out u)) ((counts-law was is ds led).outs u) (gone-out was is ds led u)
      (omega (arith, count_by-le-length (λ (h : Half). h.present) (is.out u), fits.outs u))
      (λ away. let none = sym test ∙ away in (apart-out was u (none-was u none), apart-out is u none)))

  said-are : (u : User) → number_in new num.Said u ≡ cond (has_user new.users u) (is.said u) 0
  said-are u = entry.numbers num.Said u ∙ by_tests (has_user new.users u) (has_user old.users u) refl refl (number_in old num.Said u)
      (counts.said u) where
        grew : is.said u ≡ was.said u + said_more ds u
        grew = (counts-law was is ds led).said u

        small : is.said u < 2 ^ 64
        small = fits.said u

        sum : (n : ℕ) → n ≡ was.said u → raised (said_more ds u) (lowered 0 n) ≡ is.said u
        sum n e = raised-fits (said_more ds u) (lowered 0 n) (omega (arith, e, grew, small)) ∙ omega (arith, e, grew)

        by_tests : (b a : Bool) → has_user new.users u ≡ b → has_user old.users u ≡ a
            → (n : ℕ) → n ≡ cond (has_user old.users u) (was.said u) 0 → cond b (raised (said_more ds u) (lowered 0 n)) n ≡ cond b (is.said u) 0
        by_tests true true there before n e = sum n (e ∙ rw before refl)
        by_tests true false there before n e =
            let none : was.said u ≡ 0 = led.before.said u (apart was u (sym (counts.users.all u) ∙ before)).mentioners in
            sum n (e ∙ rw before (sym none))
        by_tests false a away before n e =
            let out : has_user old.users u ≡ false = counts.users.all u ∙ none-was u (sym (vertices u) ∙ away) in
            e ∙ rw out refl

  tag_users-are : (t : List ℕ) → tag_users_in new t ≡ length (is.tag_users t)
  tag_users-are t = by_test (has_tag new.tags t) refl where
    grew : length (is.tag_users t) ≡ length (was.tag_users t) + tag_more ds t
    grew = (counts-law was is ds led).tags t

    number : tag_users_in old t ≡ length (was.tag_users t)
    number = counts.tag_users t

    small : length (is.tag_users t) < 2 ^ 64
    small = fits.tag_users t

    by_test : (b : Bool) → has_tag new.tags t ≡ b → tag_users_in new t ≡ length (is.tag_users t)
    by_test true there = entry.tag_users t there ∙ (raised-fits (tag_more ds t) (tag_users_in old t) (omega (arith, number, grew, small))
        ∙ omega (arith, number, grew))
    by_test false away =
        let none : length (is.tag_users t) ≡ 0 = unused is t (sym (in-use t) ∙ away) in
        entry.others t away (omega (arith, number, grew, none)) ∙ sym none

  pub counted : IsCountOf is new
  counted = record {
    users = record { ascend = entry.ascend counts.users.ascend; all = vertices };
    tags_ascend = entry.tags_ascend;
    tags = in-use;
    ins = ins-are;
    outs = outs-are;
    said = said-are;
    tag_users = tag_users-are;
  }
