-- Views whose edges lead to users, and states in which only the landmark has a value.
use Rattle.std.proofs.Common.{◌≡◌, ◌≤◌, ◌+◌, ◌^◌, ◌||◌, ◌&&◌, ◌∙◌, ◌⊎◌, inl, inr, ℕ, ◌<◌, Bool, true, false, List, [], ◌∷◌, Option, Some}
use Rattle.std.proofs.Common.{None, IfSome, is_some, length, get_or, take, if◌then◌else◌, arith, refl, sym, ap, subst}
use Rattle.std.specs.Bool.{OnTrue}
use Rattle.std.proofs.lemmas.Bool.{or_cases, and_parts}
use Rattle.std.proofs.lemmas.List.{take_all}
use Rattle.std.proofs.lemmas.List.Folds.{list_any_more}
use Rattle.kin_ids.specs.declared.ids.User.{User}
use Rattle.kin_ids.specs.Users.{same_user, has_user}
use Rattle.kin_ids.specs.Parts.{PartView}
use Rattle.kin_ids.proofs.Same.{same_user-true, same_user-refl}
use Rattle.kin_graph.specs.Views.{AreVertices}
use Rattle.kin_rules.specs.declared.kinds.EdgeKind.TheVariants as kind
use Rattle.kin_rules.specs.Places.{place}
use Rattle.kin_rules.specs.Walks.{Rule, AtMost, IsWhole}
use Rattle.kin_rules.specs.Kept.{AreKept, IsAtRest}
use Rattle.kin_push.specs.Begins.{IsEntered, lands}
use Rattle.kin_push.specs.Closed.{IsClosed, IsClosedAt}
use Rattle.kin_push.specs.Facts.{On, IsOn}
use Rattle.kin_push.specs.States.{PushState, value_in, is_active, net_in}
use Rattle.kin_push.proofs.Edges.{any-half, any-some, out-vertex, mentions-vertex}

pub on-true : {P Q : Type 0} (b : Bool) → (P → Q) → OnTrue b P → OnTrue b Q
on-true true f p = f p
on-true false f p = p

pub found-there : (us : List User) (x : User) (o : Option ℕ) → is_some o ≡ true
    → IfSome o (λ i. (i ≡ place us x) × (i < length us) × (has_user us x ≡ true)) → has_user us x ≡ true
found-there us x None h k = absurd cc
found-there us x (Some i) h k = k.2

-- the ends so far are users
pub among-more : (us ends left rest : List User) (e : User) → left ≡ e ∷ rest
    → ((x : User) → has_user ends x ≡ true → (has_user left x ≡ true) ⊎ (has_user us x ≡ true)) → has_user us e ≡ true
    → (x : User) → has_user ends x ≡ true → (has_user rest x ≡ true) ⊎ (has_user us x ≡ true)
among-more us ends left rest e is all there x h = here (all x h)
  where
    first : (same_user x e ≡ true) ⊎ (has_user rest x ≡ true) → (has_user rest x ≡ true) ⊎ (has_user us x ≡ true)
    first (inl k) = inr (subst (λ (y : User). has_user us y ≡ true) (sym (same_user-true x e k)) there)
    first (inr k) = inl k

    here : (has_user left x ≡ true) ⊎ (has_user us x ≡ true) → (has_user rest x ≡ true) ⊎ (has_user us x ≡ true)
    here (inl k) = first (or_cases (same_user x e) (has_user rest x) (subst (λ (xs : List User). has_user xs x ≡ true) is k))
    here (inr k) = inr k

pub among-all : (us ends left : List User) → left ≡ [] → ((x : User) → has_user ends x ≡ true → (has_user left x ≡ true)
    ⊎ (has_user us x ≡ true)) → (x : User) → has_user ends x ≡ true → has_user us x ≡ true
among-all us ends left none all x h = here (all x h)
  where
    here : (has_user left x ≡ true) ⊎ (has_user us x ≡ true) → has_user us x ≡ true
    here (inl k) = let no : has_user [] x ≡ true = subst (λ (xs : List User). has_user xs x ≡ true) none k in absurd cc
    here (inr k) = k

pub closed-more : (v : PartView) (us : List User) (i : ℕ) (d : User) → i < length us
    → ((w : User) → has_user (take i us) w ≡ true → IsClosedAt v us w) → IsClosedAt v us (get_or us i d) → (w : User)
    → has_user (take (i + 1) us) w ≡ true → IsClosedAt v us w
closed-more v us i d lt old new w h = here (or_cases (has_user (take i us) w) (same_user w (get_or us i d))
    (sym (list_any_more (same_user w) us i d lt) ∙ h))
  where
    here : (has_user (take i us) w ≡ true) ⊎ (same_user w (get_or us i d) ≡ true) → IsClosedAt v us w
    here (inl k) = old w k
    here (inr k) = subst (IsClosedAt v us) (sym (same_user-true w (get_or us i d) k)) new

pub closed-all : (v : PartView) (us : List User) (i : ℕ) → length us ≤ i → ((w : User) → has_user (take i us) w ≡ true → IsClosedAt v us w)
    → IsClosed v us
closed-all v us i le all w h = all w (subst (λ (xs : List User). has_user xs w ≡ true) (sym (take_all i us le)) h)

-- over the vertices of a view that is closed the net is whole
pub closed-whole : (r : Rule) (v : PartView) (us : List User) → AreVertices v us → IsClosed v us → IsWhole (net_in r v us)
closed-whole r v us are closed kind.Follow w u edge = let there = are.all w
    ∙ out-vertex v w (any-half (v.out w) u edge) in (there, (closed w there).follows u edge)
closed-whole r v us are closed kind.Mention w u edge = let there = are.all w
    ∙ mentions-vertex v w (any-some (same_user u) (v.mentions w) edge) in (there, (closed w there).mentions u edge)

-- an epoch that is entered by nobody but the landmark
module _ (r : Rule) (v : PartView) (us : List User) (old new : PushState) (whole : IsWhole (net_in r v us))
    (none : (x : User) → value_in old x ≡ None) (are : old.users ≡ us) (entered : IsEntered r [] old new) where
  landed : (x : User) (n : ℕ) → value_in new x ≡ Some n → (x ≡ r.mark) × (n ≡ 0) × (has_user us r.mark ≡ true)
  landed x n e = here (lands r old.users (value_in old)) refl (same_user x r.mark) refl (sym (entered.values x) ∙ e)
    where
      here : (l : Bool) → lands r old.users (value_in old) ≡ l → (s : Bool) → same_user x r.mark ≡ s
          → (if l && s then Some 0 else value_in old x) ≡ Some n → (x ≡ r.mark) × (n ≡ 0) × (has_user us r.mark ≡ true)
      here true q true s h = (
        same_user-true x r.mark s,
        (let z : 0 ≡ n = cc in sym z),
        subst
            (λ (xs : List User). has_user xs r.mark ≡ true) are (and_parts (has_user old.users r.mark) _ q).0,
      )
      here true q false s h = let no : None ≡ Some n = sym (none x) ∙ h in absurd cc
      here false q s t h = let no : None ≡ Some n = sym (none x) ∙ h in absurd cc

  lands-there : has_user us r.mark ≡ true → lands r old.users (value_in old) ≡ true
  lands-there there = let here : has_user old.users r.mark ≡ true = subst (λ (xs : List User). has_user xs r.mark ≡ true) (sym are) there
      in rw (here, none r.mark) refl

  mark-value : has_user us r.mark ≡ true → value_in new r.mark ≡ Some 0
  mark-value there = entered.values r.mark ∙ rw (lands-there there, same_user-refl r.mark) refl

  mark-active : has_user us r.mark ≡ true → is_active new r.mark ≡ true
  mark-active there = entered.active r.mark ∙ rw (lands-there there, same_user-refl r.mark) refl

  kept : AreKept (net_in r v us) (value_in new)
  kept u n e =
      let l = landed u n e in
      record {
        path = [];
        walk = l.0;
        costs = ap Some (sym l.1);
        once = (refl, tt);
        low = subst (λ (o : Option ℕ). AtMost o 0) (sym e) (let z = l.1 in omega (arith, z));
        within = (subst (λ (y : User). has_user us y ≡ true) (sym l.0) l.2, tt);
      }

  rests : (w : User) → IsAtRest (net_in r v us) (value_in new) w ⊎ (is_active new w ≡ true)
  rests w = here (value_in new w) refl
    where
      here : (o : Option ℕ) → value_in new w ≡ o → IsAtRest (net_in r v us) (value_in new) w ⊎ (is_active new w ≡ true)
      here None e = inl (λ k u n h edge. let no : None ≡ Some n = sym e ∙ h in absurd cc)
      here (Some n) e = let l = landed w n e in inr (subst (λ (y : User). is_active new y ≡ true) (sym l.0) (mark-active l.2))

  within : (w : User) → is_active new w ≡ true → has_user us w ≡ true
  within w on = here (lands r old.users (value_in old)) refl (same_user w r.mark) refl (sym (entered.active w) ∙ on)
    where
      here : (l : Bool) → lands r old.users (value_in old) ≡ l → (s : Bool) → same_user w r.mark ≡ s → (false || (l && s)) ≡ true
          → has_user us w ≡ true
      here true q true s h = subst (λ (y : User). has_user us y ≡ true) (sym (same_user-true w r.mark s))
          (subst (λ (xs : List User). has_user xs r.mark ≡ true) are (and_parts (has_user old.users r.mark) _ q).0)
      here true q false s h = absurd cc
      here false q s t h = absurd cc

  pub starts-on : new.users ≡ us → length us ≤ 2 ^ 27 → On r v new
  starts-on is small = subst (λ (xs : List User). IsOn (net_in r v xs) (value_in new) (is_active new)) (sym is) (record {
    whole = whole;
    small = small;
    acting = record {
      kept = kept;
      start = λ there. subst (λ (o : Option ℕ). AtMost o 0) (sym (mark-value there)) (omega arith);
      rest =
          rests;
    };
    within = within;
  })
