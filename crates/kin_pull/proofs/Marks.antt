-- Marks, lent inputs and values at places, read as those of users.
use Rattle.std.proofs.Common.{◌≡◌, ◌<◌, ◌≤◌, ◌+◌, ◌∙◌, ◌||◌, ◌==◌, ℕ, Bool, true, false, eqb, eq-eqb, add-one, List, [], ◌∷◌}
use Rattle.std.proofs.Common.{◌++◌, map, length, get_or, set, take, Option, Some, None, unwrap_or, if◌then◌else◌, arith, refl, sym, ap, ap₂}
use Rattle.std.proofs.Common.{subst}
use Rattle.std.specs.List.{list_any}
use Rattle.std.proofs.lemmas.Bool.{both_ways, or_left, or_right}
use Rattle.std.proofs.lemmas.Bool.Decides.{nat_tests}
use Rattle.std.proofs.lemmas.List.{get_or_default, get_or_past, get_or-set_same, get_or-set_other, get_or_append_left, get_or_push}
use Rattle.std.proofs.lemmas.List.Folds.{list_any_more}
use Rattle.kin_ids.specs.declared.ids.User.{User}
use Rattle.kin_ids.specs.Users.{same_user, has_user}
use Rattle.kin_ids.specs.Parts.{PartView}
use Rattle.kin_ids.proofs.Same.{same_user-true, same_user-refl, same_user-sym}
use Rattle.kin_rules.specs.declared.pull_rules.Facts.{Facts}
use Rattle.kin_rules.specs.declared.pull_rules.Input.{Input}
use Rattle.kin_rules.specs.Edges.{places_of}
use Rattle.kin_rules.specs.Going.{has_place}
use Rattle.kin_rules.specs.Layers.{LayerRule, blank, inputs_of}
use Rattle.kin_rules.specs.Places.{place}
use Rattle.kin_rules.proofs.Places.{place-lt, place-absent, get-place}
use Rattle.kin_rules.proofs.PlacedValues.{place-apart}
use Rattle.kin_pull.specs.Passes.{IsAbove, lent_at, drawn_in, marked, is_shown, above_in}
use Rattle.kin_pull.specs.Settles.{IsPassed}
use Rattle.kin_pull.specs.States.{KeptView, active_at, value_in, now_in, keeping, net_in}

-- places are the same exactly where the users are
pub place-same : (us : List User) (x y : User) → has_user us y ≡ true → eqb (place us x) (place us y) ≡ same_user x y
place-same us x y there = here (same_user x y) refl
  where
    apart : (b : Bool) → eqb (place us x) (place us y) ≡ b → same_user x y ≡ false → b ≡ false
    apart false e off = refl
    apart true e off = absurd (place-apart us y x there (same_user-sym y x ∙ off) (grind (arith, nat_tests, e)))

    here : (b : Bool) → same_user x y ≡ b → eqb (place us x) (place us y) ≡ b
    here true e = eq-eqb (place us x) (place us y) (ap (place us) (same_user-true x y e))
    here false e = apart (eqb (place us x) (place us y)) refl e

-- the places of users who are there
pub places-there : (us ys : List User) → ((y : User) → has_user ys y ≡ true → has_user us y ≡ true) → places_of us ys ≡ map (place us) ys
places-there us [] there = refl
places-there us (y ∷ ys) there =
    rw (there y (or_left (same_user y y) (has_user ys y) (same_user-refl y)))
    (ap (λ (is : List ℕ). place us y ∷ is) (places-there us ys (λ z h. there z (or_right (same_user z y) (has_user ys z) h))))

pub places-has : (us ys : List User) (x : User) → ((y : User) → has_user ys y ≡ true → has_user us y ≡ true)
    → has_place (map (place us) ys) (place us x) ≡ has_user ys x
places-has us [] x there = refl
places-has us (y ∷ ys) x there =
    ap₂ (λ (a b : Bool). a || b) (place-same us x y (there y (or_left (same_user y y) (has_user ys y) (same_user-refl y))))
    (places-has us ys x (λ z h. there z (or_right (same_user z y) (has_user ys z) h)))

-- marks at the places of users are marks of these users
pub marked-more : (us ys : List User) (row : List ℕ) (was is : List Bool) → row ≡ places_of us ys → ((y : User) → has_user ys y ≡ true
    → has_user us y ≡ true)
    → ((k : ℕ) → get_or is k false ≡ (get_or was k false || has_place row k)) → (x : User)
    → marked us is x ≡ (marked us was x || has_user ys x)
marked-more us ys row was is e there more x =
    more (place us x) ∙ ap (λ (b : Bool). marked us was x || b) (ap (λ (ns : List ℕ). has_place ns (place us x)) (e
    ∙ places-there us ys there) ∙ places-has us ys x there)

-- one place more is marked
pub mark-step : (marks marks' was : List Bool) (ends : List ℕ) (i e : ℕ) → i < length ends → e ≡ get_or ends i 0 → e < length marks
    → marks' ≡ set marks e true
    → ((k : ℕ) → get_or marks k false ≡ (get_or was k false || has_place (take i ends) k)) → (k : ℕ)
    → get_or marks' k false ≡ (get_or was k false || has_place (take (i + 1) ends) k)
mark-step marks marks' was ends i e lt at below is old k =
    ap (λ (ms : List Bool). get_or ms k false) is ∙ (here (eqb k e) refl ∙ sym (ap (λ (b : Bool). get_or was k false || b) (list_any_more
    (λ q. k == q) ends i 0 lt ∙ ap (λ (n : ℕ). has_place (take i ends) k || (k == n)) (sym at))))
  where
    or-true : (a b : Bool) → (a || (b || true)) ≡ true
    or-true true b = refl
    or-true false true = refl
    or-true false false = refl

    or-false : (a b : Bool) → (a || (b || false)) ≡ (a || b)
    or-false true b = refl
    or-false false true = refl
    or-false false false = refl

    here : (b : Bool) → eqb k e ≡ b → get_or (set marks e true) k false ≡ (get_or was k false || (has_place (take i ends) k || eqb k e))
    here true h =
        let same : k ≡ e = grind (arith, nat_tests, h) in
        subst (λ (n : ℕ). get_or (set marks e true) n false ≡ true) (sym same) (get_or-set_same marks e true false below)
        ∙ sym (ap (λ (b : Bool). get_or was k false || (has_place (take i ends) k || b)) h
        ∙ or-true (get_or was k false) (has_place (take i ends) k))
    here false h =
        get_or-set_other marks e k true false (λ same. both_ways (eqb k e) h (eq-eqb k e same))
        ∙ (old k ∙ sym (ap (λ (b : Bool). get_or was k false || (has_place (take i ends) k || b)) h
        ∙ or-false (get_or was k false) (has_place (take i ends) k)))

-- past the last place stands the default
pub past-last : {X : Type 0} (us : List User) (xs : List X) (x : User) (d : X) → length xs ≡ length us → has_user us x ≡ false
    → get_or xs (place us x) d ≡ d
past-last us xs x d long none = get_or_past xs (place us x) d (let at = place-absent us x none in omega (arith, long, at))

-- who stands at a place of the users
pub there-at : (us : List User) (x : User) → place us x < length us → has_user us x ≡ true
there-at us x lt = here (has_user us x) refl
  where
    here : (b : Bool) → has_user us x ≡ b → b ≡ true
    here true e = refl
    here false e = let at = place-absent us x e in absurd (omega (arith, lt, at))

-- inputs that are lent
pub lent-inputs : {V : Type 0} (first : V) (us : List User) (k : KeptView V) (j : ℕ) (drawn : List (Option V)) (df : Facts)
    (ys : List User) → length k.facts ≡ length us
    → ((y : User) → has_user ys y ≡ true → has_user us y ≡ true)
    → map (lent_at df first k j drawn) (map (place us) ys)
    ≡ inputs_of (now_in us k) (drawn_in first us k j drawn) ys
lent-inputs first us k j drawn df [] long there = refl
lent-inputs {V} first us k j drawn df (y ∷ ys) long there =
    let h = there y (or_left (same_user y y) (has_user ys y) (same_user-refl y)) in
    let lt = place-lt us y h in
    let one : get_or k.facts (place us y) df ≡ now_in us k y = get_or_default k.facts (place us y) df (blank y) (omega (arith, lt, long)) in
    ap₂ (λ (f : Facts) (is : List (Input V)). record { facts = f; value = drawn_in first us k j drawn y } ∷ is) one
    (lent-inputs first us k j drawn df ys long (λ z g. there z (or_right (same_user z y) (has_user ys z) g)))

-- one more of a list that is tested
pub shown-step : {X : Type 0} (test : X → Bool) (xs : List X) (i : ℕ) (x d : X) (start was is : Bool) → i < length xs
    → x ≡ get_or xs i d → is ≡ (was || test x) → was ≡ (start || list_any test (take i xs))
    → is ≡ (start || list_any test (take (i + 1) xs))
shown-step {X} test xs i x d start was is lt at now old =
    now ∙ (ap (λ (b : Bool). b || test x) old ∙ (assoc start (list_any test (take i xs)) (test x)
    ∙ ap (λ (b : Bool). start || b) (ap (λ (y : X). list_any test (take i xs) || test y) at ∙ sym (list_any_more test xs i d lt))))
  where
    assoc : (a b c : Bool) → ((a || b) || c) ≡ (a || (b || c))
    assoc true b c = refl
    assoc false b c = refl

-- a pass
module _ {V : Type 0} (r : LayerRule V) (v : PartView) (us : List User) (k : KeptView V) (j : ℕ) (drawn : List (Option V))
    (marks : List Bool) (above : List (Option V)) (long : length marks ≡ length us)
    (are : (x : User) → marked us marks x ≡ (active_at us k (j + 1) x || is_shown r v us k j drawn us x))
    (up : IsAbove r v us k j drawn marks above) where
  there : (x : User) → marked us marks x ≡ true → has_user us x ≡ true
  there x on = here (has_user us x) refl
    where
      here : (b : Bool) → has_user us x ≡ b → b ≡ true
      here true e = refl
      here false e = absurd (both_ways (marked us marks x) (past-last us marks x false long e) on)

  above-none : (x : User) → marked us marks x ≡ false → get_or above (place us x) None ≡ None
  above-none x off = here (has_user us x) refl
    where
      here : (b : Bool) → has_user us x ≡ b → get_or above (place us x) None ≡ None
      here true e = up.each x e ∙ ap (λ (b : Bool). if b then Some (above_in r v us k j drawn x) else None) off
      here false e = past-last us above x None up.long e

  pub passes : IsPassed r (net_in r.side v us k) (keeping r.first us k) us j (drawn_in r.first us k j drawn) (drawn_in r.first us k
      (j + 1) above)
  passes = record {
    computed = λ x due.
        let on : marked us marks x ≡ true = are x ∙ due in
        ap (λ (o : Option V). unwrap_or o (value_in r.first us k (j + 1) x)) (up.each x (there x on)
        ∙ ap (λ (b : Bool). if b then Some (above_in r v us k j drawn x) else None) on);
    kept = λ x off.
        ap (λ (o : Option V). unwrap_or o (value_in r.first us k (j + 1) x)) (above-none x (are x ∙ off))
        ∙ ap (λ (n : ℕ). value_in r.first us k n x) (add-one j);
  }

-- one value more of the layer above
pub above-step : {V : Type 0} (A : User → V) (marks : List Bool) (us : List User) (i : ℕ) (values values' : List (Option V))
    (value : Option V) (u : User) (due : Bool) → length values ≡ i → i < length us → u ≡ get_or us i u → due ≡ get_or marks i false
    → value ≡ (if due then Some (A u) else None) → values' ≡ values ++ value ∷ [] → ((p : ℕ) (d : User) → p < i
    → get_or values p None ≡ (if get_or marks p false then Some (A (get_or us p d)) else None))
    → (p : ℕ) (d : User) → p < i + 1 → get_or values' p None ≡ (if get_or marks p false then Some (A (get_or us p d)) else None)
above-step {V} A marks us i values values' value u due long lt at on is push old p d below = ap (λ (vs : List
    (Option V)). get_or vs p None) push ∙ here (eqb p i) refl
  where
    here : (b : Bool) → eqb p i ≡ b → get_or (values ++ value ∷ []) p None ≡ (if get_or marks p false then Some (A
        (get_or us p d)) else None)
    here true e =
        let same : i ≡ p = grind (arith, nat_tests, e) in
        let user : u ≡ get_or us i d = at ∙ get_or_default us i u d lt in
        subst (λ (n : ℕ). get_or (values ++ value ∷ []) n None ≡ (if get_or marks n false then Some (A (get_or us n d)) else None)) same
        (get_or_push values value None i long ∙ (is ∙ ap₂ (λ (b : Bool) (x : User). if b then Some (A x) else None) on user))
    here false e =
        let less : p < i = grind (arith, nat_tests, e, below) in
        get_or_append_left values (value ∷ []) None p (subst (λ (n : ℕ). p < n) (sym long) less) ∙ old p d less

pub above-whole : {V : Type 0} (r : LayerRule V) (v : PartView) (us : List User) (k : KeptView V) (j : ℕ) (drawn : List (Option V))
    (marks : List Bool) (above : List (Option V)) (i : ℕ) → length above ≡ i → length us ≤ i → i ≤ length us
    → ((p : ℕ) (d : User) → p < i → get_or above p None ≡ (if get_or marks p false then Some (above_in r v us k j drawn
    (get_or us p d)) else None)) → IsAbove r v us k j drawn marks above
above-whole {V} r v us k j drawn marks above i long le most each = record {
  long = omega (arith, long, le, most);
  each = λ x there.
      let lt = place-lt us x there in
      each (place us x) x (omega (arith, lt, le)) ∙ ap (λ (y : User). if marked us marks x then Some
      (above_in r v us k j drawn y) else None) (get-place us x x there);
}
