-- Where nobody is active a settle reads nothing.
use Rattle.std.proofs.Common.{◌≡◌, ◌<◌, ◌≤◌, ◌+◌, ◌∙◌, ◌||◌, ◌&&◌, nat_lt, ℕ, Bool, true, false, List, [], ◌∷◌, Option, Some}
use Rattle.std.proofs.Common.{None, IfSome, is_some, length, get_or, if◌then◌else◌, arith, refl, sym, ap, ap₂, subst}
use Rattle.std.specs.List.{list_any}
use Rattle.std.specs.List.Sorted.{IsStrictlySortedBy}
use Rattle.std.specs.declared.cmp.Ordering.TheVariants.{Less}
use Rattle.std.proofs.lemmas.Bool.{both_ways, or_from}
use Rattle.std.proofs.lemmas.Bool.Decides.{nat_tests}
use Rattle.std.proofs.lemmas.Map.Keys.{Less-from_sorted}
use Rattle.kin_ids.specs.declared.ids.User.{User}
use Rattle.kin_ids.specs.Users.{has_user, user_cmp}
use Rattle.kin_ids.specs.Parts.{PartView}
use Rattle.kin_rules.specs.declared.pull_rules.Facts.{Facts}
use Rattle.kin_rules.specs.Layers.{LayerRule, IsLayerRule}
use Rattle.kin_rules.specs.Places.{place}
use Rattle.kin_rules.proofs.Places.{place-lt, get-place}
use Rattle.kin_rules.proofs.PlacedValues.{place-at}
use Rattle.kin_pull.specs.Keeping.{layer_in}
use Rattle.kin_pull.specs.Settles.{changes, ever, is_due, settle_reads, reads_on}
use Rattle.kin_pull.specs.States.{KeptView, IsKept, On, IsQuiet, busy_at, is_active, told_in, now_in, value_in, active_at, keeping, net_in}
use Rattle.kin_pull.specs.States.{opposite}
use Rattle.kin_pull.proofs.Epochs.{quiet-fresh, quiet-low, quiet-law}
use Rattle.kin_pull.proofs.Marks.{past-last}
use Rattle.kin_pull.proofs.WasRead.{ever-none, sum-none}
use Rattle.kin_pull.proofs.Standing.{shows-none}

any-none : (p : User → Bool) (us : List User) → ((x : User) → p x ≡ false) → list_any p us ≡ false
any-none p [] none = refl
any-none p (u ∷ us) none = or_from (p u) (list_any p us) (none u) (any-none p us none)

module _ {V : Type 0} (r : LayerRule V) (laws : IsLayerRule r) (top : ℕ) (v : PartView) (us : List User) (k : KeptView V)
    (on : On r top v us k) (quiet : IsQuiet us k) where
  unchanged : (j : ℕ) (y : User) → j ≤ top → changes r (net_in r.side v us k) (keeping r.first us k) j (layer_in r
      (net_in r.side v us k) j) y ≡ false
  unchanged j y le = shows-none r laws (told_in us k y) (now_in us k y) k.mixed (value_in r.first us k j y) (layer_in r
      (net_in r.side v us k) j y)
      (on.stands.known y (quiet-fresh us k quiet y)) (quiet-law V r top v us k laws on quiet j y le)

  not-due : (j : ℕ) (x : User) → j ≤ top → is_due r (net_in r.side v us k) (keeping r.first us k) us j (layer_in r
      (net_in r.side v us k) j) x ≡ false
  not-due j x le = or_from (active_at us k (j + 1) x) _ (quiet-low us k quiet (j + 1) x)
      (any-none _ us (λ y. ap (λ (b : Bool). b && has_user ((net_in r.side v us k).readers y) x) (unchanged j y le)))

  none-read : settle_reads r (net_in r.side v us k) v (keeping r.first us k) us top ≡ 0
  none-read =
      let a = sum-none (λ y. if ever (λ j. changes r (net_in r.side v us k) (keeping r.first us k) j (layer_in r
      (net_in r.side v us k) j) y) top then reads_on (opposite r.side) v y else 0) us
      (λ y. ap (λ (b : Bool). if b then reads_on (opposite r.side) v y else 0) (ever-none _ top (λ j lt. unchanged j y (omega (arith, lt))))) in
      let b = sum-none (λ x. if ever (λ j. is_due r (net_in r.side v us k) (keeping r.first us k) us j (layer_in r
      (net_in r.side v us k) j) x) top then reads_on r.side v x else 0) us
      (λ x. ap (λ (b : Bool). if b then reads_on r.side v x else 0) (ever-none _ top (λ j lt. not-due j x (omega (arith, lt))))) in
      omega (arith, a, b)

  pub idle-reads : (steps : ℕ) → steps ≡ steps + settle_reads r (net_in r.side v us k) v (keeping r.first us k) us top
  idle-reads steps = let none = none-read in omega (arith, none)

-- nobody at any place
pub none-busy : {V : Type 0} (us : List User) (k : KeptView V) → ((i : ℕ) → busy_at k i ≡ false) → IsQuiet us k
none-busy us k none x = none (place us x)

-- where nobody is active nobody is at any place
pub quiet-busy : {V : Type 0} (us : List User) (k : KeptView V) → IsStrictlySortedBy user_cmp us → (i : ℕ) → i < length us
    → busy_at k i ≡ true → IsQuiet us k → ⊥
quiet-busy us k ascend i lt on quiet =
    let d : User = record { 0 = 0 } in
    both_ways (busy_at k i) (ap (busy_at k) (sym (place-at us i d ascend lt)) ∙ quiet (get_or us i d)) on

-- the user at the first such place is the least one who is active
pub least-busy : {V : Type 0} (us : List User) (k : KeptView V) (top : ℕ) → IsKept top us k → (i : ℕ) (u : User) → i < length us
    → u ≡ get_or us i u → busy_at k i ≡ true → ((j : ℕ) → j < i → busy_at k j ≡ false)
    → (is_active us k u ≡ true) × ((x : User) → is_active us k x ≡ true → u.0 ≤ x.0)
least-busy us k top kept i u lt at on first = (here, least)
  where
    at-place : place us u ≡ i
    at-place = ap (place us) at ∙ place-at us i u kept.ascend lt

    here : is_active us k u ≡ true
    here = ap (busy_at k) at-place ∙ on

    there : (x : User) → is_active us k x ≡ true → has_user us x ≡ true
    there x h = split (has_user us x) refl
      where
        split : (b : Bool) → has_user us x ≡ b → b ≡ true
        split true e = refl
        split false e = absurd (both_ways (is_active us k x) (ap₂ (λ (a : Option ℕ) (b : Option Facts). is_some a || is_some b)
            (past-last us k.low x None kept.low e) (past-last us k.told x None kept.told e)) h)

    least : (x : User) → is_active us k x ≡ true → u.0 ≤ x.0
    least x h = order (nat_lt (place us x) i) refl (nat_lt i (place us x)) refl
      where
        l : place us x < length us
        l = place-lt us x (there x h)

        same : get_or us (place us x) u ≡ x
        same = get-place us x u (there x h)

        order : (b : Bool) → nat_lt (place us x) i ≡ b → (c : Bool) → nat_lt i (place us x) ≡ c → u.0 ≤ x.0
        order true less c m = absurd (both_ways (is_active us k x) (first (place us x) (grind (arith, nat_tests, less))) h)
        order false less true m =
            let e : user_cmp (get_or us i u) (get_or us (place us x) u) ≡ Less = Less-from_sorted user_cmp us i
            (place us x) u kept.ascend (grind (arith, nat_tests, m)) l in
            let f : user_cmp u x ≡ Less = ap₂ user_cmp at (sym same) ∙ e in
            grind (arith, nat_tests, f)
        order false less false m =
            let e : i ≡ place us x = grind (arith, nat_tests, less, m) in
            let f : u ≡ x = at ∙ (ap (λ (n : ℕ). get_or us n u) e ∙ same) in
            subst (λ (y : User). u.0 ≤ y.0) f (omega arith)

pub none-of : (o : Option ℕ) → is_some o ≡ false → o ≡ None
none-of None e = refl
none-of (Some i) e = absurd cc

-- where a place was found somebody is active
pub busy-found : {V : Type 0} (us : List User) (k : KeptView V) (top : ℕ) → IsKept top us k → (o : Option ℕ)
    → IfSome o (λ i. (i < length k.low) × (busy_at k i ≡ true) × ((j : ℕ) → j < i → busy_at k j ≡ false)) → is_some o ≡ true
    → IsQuiet us k → ⊥
busy-found us k top kept None some e quiet = absurd cc
busy-found us k top kept (Some i) some e quiet = quiet-busy us k kept.ascend i (omega (arith, some.0, kept.low)) some.1 quiet
