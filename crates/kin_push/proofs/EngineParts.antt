-- The parts of an engine.
use Rattle.std.proofs.Common.{◌≡◌, ◌≤◌, ◌<◌, ◌||◌, ◌∙◌, ◌⊎◌, inl, inr, ℕ, zero, suc, nat_lt, Bool, true, false, List, [], ◌∷◌, Option}
use Rattle.std.proofs.Common.{is_some, length, get_or, replicate, refl, sym, subst, ap, arith, rules}
use Rattle.std.specs.List.{list_any}
use Rattle.std.specs.List.Sorted.{IsStrictlySortedBy}
use Rattle.std.specs.declared.cmp.Ordering.TheVariants.{Less}
use Rattle.std.proofs.lemmas.Bool.{both_ways, or_cases, or_left, or_right, and_parts}
use Rattle.std.proofs.lemmas.Bool.Decides.{nat_tests}
use Rattle.std.proofs.lemmas.List.Elements.{All-get_or}
use Rattle.std.proofs.lemmas.Map.Keys.{sorted_tail}
use Rattle.std.proofs.lemmas.Map.Views.{All-after_first}
use Rattle.std.proofs.Math.Bool.{or-false}
use Rattle.kin_ids.specs.declared.ids.User.{User}
use Rattle.kin_ids.specs.Users.{has_user, user_cmp}
use Rattle.kin_ids.specs.Parts.{PartView}
use Rattle.kin_graph.specs.Deltas.{DeltaLists}
use Rattle.kin_graph.specs.Views.{AreVertices, IsSmall}
use Rattle.kin_changes.specs.Told.{are_told, is_of, is_told, adds_follow_of, adds_mention_of, EdgesLaw, VerticesLaw}
use Rattle.kin_changes.specs.Views.{AreLed}
use Rattle.kin_rules.specs.Walks.{Rule, IsRule}
use Rattle.kin_rules.specs.Places.{place}
use Rattle.kin_rules.proofs.Places.{get-place, place-lt}
use Rattle.kin_push.specs.Begins.{Begins, IsBegun, IsEntered, is_started, starts_by}
use Rattle.kin_rules.specs.declared.kinds.EdgeKind.TheVariants as kind
use Rattle.kin_push.specs.Engines.{IsFit, IsPlan, IsWide, IsLeastActive, Planned, widened}
use Rattle.kin_push.specs.Facts.{On}
use Rattle.kin_push.specs.States.{PushState, IsPushState, IsQuiet, state}
use Rattle.kin_push.proofs.Begun.{begin-law}
use Rattle.kin_push.proofs.Edges.{any-more}
use Rattle.kin_push.proofs.States.{active-there, stands-active}

-- equal users and values in the place of others
pub over : (P : List User → List (Option ℕ) → Type 0) (us vs : List User) (ws xs : List (Option ℕ)) → us ≡ vs → ws ≡ xs → P us ws → P vs xs
over P us vs ws xs e q p = subst (λ (ys : List User). P ys xs) e (subst (P us) q p)

-- nobody is active where no place is marked
none-marked : (n i : ℕ) → get_or (replicate n false) i false ≡ false
none-marked zero i = refl
none-marked (suc n) zero = refl
none-marked (suc n) (suc i) = none-marked n i

pub replicate-quiet : (us : List User) (vs : List (Option ℕ)) (ms : List Bool) (n : ℕ) → ms ≡ replicate n false → IsQuiet (state us vs ms)
replicate-quiet us vs ms n is u = ap (λ (xs : List Bool). get_or xs (place us u) false) is ∙ none-marked n (place us u)

-- who starts an edge stands in something new
told-by : (ds : List DeltaLists) (u : User) (p : DeltaLists → Bool) → ((d : DeltaLists) → p d ≡ true → is_told d u ≡ true)
    → list_any p ds ≡ true → are_told ds u ≡ true
told-by ds u p up h = any-more p (λ (d : DeltaLists). is_told d u) up ds h

pub started-told : (r : Rule) (ds : List DeltaLists) (u : User) → is_started r ds u ≡ true → are_told ds u ≡ true
started-told r ds u h = kinds (or_cases (starts_by r ds kind.Follow u) (starts_by r ds kind.Mention u) h)
  where
    follow : (d : DeltaLists) → list_any (is_of u) d.new_out ≡ true → is_told d u ≡ true
    follow d k = or_left _ _ (or_left _ _ (or_left (list_any (is_of u) d.new_out) (list_any (is_of u) d.new_in) k))

    mention : (d : DeltaLists) → list_any (is_of u) d.mention_out ≡ true → is_told d u ≡ true
    mention d k = or_left _ _ (or_right (list_any (is_of u) d.new_out || list_any (is_of u) d.new_in) _
        (or_left (list_any (is_of u) d.mention_out) (list_any (is_of u) d.mention_in) k))

    kinds : (starts_by r ds kind.Follow u ≡ true) ⊎ (starts_by r ds kind.Mention u ≡ true) → are_told ds u ≡ true
    kinds (inl k) = told-by ds u (λ (d : DeltaLists). list_any (is_of u) d.new_out) follow
        (and_parts (is_some (r.along kind.Follow 0)) (adds_follow_of ds u) k).1
    kinds (inr k) = told-by ds u (λ (d : DeltaLists). list_any (is_of u) d.mention_out) mention
        (and_parts (is_some (r.along kind.Mention 0)) (adds_mention_of ds u) k).1

-- a plan fits a quiet state
pub plan-fits : (r : Rule) (ds : List DeltaLists) (s : PushState) (p : Planned) → IsQuiet s → IsPlan r ds s p → IsFit s p
plan-fits r ds s p quiet is = record {
  is_state = is.widens.is_state;
  quiet = is.widens.quiet quiet;
  values = is.widens.values;
  within = λ u h. is.widens.users u ∙ or_right (has_user s.users u) (are_told ds u) (started-told r ds u (sym (is.all u) ∙ h));
}

-- an epoch begins by its plan
pub plan-begins : EdgesLaw → VerticesLaw → (r : Rule) → IsRule r.along r.most
    → (ds : List DeltaLists) (before after : PushState) (p : Planned) → IsQuiet before → IsPlan r ds before p
    → IsEntered r p.starts (widened before p.wide) after
    → (was is : PartView) → AreLed was is ds → AreVertices was before.users → IsSmall is → On r was before → Begins r is ds before after
    × AreVertices is after.users
plan-begins edges vertices r laws ds before after p quiet plan enters was is led are small on = (
  begin-law edges r was is ds p.starts before (widened before p.wide) after begun,
  subst (λ (us : List User). AreVertices is us)
      (sym enters.users) next,
)
  where
    next : AreVertices is (widened before p.wide).users
    next = record {
      ascend = plan.widens.is_state.ascend;
      all = λ u. plan.widens.users u ∙ ap (λ (b : Bool). b || are_told ds u) (are.all u) ∙ sym ((vertices was is ds led).0 u);
    }

    begun : IsBegun r was is ds p.starts before (widened before p.wide) after
    begun = record {
      rule = laws;
      led = led;
      vertices = next;
      small = small (widened before p.wide).users next;
      on = on;
      quiet = quiet;
      values = plan.widens.values;
      starts = plan.all;
      entered = enters;
    }

-- nobody is new
pub wide-same : (ds : List DeltaLists) (s : PushState) → IsPushState s → ((u : User) → are_told ds u ≡ true → has_user s.users u ≡ true)
    → IsWide ds s s
wide-same ds s is none = record { is_state = is; quiet = λ q. q; values = λ u. refl; users = λ u. here u (are_told ds u) refl }
  where
    here : (u : User) (b : Bool) → are_told ds u ≡ b → has_user s.users u ≡ (has_user s.users u || b)
    here u true h = none u h ∙ sym (or_right (has_user s.users u) true refl)
    here u false h = sym (or-false (has_user s.users u))

less-is : (x u : User) → user_cmp x u ≡ Less → x.0 ≤ u.0
less-is x u h = grind (arith, nat_tests, h)

-- users ascend
ascending : (us : List User) (i j : ℕ) (d : User) → IsStrictlySortedBy user_cmp us → i ≤ j → j < length us
    → (get_or us i d).0 ≤ (get_or us j d).0
ascending [] i j d s le lt = absurd (omega (arith, lt))
ascending (u ∷ us) zero zero d s le lt = omega arith
ascending (u ∷ us) zero (suc j) d s le lt = less-is u (get_or us j d)
    (All-get_or (λ (y : User). user_cmp u y ≡ Less) us j d (omega (arith, lt)) (All-after_first user_cmp u us s))
ascending (u ∷ us) (suc i) zero d s le lt = absurd (omega (arith, le))
ascending (u ∷ us) (suc i) (suc j) d s le lt = ascending us i j d (sorted_tail user_cmp u us s) (omega (arith, le)) (omega (arith, lt))

-- the first mark is the least active user's
pub first-least : (us : List User) (vs : List (Option ℕ)) (ms : List Bool) (i : ℕ) (d : User) → IsPushState (state us vs ms)
    → i < length ms → get_or ms i false ≡ true → ((k : ℕ) → k < i → get_or ms k false ≡ false)
    → IsLeastActive (state us vs ms) (get_or us i d)
first-least us vs ms i d s lt on before = record { active = stands-active us vs ms i d s.ascend s.marked lt on; least = least }
  where
    within : i < length us
    within = let m = s.marked in omega (arith, lt, m)

    least : (x : User) → get_or ms (place us x) false ≡ true → (get_or us i d).0 ≤ x.0
    least x h = split (nat_lt (place us x) i) refl
      where
        there : has_user us x ≡ true
        there = active-there (state us vs ms) x s h

        split : (b : Bool) → nat_lt (place us x) i ≡ b → (get_or us i d).0 ≤ x.0
        split true l = let lt : place us x < i = grind (arith, nat_tests, l) in absurd
            (both_ways (get_or ms (place us x) false) (before (place us x) lt) h)
        split false l =
            let le : i ≤ place us x = grind (arith, nat_tests, l) in
            subst (λ (y : User). (get_or us i d).0 ≤ y.0) (get-place us x d there)
            (ascending us i (place us x) d s.ascend le (place-lt us x there))

-- no place is marked
pub none-active : (us : List User) (vs : List (Option ℕ)) (ms : List Bool) → ((k : ℕ) → get_or ms k false ≡ false)
    → IsQuiet (state us vs ms)
none-active us vs ms none u = none (place us u)

pub empty-state : IsPushState (state [] [] [])
unfolding IsStrictlySortedBy
empty-state = record { ascend = search rules; valued = refl; marked = refl }
