-- The parts of a turn, as the calls tell of them, and runs of turns.
use Rattle.std.proofs.Common.{◌≡◌, ◌≤◌, ◌+◌, ◌*◌, ◌^◌, ◌∙◌, ℕ, Bool, true, false, List, [], ◌∷◌, Option, Some, None, is_some, length}
use Rattle.std.proofs.Common.{get_or, set, if◌then◌else◌, arith, refl, sym, subst, ap}
use Rattle.std.proofs.Math.Nat.{mul-le-mul}
use Rattle.std.proofs.lemmas.Bool.{both_ways}
use Rattle.kin_ids.specs.declared.ids.User.{User}
use Rattle.kin_ids.specs.Users.{same_user, has_user}
use Rattle.kin_ids.specs.Parts.{PartView}
use Rattle.kin_rules.specs.declared.kinds.EdgeKind.{EdgeKind}
use Rattle.kin_rules.specs.declared.kinds.EdgeKind.TheVariants as kind
use Rattle.kin_rules.specs.Places.{place}
use Rattle.kin_rules.specs.Walks.{Rule, IsRule}
use Rattle.kin_rules.specs.Costs.{least_cost}
use Rattle.kin_rules.proofs.Kept.{kept-few}
use Rattle.kin_rules.proofs.Spreads.{quiet-law}
use Rattle.kin_push.specs.Facts.{On, exceeds}
use Rattle.kin_push.specs.Offers.{IsTaken, Pushed, RestedBy, Turning}
use Rattle.kin_push.specs.States.{PushState, IsPushState, IsQuiet, value_in, is_active, state, net_in, ends_in, reads_by}
use Rattle.kin_push.specs.Turns.{IsRun, Moved, Rested}
use Rattle.kin_push.proofs.Facts.{IsTurned, push-turns, rested-pushed, took, turn-ends, turning-then}
use Rattle.kin_push.proofs.States.{read-put}

-- what is read of edges that the rule doesn't use, and of those that it uses
pub reads-none : (r : Rule) → IsRule r.along r.most → (v : PartView) (k : EdgeKind) (u : User) (n : ℕ) → r.along k n ≡ None
    → reads_by r v k u ≡ 0
reads-none r laws v k u n e =
    let none : is_some (r.along k 0) ≡ false = laws.by_kind k 0 n ∙ ap is_some e in
    rw none refl

pub reads-some : (r : Rule) → IsRule r.along r.most → (v : PartView) (k : EdgeKind) (u : User) (n m : ℕ) → r.along k n ≡ Some m
    → reads_by r v k u ≡ 1 + length (ends_in v k u)
reads-some r laws v k u n m e =
    let some : is_some (r.along k 0) ≡ true = laws.by_kind k 0 n ∙ ap is_some e in
    rw some refl

-- values leave room for an edge more
pub value-small : (r : Rule) → IsRule r.along r.most → (v : PartView) (s : PushState) (u : User) (n : ℕ) → On r v s → value_in s u ≡ Some n
    → n ≤ 2 ^ 30
value-small r laws v s u n on is =
    let few = kept-few (net_in r v s.users) (value_in s) laws u n (on.acting.kept u n is) in
    let times : r.most * length s.users ≤ 3 * 2 ^ 27 = mul-le-mul laws.few on.small in
    omega (arith, few, times)

-- the user whose place is written took the offer
pub took-offer : (us : List User) (vs : List (Option ℕ)) (ms ns : List Bool) (u : User) (i n : ℕ) → i ≡ place us u → ns ≡ set ms i true
    → IsPushState (state us vs ms) → has_user us u ≡ true → exceeds (get_or vs i None) n ≡ true
    → Pushed (u ∷ []) n (state us vs ms) (state us (set vs i (Some n)) ns)
took-offer us vs ms ns u i n at marked is there over =
    took u n (value_in (state us vs ms)) (is_active (state us vs ms)) _ _ (subst (λ (k : ℕ). exceeds (get_or vs k None) n ≡ true) at over)
    (subst (λ (k : ℕ). (x : User) → get_or (set vs k (Some n)) (place us x) None ≡
    (if same_user u x then Some n else get_or vs (place us x) None)) (sym at) (read-put us vs u (Some n) None is.valued there))
    (subst (λ (xs : List Bool). (x : User) → get_or xs (place us x) false ≡ (if same_user u x then true else get_or ms (place us x) false))
    (ap (λ (k : ℕ). set ms k true) (sym at) ∙ sym marked) (read-put us ms u true false is.marked there))

-- the ends of edges are users
pub ends-there : (r : Rule) (v : PartView) (s : PushState) (k : EdgeKind) (u : User) → On r v s → (ends : List User) → ends ≡ ends_in v k u
    → (x : User) → has_user ends x ≡ true → has_user s.users x ≡ true
ends-there r v s k u on ends is x there = (on.whole k u x (subst (λ (xs : List User). has_user xs x ≡ true) is there)).1

-- a user that has offered its value along its edges of a kind
module _ (r : Rule) (laws : IsRule r.along r.most) (v : PartView) (k : EdgeKind) (u : User) (n m : ℕ) (us : List User)
    (vs ws : List (Option ℕ)) (ms ns : List Bool) (on : On r v (state us vs ms))
    (is : value_in (state us vs ms) u ≡ Some n) (act : is_active (state us vs ms) u ≡ true) (offer : r.along k n ≡ Some m)
    (ends : List User) (are : ends ≡ ends_in v k u)
    (pushed : Pushed ends m (state us vs ms) (state us ws ns)) where
  pub kind-turns : Turning r v u (state us vs ms) (state us ws ns)
  kind-turns =
      push-turns (net_in r v us) laws k u n m (value_in (state us vs ms)) (is_active (state us vs ms)) (value_in (state us ws ns))
      (is_active (state us ws ns)) on is act offer
      (subst (λ (xs : List User). Pushed xs m (state us vs ms) (state us ws ns)) are pushed)

  pub kind-rests : IsTaken ends m (value_in (state us ws ns)) → RestedBy r v (state us ws ns) k u
  kind-rests taken =
      rested-pushed (net_in r v us) k u n m (value_in (state us vs ms)) (value_in (state us ws ns)) is offer kind-turns.value
      (subst (λ (xs : List User). IsTaken xs m (value_in (state us ws ns))) are taken)

pub turning-on : (r : Rule) (v : PartView) (u : User) (us : List User) (vs ws xs : List (Option ℕ)) (ms ns os : List Bool)
    → Turning r v u (state us vs ms) (state us ws ns) → Turning r v u (state us ws ns) (state us xs os)
    → Turning r v u (state us vs ms) (state us xs os)
turning-on r v u us vs ws xs ms ns os s t =
    turning-then (net_in r v us) u (value_in (state us vs ms)) (is_active (state us vs ms)) (value_in (state us ws ns))
    (is_active (state us ws ns)) (value_in (state us xs os)) (is_active (state us xs os)) s t

-- who has no value offers nothing
pub rested-valueless : (r : Rule) (v : PartView) (s : PushState) (u : User) → value_in s u ≡ None → Rested r v s u
rested-valueless r v s u none k x n is edge = let both : None ≡ Some n = sym none ∙ is in absurd cc

-- at rest by both kinds of edges
pub rested-both : (r : Rule) (v : PartView) (s : PushState) (u : User) → RestedBy r v s kind.Follow u → RestedBy r v s kind.Mention u
    → Rested r v s u
rested-both r v s u follow mention kind.Follow x n is edge = follow x n is edge
rested-both r v s u follow mention kind.Mention x n is edge = mention x n is edge

-- u is taken out of the active ones
pub turn-done : (r : Rule) (v : PartView) (u : User) (us : List User) (vs ws : List (Option ℕ)) (ms ns os : List Bool) (i : ℕ)
    → i ≡ place us u → os ≡ set ns i false → IsPushState (state us ws ns) → has_user us u ≡ true
    → Turning r v u (state us vs ms) (state us ws ns) → Rested r v (state us ws ns) u
    → IsTurned (net_in r v us) u (value_in (state us vs ms)) (is_active (state us vs ms)) (value_in (state us ws ns))
    (is_active (state us ws os))
turn-done r v u us vs ws ms ns os i at off is there t rest =
    turn-ends (net_in r v us) u (value_in (state us vs ms)) (is_active (state us vs ms)) (value_in (state us ws ns))
    (is_active (state us ws ns)) (is_active (state us ws os)) t rest
    (subst (λ (xs : List Bool). (x : User) → get_or xs (place us x) false ≡
    (if same_user u x then false else get_or ns (place us x) false)) (ap (λ (k : ℕ). set ns k false) (sym at) ∙ sym off)
    (read-put us ns u false false is.marked there))

-- where nobody is active, the values are the least costs
pub quiet-least : (r : Rule) → IsRule r.along r.most → (v : PartView) (s : PushState) → On r v s → IsQuiet s → (u : User)
    → value_in s u ≡ least_cost (net_in r v s.users) u
quiet-least r laws v s on quiet u = quiet-law (net_in r v s.users) (value_in s) (is_active s) laws on.whole on.acting quiet u

pub run-none : (r : Rule) (v : PartView) (s : PushState) → IsRun r v s s
run-none r v s = ([], refl)

pub run-more : (r : Rule) (v : PartView) (u : User) (old mid new : PushState) → IsRun r v old mid → is_active mid u ≡ true
    → Moved r v u mid new → IsRun r v old new
run-more r v u old mid new run act moved = ((u, mid) ∷ run.0, (run.1, act, moved))

-- where nobody is active, nobody is found
pub nobody : {P : Type 0} (us : List User) (vs ws : List (Option ℕ)) (ms ns : List Bool) (u : User) → vs ≡ ws → ms ≡ ns
    → IsQuiet (state us ws ns) → is_active (state us vs ms) u ≡ true → P
nobody us vs ws ms ns u e q quiet on = absurd (both_ways (is_active (state us ws ns) u) (quiet u)
    (subst (λ (xs : List Bool). is_active (state us ws xs) u ≡ true) q on))
