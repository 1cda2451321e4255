-- The reads of a whole epoch, and the least costs over a view.
use Rattle.std.proofs.Common.{◌≡◌, ◌≤◌, ◌+◌, ◌-◌, ◌*◌, ◌∙◌, ℕ, Bool, true, false, List, [], ◌∷◌, Option, Some, if◌then◌else◌, arith, refl}
use Rattle.std.proofs.Common.{sym, subst, ap}
use Rattle.std.proofs.Math.Nat.{mul-le-mul_right}
use Rattle.kin_ids.specs.declared.ids.User.{User}
use Rattle.kin_ids.specs.Users.{has_user}
use Rattle.kin_ids.specs.Parts.{PartView}
use Rattle.kin_graph.proofs.Wholes.{whole-vertices, whole-follows, whole-mentions}
use Rattle.kin_rules.specs.declared.kinds.EdgeKind.{EdgeKind}
use Rattle.kin_rules.specs.declared.kinds.EdgeKind.TheVariants as kind
use Rattle.kin_rules.specs.Walks.{Rule, Net, Step, AtMost, Under, passed, cost, IsWalk, IsWhole, IsRule}
use Rattle.kin_rules.specs.Costs.{bound, least_cost, IsLeastCost}
use Rattle.kin_rules.specs.Nets.{net_of, ends_of}
use Rattle.kin_rules.proofs.LeastCosts.{between, least-law}
use Rattle.kin_rules.proofs.Nets.{nets-whole}
use Rattle.kin_push.specs.Begins.{EpochLaw, QuietLaw, ViewLaw, is_started, had, epoch_owes, epoch_reads}
use Rattle.kin_push.specs.Facts.{to_read}
use Rattle.kin_push.specs.Potential.{counted, sum_over}
use Rattle.kin_push.specs.States.{PushState, net_in, ends_in, reads_of, value_in, is_active}
use Rattle.kin_push.specs.Turns.{AreTurns}
use Rattle.kin_push.proofs.Facts.{owed, sum-le}
use Rattle.kin_push.proofs.TurnParts.{quiet-least}

-- turns keep the users
turns-users : (r : Rule) (v : PartView) (old new : PushState) (turns : List (User × PushState)) → AreTurns r v old turns new
    → new.users ≡ old.users
turns-users r v old new [] is = ap (λ (s : PushState). s.users) is
turns-users r v old new (t ∷ turns) is = is.2.users ∙ turns-users r v old t.1 turns is.0

sum-plus : (f g h : User → ℕ) (vs : List User) → ((x : User) → h x ≤ f x + g x) → sum_over h vs ≤ sum_over f vs + sum_over g vs
sum-plus f g h [] e = omega arith
sum-plus f g h (v ∷ vs) e = omega (arith, e v, sum-plus f g h vs e)

-- what a value is above another, and that other one, are no less than it
split : (a x y q : ℕ) → (a + x) * q ≤ (a + (x - y)) * q + y * q
split a x y q =
    let e : a + x ≤ (a + (x - y)) + y = omega arith in
    let times : (a + x) * q ≤ ((a + (x - y)) + y) * q = mul-le-mul_right q e in
    omega (arith, times)

pub epoch-law : EpochLaw
epoch-law r v ds before begun after reads laws b run paid = omega (arith, paid, rest, owes, whole)
  where
    same : after.users ≡ begun.users
    same = turns-users r v begun after run.0 run.1

    rest : sum_over (λ u. counted (bound (net_in r v after.users)) (value_in after u) * reads_of r v u) after.users ≤ to_read r v after
    rest = sum-le (owed (net_in r v after.users) (reads_of r v) (value_in after) (is_active after))
        (λ u. counted (bound (net_in r v after.users)) (value_in after u) * reads_of r v u) after.users
        (λ x. mul-le-mul_right (reads_of r v x) (omega arith))

    owes : to_read r v begun ≤ epoch_owes r v ds before after
    owes = subst (λ (xs : List User). to_read r v begun ≤ sum_over (λ u. had r ds (bound (net_in r v xs)) before u * reads_of r v u) xs)
        (sym same) b.owes

    whole : epoch_owes r v ds before after ≤ epoch_reads r v ds before after + sum_over
        (λ u. counted (bound (net_in r v after.users)) (value_in after u) * reads_of r v u) after.users
    whole = sum-plus _ _ _ after.users
        (λ x. split (if is_started r ds x then 1 else 0) (counted (bound (net_in r v after.users)) (value_in before x))
        (counted (bound (net_in r v after.users)) (value_in after x)) (reads_of r v x))

pub quiet-is-least : QuietLaw
quiet-is-least r v s laws on quiet u = quiet-least r laws v s on quiet u

-- nets of the same edges and users have the same least costs
module _ (a b : Net) (along : a.along ≡ b.along) (mark : a.mark ≡ b.mark)
    (edges : (k : EdgeKind) (w u : User) → has_user (a.ends k w) u ≡ has_user (b.ends k w) u) where
  alike-cost : (ws : List Step) → cost a ws ≡ cost b ws
  alike-cost [] = refl
  alike-cost (s ∷ ws) = ap (λ (f : EdgeKind → ℕ → Option ℕ). passed (f s.kind) (cost a ws)) along
      ∙ ap (passed (b.along s.kind)) (alike-cost ws)

  there : (u : User) (ws : List Step) → IsWalk a u ws → IsWalk b u ws
  there u [] w = w ∙ mark
  there u (s ∷ ws) w = (sym (edges s.kind s.start u) ∙ w.0, there s.start ws w.1)

  back : (u : User) (ws : List Step) → IsWalk b u ws → IsWalk a u ws
  back u [] w = w ∙ sym mark
  back u (s ∷ ws) w = (edges s.kind s.start u ∙ w.0, back s.start ws w.1)

  alike-least : IsRule a.along a.most → IsRule b.along b.most → IsWhole a → IsWhole b
      → ((u : User) → has_user a.users u ≡ has_user b.users u) → (u : User) → least_cost a u ≡ least_cost b u
  alike-least ra rb wa wb users u = split-on (has_user a.users a.mark) refl
    where
      la : IsLeastCost a u (least_cost a u)
      la = least-law a ra wa u

      lb : IsLeastCost b u (least_cost b u)
      lb = least-law b rb wb u

      marks : has_user a.users a.mark ≡ has_user b.users b.mark
      marks = users a.mark ∙ ap (has_user b.users) mark

      split-on : (t : Bool) → has_user a.users a.mark ≡ t → least_cost a u ≡ least_cost b u
      split-on false e = la.outside e ∙ sym (lb.outside (sym marks ∙ e))
      split-on true e = between (least_cost a u) (least_cost b u) up down
        where
          up : (n : ℕ) → least_cost a u ≡ Some n → AtMost (least_cost b u) n
          up n h = let w = la.walked n h in subst (λ (o : Option ℕ). Under (least_cost b u) o) (sym (alike-cost w.path) ∙ w.costs)
              (lb.under (sym marks ∙ e) w.path (there u w.path w.walk))

          down : (n : ℕ) → least_cost b u ≡ Some n → AtMost (least_cost a u) n
          down n h = let w = lb.walked n h in subst (λ (o : Option ℕ). Under (least_cost a u) o) (alike-cost w.path ∙ w.costs)
              (la.under e w.path (back u w.path w.walk))

pub view-law : ViewLaw
view-law r g v us laws whole are u = alike-least (net_in r v us) (net_of r g) refl refl edges laws laws here (nets-whole r g) users u
  where
    edges : (k : EdgeKind) (w x : User) → has_user (ends_in v k w) x ≡ has_user (ends_of g k w) x
    edges kind.Follow w x = whole-follows g v whole w x
    edges kind.Mention w x = whole-mentions g v whole w x

    users : (x : User) → has_user us x ≡ has_user (net_of r g).users x
    users = whole-vertices g v whole us are

    here : IsWhole (net_in r v us)
    here k w x edge = let both = nets-whole r g k w x (sym (edges k w x) ∙ edge) in (users w ∙ both.0, users x ∙ both.1)
