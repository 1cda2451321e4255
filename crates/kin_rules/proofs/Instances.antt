-- Hops and closeness are rules, and their values the least of all walks.
use Rattle.std.proofs.Common.{◌≡◌, ◌+◌, ◌&&◌, ◌∙◌, ℕ, suc, Bool, true, false, [], ◌∷◌, Option, Some, None, length, if◌then◌else◌, arith, refl, sym, ap}
use Rattle.std.specs.List.{list_all, sum_by}
use Rattle.std.proofs.lemmas.List.Sums.{sum_by-cons}
use Rattle.kin_rules.specs.declared.kinds.EdgeKind.{EdgeKind}
use Rattle.kin_rules.specs.declared.kinds.EdgeKind.TheVariants as kind
use Rattle.kin_rules.specs.Walks.{Step, passed, cost}
use Rattle.kin_rules.specs.RuleLaws.{hops-laws, close-laws}
use Rattle.kin_rules.specs.Instances.{hops, close, hops_rule, close_rule, is_follow, edge_cost}
use Rattle.kin_rules.specs.Nets.{net_of, HopsCountEdges, CloseAddsUp, HopsAreLeast, CloseIsLeast}
use Rattle.kin_rules.proofs.LeastCosts.{least-law}
use Rattle.kin_rules.proofs.Nets.{nets-whole}

pub hops-least : HopsAreLeast
hops-least g landmark u = least-law (net_of (hops_rule landmark) g) hops-laws (nets-whole (hops_rule landmark) g) u

pub close-least : CloseIsLeast
close-least g landmark u = least-law (net_of (close_rule landmark) g) close-laws (nets-whole (close_rule landmark) g) u

pub hops-count : HopsCountEdges
hops-count g landmark [] = refl
hops-count g landmark (s ∷ ws) = here s.kind (cost (net_of (hops_rule landmark) g) ws) (list_all (λ t. is_follow t.kind) ws) (hops-count g landmark ws)
  where
    here : (k : EdgeKind) (o : Option ℕ) (b : Bool) → o ≡ (if b then Some (length ws) else None) → passed (hops k) o ≡ (if is_follow k && b then Some (suc (length ws)) else None)
    here kind.Follow o true e = rw e (ap Some (omega arith))
    here kind.Follow o false e = rw e refl
    here kind.Mention None b e = refl
    here kind.Mention (Some n) b e = refl

pub close-adds : CloseAddsUp
close-adds g landmark [] = refl
close-adds g landmark (s ∷ ws) = here s.kind (cost (net_of (close_rule landmark) g) ws) (close-adds g landmark ws) ∙ sym (ap Some (sum_by-cons (λ (t : Step). edge_cost t.kind) s ws))
  where
    here : (k : EdgeKind) (o : Option ℕ) → o ≡ Some (sum_by (λ (t : Step). edge_cost t.kind) ws) → passed (close k) o ≡ Some (edge_cost k + sum_by (λ (t : Step). edge_cost t.kind) ws)
    here kind.Follow o e = rw e (ap Some (omega arith))
    here kind.Mention o e = rw e (ap Some (omega arith))
