use Rattle.std.proofs.Common.{◌≡◌, ◌∙◌, Bool, true, false, List, None, map, length, if◌then◌else◌, ap, sym, subst, refl}
use Rattle.std.proofs.lemmas.Result.{IfOk-weaker}
use Rattle.kin_ids.specs.declared.ids.User.{User}
use Rattle.kin_ids.specs.Users.{has_user}
use Rattle.kin_ids.specs.Graph.{Graph, vertices}
use Rattle.kin_graph.specs.Views.{AreVertices}
use Rattle.kin_graph.proofs.Wholes.{whole-vertex}
use Rattle.kin_rules.specs.Costs.{least_cost}
use Rattle.kin_rules.specs.Nets.{net_of}
use Rattle.kin_rules.specs.Walks.{Rule, IsRule}
use Rattle.kin_rules.proofs.EdgeRows.{read-edges, least-outside}
use Rattle.kin_rules.proofs.Nets.{nets-whole}
use Rattle.kin_rules.proofs.walks.walk_by.Goals as goal

pub costs_of-requires : goal.costs_of-requires
costs_of-requires g c = ap length c.as_slice-3.ensures.value ∙ c.in_ok-values.ensures.length ∙ ap length (c.in_ok-index.ensures ∙ c.as_slice.ensures.value ∙ sym c.as_slice-2.ensures.value)

-- who is no vertex has no cost
valued : (r : Rule) (g : Graph) → IsRule r.along r.most → (us : List User) → ((u : User) → has_user us u ≡ has_user (vertices g) u) → (u : User)
    → (if has_user us u then least_cost (net_of r g) u else None) ≡ least_cost (net_of r g) u
valued r g law us same u = here (has_user us u) refl
  where
    here : (b : Bool) → has_user us u ≡ b → (if b then least_cost (net_of r g) u else None) ≡ least_cost (net_of r g) u
    here true e = refl
    here false e = sym (least-outside (net_of r g) law (nets-whole r g) u (sym (same u) ∙ e))

pub returns : goal.returns
returns g c =
    let r = g.R.PushRule.seen c.args.rule.now in
    let v = g.V.View.seen c.args.view.now in
    let index = c.in_ok-index.ensures ∙ c.as_slice.ensures.value in
    IfOk-weaker c.costs_of.result _ _ (λ costs h graph whole u.
    let are : AreVertices (g.V.View.seen c.args.view.now) c.in_ok-users.users.items = record { ascend = c.in_ok-users.ensures.ascend; all = c.in_ok-users.ensures.vertices } in
    let read = read-edges graph v c.in_ok-index.index c.in_ok-follows.follows c.in_ok-mentions.mentions whole (subst (λ (us : List User). AreVertices (g.V.View.seen c.args.view.now) us) (sym index) are)
    c.in_ok-follows.ensures c.in_ok-mentions.ensures in
    let values = c.as_slice-3.ensures.value ∙ c.in_ok-values.ensures.least graph read ∙ ap (λ (us : List User). map (least_cost (net_of (g.R.PushRule.seen c.args.rule.now) graph)) us) (index ∙ sym c.as_slice-2.ensures.value) in
    h (least_cost (net_of r graph)) values u
    ∙ valued r graph (g.met.R.PushRule.laws c.args.rule.now) c.as_slice-2.result.now (λ x. ap (λ (us : List User). has_user us x) c.as_slice-2.ensures.value ∙ c.in_ok-users.ensures.vertices x ∙ whole-vertex graph v whole x) u)
    c.costs_of.ensures
