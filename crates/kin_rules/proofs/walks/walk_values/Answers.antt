use Rattle.std.proofs.Common.{◌≡◌, ◌*◌, ◌∙◌, ℕ, List, Option, None, length, get_or, sym, subst, ap, ap₂}
use Rattle.std.proofs.lemmas.List.{length-replicate}
use Rattle.kin_ids.specs.declared.ids.User.{User}
use Rattle.kin_rules.specs.Places.{place, found}
use Rattle.kin_rules.specs.Rounds.{Tally, offered, blank_tally}
use Rattle.kin_rules.specs.Going.{Going}
use Rattle.kin_rules.specs.Nets.{net_of, net_on}
use Rattle.kin_rules.proofs.Nets.{nets-whole}
use Rattle.kin_rules.proofs.EdgeRows.{edges-whole, on-least, found-some, found-none}
use Rattle.kin_rules.proofs.RoundSteps.{start-blank, start-going, length-offered}
use Rattle.kin_rules.proofs.PlacedValues.{values-mapped}
use Rattle.kin_rules.proofs.walks.walk_values.Goals as goal
use Rattle.kin_rules.proofs.walks.walk_values.Goals.{in-Some+in_ok-offer, in_default}

pub returns-clause-length : goal.returns-clause-length
returns-clause-length g c =
    let blank = c.in_ok-walk.ensures ∙ ap blank_tally c.len.ensures in
    let begun : length c.match-find.walk.values ≡ length c.args.index.now = elim c.match-find.branch [
      | in-Some+in_ok-offer w ↦ ap (λ (t : Tally). length t.values) (w.walk-is ∙ w.in_ok-offer.ensures) ∙ length-offered 0 0 w.in-Some.place c.in_ok-walk.walk ∙ ap (λ (t : Tally). length t.values) blank
          ∙ length-replicate {A = Option ℕ} (length c.args.index.now) None
      | in_default w ↦ ap (λ (t : Tally). length t.values) (w.walk-is ∙ blank) ∙ length-replicate {A = Option ℕ} (length c.args.index.now) None
    ] in
    ap length c.into_values.ensures ∙ c.in_ok-run.ensures.length ∙ begun

pub returns-clause-least : goal.returns-clause-least
returns-clause-least g c graph are =
    let r = g.R.PushRule.seen c.args.rule.now in
    let us = c.args.index.now in
    let net = net_of r graph in
    let law = g.met.R.PushRule.laws c.args.rule.now in
    let blank = c.in_ok-walk.ensures ∙ ap blank_tally c.len.ensures in
    let start : Going (net_on c.args.index.now (net_of (g.R.PushRule.seen c.args.rule.now) graph)) c.args.index.now 0 c.match-find.walk = elim c.match-find.branch [
      | in-Some+in_ok-offer w ↦
          let fs = found-some c.args.index.now (g.R.PushRule.seen c.args.rule.now).mark w.in-Some.place (ap (λ (u : User). found c.args.index.now u) (sym c.landmark.ensures) ∙ sym c.find.ensures ∙ w.in-Some.is) in
          let begun = w.walk-is ∙ w.in_ok-offer.ensures ∙ ap₂ (λ (p : ℕ) (t : Tally). offered 0 0 p t) fs.1 blank in
          subst (λ (t : Tally). Going (net_on c.args.index.now (net_of (g.R.PushRule.seen c.args.rule.now) graph)) c.args.index.now 0 t) (sym begun) (start-going (net_on c.args.index.now (net_of (g.R.PushRule.seen c.args.rule.now) graph)) fs.0)
      | in_default w ↦
          let gone = found-none c.args.index.now (g.R.PushRule.seen c.args.rule.now).mark (ap (λ (u : User). found c.args.index.now u) (sym c.landmark.ensures) ∙ sym c.find.ensures ∙ w.in_default.is) in
          subst (λ (t : Tally). Going (net_on c.args.index.now (net_of (g.R.PushRule.seen c.args.rule.now) graph)) c.args.index.now 0 t) (sym (w.walk-is ∙ blank)) (start-blank (net_on c.args.index.now (net_of (g.R.PushRule.seen c.args.rule.now) graph)) gone)
    ] in
    let least = c.in_ok-run.ensures.least graph us are (ap (λ (n : ℕ). 3 * n) c.len-2.ensures) start in
    values-mapped us c.into_values.result.items (λ x. _) are.ascend (returns-clause-length g c)
    (λ x. ap (λ (vs : List (Option ℕ)). get_or vs (place c.args.index.now x) None) c.into_values.ensures ∙ least x ∙ on-least net us law (nets-whole r graph) (edges-whole r graph us are.vertices) are.vertices x)
