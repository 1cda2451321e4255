use Rattle.std.proofs.Common.{◌≡◌, ◌∙◌, ℕ, List, Some, ap, subst, sym, length}
use Rattle.std.specs.Prelude.{◌↔◌, IsErrOf, IfOk, map}
use Rattle.std.proofs.lemmas.List.{length-map}
use Rattle.std.proofs.lemmas.List.FromFn.{length-map-range_with_len}
use Rattle.kin_ids.specs.declared.ids.PartId.{PartId}
use Rattle.kin_ids.specs.declared.stamps.Stamp.{Stamp}
use Rattle.kin_table.specs.declared.answers.CutRefused.TheVariants as refused
use Rattle.kin_table.specs.Tables.{agreed_of, last_of, missing_of}
use Rattle.kin_hub.specs.Cores.{CoreView, chain_of, stamps_between, since_cut}
use Rattle.kin_hub.specs.Cuts.{front_for}
use Rattle.kin_hub.proofs.Fronting.{cut-fronts}
use Rattle.kin_table.specs.Cuts.{IsNextCut}
use Rattle.kin_hub.proofs.cores.Core.cut.Goals as goal

pub cut-requires-clause-lists : goal.cut-requires-clause-lists
cut-requires-clause-lists c =
    let now = c.args.self.now in
    let f : ℕ → List Stamp = λ i. stamps_between (chain_of now 0 i) (last_of now.table i).to (agreed_of now.table i) in
    ap length (c.deref.ensures.value ∙ c.in_ok-lists.ensures) ∙ (length-map (since_cut now) (front_for {A = Stamp} c.args.n)
    ∙ (length-map-range_with_len f 0 (length now.table.agreed) ∙ ap (λ (v : CoreView). length v.table.agreed) (sym c.self.view_is)))

pub returns-clause-cut : goal.returns-clause-cut
returns-clause-cut c =
    let now = c.args.self.now in
    let f : ℕ → List Stamp = λ i. stamps_between (chain_of now 0 i) (last_of now.table i).to (agreed_of now.table i) in
    let lists = c.deref.ensures.value ∙ c.in_ok-lists.ensures in
    cut-fronts now.table (since_cut now) (length-map-range_with_len f 0 (length now.table.agreed)) c.requires.sized c.args.n c.cut.result
    (subst (λ (v : CoreView). IfOk c.cut.result (IsNextCut v.table c.args.n (map (front_for c.args.n) (since_cut now)))) c.self.view_is
    (subst (λ (ls : List (List Stamp)). IfOk c.cut.result (IsNextCut c.self.inside.table c.args.n ls)) lists c.cut.ensures.cut))

pub returns-clause-not_reported : goal.returns-clause-not_reported
returns-clause-not_reported c = subst (λ (v : CoreView). (p : PartId) → IsErrOf c.cut.result (refused.NotReported p) ↔
    (missing_of v.table ≡ Some p.0)) c.self.view_is c.cut.ensures.not_reported
