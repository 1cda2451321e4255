use Rattle.std.proofs.Common.{◌≡◌, ◌∙◌, ℕ, ◌<◌, List, [], ap, arith, length}
use Rattle.std.specs.Prelude.{map}
use Rattle.std.proofs.lemmas.List.{get_or_read}
use Rattle.kin_ids.specs.declared.ops.Piece.{Piece}
use Rattle.kin_ids.specs.declared.stamps.Stamp.{Stamp}
use Rattle.kin_ids.specs.Lines.{stamps_of}
use Rattle.kin_held.specs.Chains.{ChainView, chain_at}
use Rattle.kin_table.specs.Tables.{agreed_of, last_of}
use Rattle.kin_hub.specs.Cores.{CoreView, held_at, chain_of, stamps_between}
use Rattle.kin_hub.specs.Cuts.{front_for}
use Rattle.kin_hub.proofs.Fronting.{front-stamps}
use Rattle.kin_hub.proofs.cores.Core.pending.Goals as goal

pub returns : goal.returns
returns c =
    let now = c.args.self.now in
    let i = c.args.i.0 in
    let last : c.last-last.result ≡ (last_of now.table i).to = c.last-last.ensures
    ∙ ap (λ (v : CoreView). (last_of v.table i).to) c.self.view_is in
    let agreed : c.agreed.result ≡ agreed_of now.table i = c.agreed.ensures ∙ ap (λ (v : CoreView). agreed_of v.table i) c.self.view_is in
    let some : 0 < length c.self.inside.helds.items = (let rows = c.self.invariant.0.parts in let one = c.self.invariant.0.table.parts in
    omega arith) in
    let held : c.index.result.now ≡ held_at now.helds 0 = get_or_read c.self.inside.helds.items _ _ some c.index.ensures []
    ∙ ap (λ (v : CoreView). held_at v.helds 0) c.self.view_is in
    let run : stamps_of c.between-run.result.now ≡ stamps_between (chain_of now 0 i) (last_of now.table i).to (agreed_of now.table i) =
    c.between-run.ensures ∙ (ap (λ (chains : List ChainView). stamps_between (chain_at chains i) c.last-last.result c.agreed.result) held
    ∙ (ap (λ (at : ℕ). stamps_between (chain_of now 0 i) at c.agreed.result) last
    ∙ ap (stamps_between (chain_of now 0 i) (last_of now.table i).to) agreed)) in
    c.of.ensures ∙ (c.in_ok-stamps.ensures ∙ (ap (map (λ (x : Piece). x.stamp)) c.front.ensures
    ∙ (front-stamps c.args.n c.between-run.result.now ∙ ap (front_for {A = Stamp} c.args.n) run)))
