use Rattle.std.proofs.Common.{◌≡◌, ◌<◌, ◌≤◌, ◌-◌, ◌+◌, ◌∙◌, sym, ap, arith, subst, length, take, drop, get_or, List}
use Rattle.std.proofs.lemmas.List.{take_rest, get_or-drop, length-drop}
use Rattle.std.proofs.Math.ListN.{length-take}
use Rattle.kin_ids.specs.Lines.{stamps_of, past}
use Rattle.kin_held.specs.Chains.{ChainView, chain_at}
use Rattle.kin_hub.specs.Fronts.{common, common_with}
use Rattle.kin_hub.specs.Cores.{past_in}
use Rattle.kin_hub.proofs.Fronts.{shared-first, shared-next, common_run, length-common, length-take_while, length-stamps_of}
use Rattle.kin_hub.proofs.runs.shared_end.Goals as goal

pub loop-held-init : goal.loop-held-init
loop-held-init c = rw (c.between-run.ensures, c.index-helds-0.is)
    (shared-first c.args.helds.now c.args.at c.args.to c.args.i.0 _ c.requires.some)

others-is : (c : goal.After-held-item) → c.held-item.result ≡ get_or (drop 1 c.args.helds.now) c.loop-held.held-index c.held-item.result
others-is c = c.held-item.is ∙ ap (λ hs. get_or hs c.loop-held.held-index c.held-item.result) (take_rest c.args.helds.now 1)

others-in : (c : goal.After-held-item) → c.loop-held.held-index < length (drop 1 c.args.helds.now)
others-in c = subst (λ (hs : List (List ChainView)). c.loop-held.held-index < length hs)
    (take_rest c.args.helds.now 1) c.loop-held-test.true

pub past-requires : goal.past-requires
past-requires c = rw (others-is c ∙ get_or-drop 1 c.args.helds.now c.loop-held.held-index c.held-item.result)
    (c.requires.node _ _ (let lt = others-in c in omega (arith, length-drop 1 c.args.helds.now)))

pub slice_bounds-run-end : goal.slice_bounds-run-end
slice_bounds-run-end c =
    let short : c.common_len.result ≤ length c.loop-held.run.now =
    omega (
      arith,
      c.common_len.ensures,
      length-take_while c.loop-held.run.now c.past.result.now,
      length-common
          (stamps_of c.loop-held.run.now) (stamps_of c.past.result.now),
      length-stamps_of c.loop-held.run.now,
    ) in
    omega (arith, length-take c.common_len.result c.loop-held.run.now)

pub loop-held-preserved : goal.loop-held-preserved
loop-held-preserved c =
    let items = take (length c.args.helds.now - 1) (drop 1 c.args.helds.now) in
    let at = c.args.at in
    let i = c.args.i.0 in
    let k = c.loop-held.held-index in
    let run = c.loop-held.run.now in
    let front : stamps_of (take c.common_len.result run) ≡ common (stamps_of run)
    (past at (stamps_of (chain_at (get_or items k c.held-item.result) i).held)) =
    ap (λ n. stamps_of (take n run)) c.common_len.ensures ∙ (common_run run c.past.result.now
    ∙ ap (common (stamps_of run)) (c.past.ensures ∙ ap (λ held. past at (stamps_of (chain_at held i).held)) c.held-item.is)) in
    ap (λ xs. common_with xs (past_in (drop (k + 1) items) at i)) front
    ∙ (sym (shared-next items at i k c.held-item.result (stamps_of run) c.loop-held-test.true) ∙ c.loop-held.invariant)
