use Rattle.std.proofs.Common.{◌≡◌, ◌≤◌, ◌∙◌, ap, arith, length, take}
use Rattle.std.proofs.lemmas.List.{take_rest}
use Rattle.std.proofs.Math.ListN.{length-take}
use Rattle.kin_ids.specs.Lines.{stamps_of}
use Rattle.kin_held.specs.Chains.{chain_at}
use Rattle.kin_hub.proofs.Fronts.{cut_lengths, between-is}
use Rattle.kin_hub.proofs.runs.between.Goals as goal

starts_within : (c : goal.After-count_upto-2) → c.count_upto-2.result ≤ length (take c.count_upto.result c.chain.result.now)
starts_within c =
    let ps = (chain_at c.args.held.now c.args.i.0).held in
    let more : c.count_upto-2.result ≤ c.count_upto.result =
    (cut_lengths c.args.at c.args.to c.count_upto-2.result c.count_upto.result ps c.requires.ahead
    c.count_upto-2.ensures.front c.count_upto.ensures.front c.count_upto-2.ensures.within c.count_upto.ensures.within).1 in
    let whole : length c.chain.result.now ≡ length ps = ap length c.chain.ensures.held in
    let within : c.count_upto.result ≤ length ps = c.count_upto.ensures.within in
    omega (arith, length-take c.count_upto.result c.chain.result.now)

pub slice_bounds-result-start : goal.slice_bounds-result-start
slice_bounds-result-start c = starts_within c

pub slice_bounds-result-count : goal.slice_bounds-result-count
slice_bounds-result-count c = starts_within c

pub returns : goal.returns
returns c = rw c.chain.ensures.held (ap stamps_of (take_rest _ c.count_upto-2.result)
    ∙ between-is c.args.at c.args.to c.count_upto-2.result c.count_upto.result (chain_at c.args.held.now c.args.i.0).held c.requires.ahead
    c.count_upto-2.ensures.front c.count_upto.ensures.front c.count_upto-2.ensures.within c.count_upto.ensures.within)
