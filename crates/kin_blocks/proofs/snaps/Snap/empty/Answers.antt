use Rattle.std.proofs.Common.{◌≡◌, ℕ, List, map, arith, subst}
use Rattle.std.specs.List.{range_with_len}
use Rattle.std.proofs.lemmas.List.FromFn.{map-range_with_len_more}
use Rattle.std.proofs.lemmas.Grind.{common_steps}
use Rattle.kin_graph.specs.State.{PartState, empty_part}
use Rattle.kin_blocks.specs.Snaps.{empty_stores}
use Rattle.kin_blocks.proofs.Empties.{empty-snap}
use Rattle.kin_blocks.proofs.snaps.Snap.empty.Goals as goal

pub loop-p-preserved : goal.loop-p-preserved
loop-p-preserved c =
    let more = map-range_with_len_more (λ (p : ℕ). empty_part p c.args.parts) 0 c.loop-p.p c.loop-p.p (omega arith) in
    rw more (grind (arith, common_steps))

pub invariant_of-result : goal.invariant_of-result
invariant_of-result c =
    let first : ℕ → List PartState = λ n. map (λ (p : ℕ). empty_part p c.args.parts) (range_with_len 0 n) in
    let end : c.loop-p.p ≡ c.args.parts = omega arith in
    let all : c.loop-p.stores.items ≡ empty_stores c.args.parts =
    subst (λ (n : ℕ). c.loop-p.stores.items ≡ first n) end c.loop-p.invariant in
    rw all (empty-snap c.args.parts c.requires c.ranges.parts.fits)
