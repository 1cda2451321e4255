use Rattle.std.proofs.Common.{◌++◌, ◌∷◌, [], arith, ◌∙◌, ap, append_assoc}
use Rattle.std.proofs.lemmas.List.Elements.{All-head, All-tail}
use Rattle.std.proofs.lemmas.List.Sorted.{All-permutation, IsPermutation-pop_more, length_permutation}
use Rattle.kin_ids.specs.Operations.{IsWellFormed}
use Rattle.kin_held.proofs.Pieces.{IsRun-push}
use Rattle.kin_held.proofs.chains.join.Goals as goal

pub push_reserved-requires : goal.push_reserved-requires
push_reserved-requires c =
    let count = length_permutation c.loop-next.early (c.in-Some.next ∷ c.remove.new.self) c.in-Some.ensures.taken.1 in
    omega (arith, c.loop-next.invariant.room)

pub loop-next-smaller : goal.loop-next-smaller
loop-next-smaller c =
    let count = length_permutation c.loop-next.early (c.in-Some.next ∷ c.remove.new.self) c.in-Some.ensures.taken.1 in
    omega arith

pub loop-next-preserved : goal.loop-next-preserved
loop-next-preserved c =
    let next = c.in-Some.next in
    let left = c.remove.new.self in
    let count = length_permutation c.loop-next.early (next ∷ left) c.in-Some.ensures.taken.1 in
    let formed = All-permutation IsWellFormed c.loop-next.early (next ∷ left) c.in-Some.ensures.taken.1 c.loop-next.invariant.formed in
    let so_far = c.loop-next.invariant.so_far in
    record {
      room = omega (arith, c.loop-next.invariant.room, c.push_reserved.ensures.room);
      formed = All-tail IsWellFormed next left formed;
      so_far = (
        so_far.0 ++ next ∷ [],
        c.push_reserved.ensures.items ∙ (ap (λ xs. xs ++ next ∷ []) so_far.1 ∙ append_assoc c.args.held.now.items so_far.0 (next ∷ [])),
        IsRun-push c.args.from c.loop-next.top so_far.0 next so_far.2 c.in-Some.ensures.taken.0 (All-head IsWellFormed next left formed).some,
        IsPermutation-pop_more c.args.early.now so_far.0 c.loop-next.early left next so_far.3 c.in-Some.ensures.taken.1,
      );
    }
