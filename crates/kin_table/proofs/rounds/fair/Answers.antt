use Rattle.std.proofs.Common.{◌≡◌, ◌<◌, ◌-◌, ◌+◌, ◌∙◌, length, ltb, sym, ap, refl, arith}
use Rattle.std.specs.List.{range_with_len}
use Rattle.std.proofs.lemmas.List.Elements.{filter_passes, All-weaker}
use Rattle.std.proofs.lemmas.Bool.{ltb-true}
use Rattle.kin_ids.specs.Rounds.{rows}
use Rattle.kin_ids.proofs.Rounds.{All-filter, first_within, still-live}
use Rattle.kin_ids.proofs.RowOrder.{rows-law}
use Rattle.kin_ids.proofs.Turns.{enough-none}
use Rattle.kin_table.proofs.Turns.{took-row}
use Rattle.kin_table.specs.Lists.{list_at}
use Rattle.kin_table.proofs.rounds.fair.Goals as goal
use Rattle.kin_table.proofs.rounds.fair.Goals.{else-loop-place-test, then-loop-place-test+then-wanted-eq0}

pub loop-place-init : goal.loop-place-init
loop-place-init c = record {
  end = c.longest-place-end.ensures;
  len = ap length c.in_ok-ends.ensures.items;
  nodes = rw c.in_ok-live.ensures (first_within (length c.args.lists.now));
  live = λ q le. rw c.in_ok-live.ensures refl;
  ends = λ i. let e : c.longest-place-end.result - 0 ≡ c.longest-place-end.result = omega arith in
      rw (c.in_ok-ends.ensures.items, e, c.longest-place-end.ensures, sym c.requires, rows-law (list_at c.args.lists.now) (length c.args.lists.now)) refl;
}

pub round-wanted-requires-clause-nodes : goal.round-wanted-requires-clause-nodes
round-wanted-requires-clause-nodes c = rw (c.deref.ensures.value, c.keep.ensures) (All-filter (λ node. node < length c.args.lists.now) (λ node. ltb c.loop-place.place (length (list_at c.args.lists.now node))) c.loop-place.live.items c.loop-place.invariant.nodes)

pub round-wanted-requires-clause-more : goal.round-wanted-requires-clause-more
round-wanted-requires-clause-more c = rw (c.deref.ensures.value, c.keep.ensures)
    (All-weaker _ (λ node. c.loop-place.place < length (list_at c.args.lists.now node)) (λ node t. ltb-true _ _ t) _ (filter_passes (λ node. ltb c.loop-place.place (length (list_at c.args.lists.now node))) c.loop-place.live.items))

pub loop-place-preserved : goal.loop-place-preserved
loop-place-preserved c =
    let lists = list_at c.args.lists.now in
    let all = range_with_len 0 (length c.args.lists.now) in
    let live = still-live lists all c.loop-place.live.items c.keep.new.live.items c.loop-place.place c.keep.ensures c.loop-place.invariant.live in
    record {
      end = c.loop-place.invariant.end;
      len = c.round-wanted.ensures.len ∙ c.loop-place.invariant.len;
      nodes = rw c.keep.ensures (All-filter (λ node. node < length c.args.lists.now) (λ node. ltb c.loop-place.place (length (list_at c.args.lists.now node))) c.loop-place.live.items c.loop-place.invariant.nodes);
      live = λ q le. live q (omega arith);
      ends = λ i. took-row lists all c.keep.new.live.items c.loop-place.place c.longest-place-end.result c.loop-place.wanted c.round-wanted.result c.loop-place.ends.items c.round-wanted.new.ends.items
          c.loop-place-test.true (live c.loop-place.place (omega arith)) (rw c.deref.ensures.value at c.round-wanted.ensures.ends) i ∙ c.loop-place.invariant.ends i;
    }

pub returns : goal.returns
returns c =
    let lists = list_at c.args.lists.now in
    let all = range_with_len 0 (length c.args.lists.now) in
    elim c.loop-place-test.branch [
      | else-loop-place-test w ↦
          let none : c.longest-place-end.result - c.loop-place.place ≡ 0 = omega arith in
          rw w.ends-is (record {
            count = c.loop-place.invariant.len;
            each = λ i lt. rw none at (c.loop-place.invariant.ends i);
          })
      | then-loop-place-test+then-wanted-eq0 w ↦
          let later = rows lists all (c.loop-place.place + 1) (c.longest-place-end.result - (c.loop-place.place + 1)) in
          let kept = still-live lists all c.loop-place.live.items w.keep.new.live.items c.loop-place.place w.keep.ensures c.loop-place.invariant.live c.loop-place.place (omega arith) in
          let took = took-row lists all w.keep.new.live.items c.loop-place.place c.longest-place-end.result c.loop-place.wanted w.round-wanted.result c.loop-place.ends.items w.round-wanted.new.ends.items
          w.loop-place-test.true kept (rw w.deref.ensures.value at w.round-wanted.ensures.ends) in
          rw w.ends-is (record {
            count = w.round-wanted.ensures.len ∙ c.loop-place.invariant.len;
            each = λ i lt. rw (enough-none w.round-wanted.result later w.if-wanted-eq0.true) at (took i ∙ c.loop-place.invariant.ends i);
          })
    ]
