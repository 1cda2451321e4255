use Rattle.std.proofs.Common.{◌<◌, ◌∙◌, length, arith}
use Rattle.std.proofs.lemmas.List.{length-set}
use Rattle.kin_pull.proofs.Rows.{poured-longs, poured-done, poured-left, poured-still}
use Rattle.kin_pull.proofs.kept.pour_all.Goals as goal

pub loop-j-preserved : goal.loop-j-preserved
loop-j-preserved g c =
    let inv = c.loop-j.invariant in
    let below : c.loop-j.j < length c.loop-j.draft.items = omega (arith, c.loop-j-test.true, c.len-j-end.ensures, inv.same) in
    let lt : c.loop-j.j < length c.loop-j.rows.items = omega
    (arith, c.loop-j-test.true, c.len-j-end.ensures, inv.rows, c.requires.layers) in
    record {
      rows = length-set c.loop-j.rows.items c.loop-j.j c.pour.new.row ∙ inv.rows;
      same = length-set c.loop-j.draft.items c.loop-j.j c.pour.new.drawn ∙ inv.same;
      longs = poured-longs (λ r. r.items)
          (λ r. r.items) c.args.rows.now.items c.loop-j.rows.items c.args.draft.now.items c.loop-j.draft.items c.loop-j.j
          c.index_mut.result.now c.pour.new.row c.index_mut-in-loop-j.result.now c.pour.new.drawn
          lt below c.index_mut.ensures.value c.index_mut-in-loop-j.ensures.value c.pour.ensures.long c.pour.ensures.each inv.left
          inv.still inv.longs;
      done = poured-done (λ r. r.items)
          (λ r. r.items) c.args.rows.now.items c.loop-j.rows.items c.args.draft.now.items c.loop-j.draft.items c.loop-j.j
          c.index_mut.result.now c.pour.new.row c.index_mut-in-loop-j.result.now c.pour.new.drawn
          lt below c.index_mut.ensures.value c.index_mut-in-loop-j.ensures.value c.pour.ensures.long c.pour.ensures.each inv.left
          inv.still inv.done;
      left = poured-left (λ r. r.items)
          (λ r. r.items) c.args.rows.now.items c.loop-j.rows.items c.args.draft.now.items c.loop-j.draft.items c.loop-j.j
          c.index_mut.result.now c.pour.new.row c.index_mut-in-loop-j.result.now c.pour.new.drawn
          lt below c.index_mut.ensures.value c.index_mut-in-loop-j.ensures.value c.pour.ensures.long c.pour.ensures.each inv.left inv.still;
      still = poured-still (λ r. r.items)
          (λ r. r.items) c.args.rows.now.items c.loop-j.rows.items c.args.draft.now.items c.loop-j.draft.items c.loop-j.j
          c.index_mut.result.now c.pour.new.row c.index_mut-in-loop-j.result.now c.pour.new.drawn
          lt below c.index_mut.ensures.value c.index_mut-in-loop-j.ensures.value c.pour.ensures.long c.pour.ensures.each inv.left inv.still;
    }
