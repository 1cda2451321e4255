use Rattle.std.proofs.Common.{◌<◌, ◌∙◌, length, arith}
use Rattle.std.proofs.lemmas.List.{length-set, get_or-set_other}
use Rattle.kin_pull.proofs.Rows.{put-longs, put-done, put-left}
use Rattle.kin_pull.proofs.kept.put_column.Goals as goal

pub loop-j-preserved : goal.loop-j-preserved
loop-j-preserved g c =
    let inv = c.loop-j.invariant in
    let j = c.loop-j.j in
    let lt : j < length c.loop-j.rows.items = omega (arith, c.loop-j-test.true, c.len-j-end.ensures, inv.rows) in
    let below : j < length c.loop-j.column.items = omega (arith, c.loop-j-test.true, c.len-j-end.ensures, inv.same, c.requires.long) in
    record {
      rows = length-set c.loop-j.rows.items j c.swap_at.new.row ∙ inv.rows;
      same = length-set c.loop-j.column.items j c.swap_at.new.value ∙ inv.same;
      longs = put-longs (λ r. r.items) c.args.rows.now.items c.loop-j.rows.items c.args.column.now.items c.loop-j.column.items c.args.i j
          c.index_mut.result.now c.swap_at.new.row c.index_mut-in-loop-j.result.now lt below
          c.index_mut.ensures.value c.index_mut-in-loop-j.ensures.value c.swap_at.ensures c.requires.within inv.rows inv.left inv.still
          inv.longs;
      done = put-done (λ r. r.items) c.args.rows.now.items c.loop-j.rows.items c.args.column.now.items c.loop-j.column.items c.args.i j
          c.index_mut.result.now c.swap_at.new.row c.index_mut-in-loop-j.result.now lt below
          c.index_mut.ensures.value c.index_mut-in-loop-j.ensures.value c.swap_at.ensures c.requires.within inv.rows inv.left inv.still
          inv.done;
      left = put-left (λ r. r.items) c.args.rows.now.items c.loop-j.rows.items c.args.column.now.items c.loop-j.column.items c.args.i j
          c.index_mut.result.now c.swap_at.new.row c.index_mut-in-loop-j.result.now lt below
          c.index_mut.ensures.value c.index_mut-in-loop-j.ensures.value c.swap_at.ensures c.requires.within inv.rows inv.left inv.still;
      still = λ q d le. get_or-set_other c.loop-j.column.items j q c.swap_at.new.value d (λ same. omega (arith, le, same))
          ∙ inv.still q d (omega (arith, le));
    }
