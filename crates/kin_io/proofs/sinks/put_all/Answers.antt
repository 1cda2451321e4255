use Rattle.std.proofs.Common.{◌∙◌}
use Rattle.kin_io.proofs.Growth.{put_more, flushed_more}
use Rattle.kin_io.proofs.sinks.put_all.Goals as goal

pub loop-at-preserved : goal.loop-at-preserved
loop-at-preserved g c =
    let inv = c.loop-at.invariant in
    let took = c.in_ok-at.ensures.took in
    let n = c.in_ok-at.field-0 in
    let more = put_more (g.O.Sink.taken c.args.sink.now) (g.O.Sink.taken c.loop-at.sink) (g.O.Sink.taken c.put.new.self) c.args.bytes.now c.loop-at.at n inv.within inv.grew took.0 took.1 in
    record {
      within = more.0;
      grew = more.1;
      wet = flushed_more c.loop-at.at n _ _ _ inv.wet c.in_ok-at.ensures.unflushes;
      calm = c.in_ok-at.ensures.cause.calm ∙ inv.calm;
    }
