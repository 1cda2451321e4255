use Rattle.std.proofs.Common.{arith}
use Rattle.kin_rules.proofs.ExposureSteps.{put-row, keep-rows}
use Rattle.kin_rules.proofs.exposure_lists.put_entry.Goals as goal

pub returns-in_ok-push-in-Ok : goal.returns-in_ok-push-in-Ok
returns-in_ok-push-in-Ok c =
    let within = c.in-Ok.ensures.within in
    let long = c.requires.long in
    record {
      put = λ es was. put-row (λ r. r.items) c.args.rows.now c.args.tags.now es c.args.entry.now c.in-Ok.at c.push.new.self c.index-rows-at.result c.requires.ascend c.in-Ok.ensures (omega (arith, within, long))
          c.in_ok-push-in-Ok.ensures.items was;
    }

pub returns-in-Err : goal.returns-in-Err
returns-in-Err c = record { put = λ es was. keep-rows (λ r. r.items) c.args.rows.now c.args.tags.now es c.args.entry.now c.in-Err.ensures.none was }
