use Rattle.kin_feed.proofs.RowSteps.{step}
use Rattle.kin_feed.proofs.rows.next_row.Goals as goal

pub returns : goal.returns
returns c = λ bytes rows h. step c.in-Ok.found bytes rows c.args.reader.now c.read_byte_record.new.self _ h (c.in-Ok.ensures.reads h.untrimmed h.ready) (c.in-Ok.ensures.ready h.untrimmed)
