use Rattle.std.proofs.Common.{rules}
use Rattle.csv.specs.Records.{fields_of}
use Rattle.kin_feed.proofs.Fields.{no_field}
use Rattle.kin_feed.proofs.ItemLists.{read_more, read_none}
use Rattle.kin_feed.proofs.parses.read_items.Goals as goal

pub loop-i-preserved : goal.loop-i-preserved
loop-i-preserved c =
    read_more (fields_of c.args.row.now) c.loop-i.i c.in-Some.field.now c.in-Some-read_item.item c.loop-i.items c.push.new.self c.loop-i.invariant c.in-Some.ensures.value c.in-Some-read_item.ensures c.in_ok-push.ensures.ok

pub returns-in_default : goal.returns-in_default
returns-in_default c = absurd (no_field (fields_of c.args.row.now) c.loop-i.i c.in_default.ensures.value (search rules))

pub returns-in_default-read_item : goal.returns-in_default-read_item
returns-in_default-read_item c = read_none (fields_of c.args.row.now) c.loop-i.i c.in-Some.field.now c.loop-i.items c.loop-i.invariant c.in-Some.ensures.value c.in_default-read_item.ensures
