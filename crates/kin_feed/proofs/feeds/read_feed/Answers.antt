use Rattle.std.proofs.Common.{rules, arith, ap, ◌≡◌, ◌∙◌, ◌++◌, ◌∷◌, [], List, ℕ, length, map, ◌+◌}
use Rattle.std.proofs.lemmas.List.{length-append, length-map}
use Rattle.csv.specs.Records.{fields_of}
use Rattle.kin_ids.specs.declared.ops.Record.{Record}
use Rattle.kin_feed.specs.Records.{record_of, rows_of}
use Rattle.kin_feed.specs.RowsRead.{HasRead}
use Rattle.kin_feed.proofs.Small.{small_rows}
use Rattle.kin_feed.proofs.RowSteps.{one_of_all, one_of_bytes, fed_more}
use Rattle.kin_feed.proofs.feeds.read_feed.Goals as goal

pub returns-then-len-limit-clause-many : goal.returns-then-len-limit-clause-many
returns-then-len-limit-clause-many c = λ _.
    let inv = c.loop-bad.invariant in
    let row = fields_of c.next_row.new.row in
    let more : HasRead c.args.bytes.now (inv.rows ++ row ∷ []) c.next_row.new.reader = rw c.if-branch.true at (c.in_ok-next_row.ensures c.args.bytes.now inv.rows inv.read) in
    let count : c.len.result ≡ length c.loop-bad.all.items = search rules in
    omega (arith, one_of_all _ inv.rows row _ more, c.if-len-limit.true, count, ap (λ (t : List Record). length t) inv.records, length-map inv.rows record_of)

pub loop-bad-preserved : goal.loop-bad-preserved
loop-bad-preserved c =
    let inv = c.loop-bad.invariant in
    let row = fields_of c.next_row.new.row in
    let more : HasRead c.args.bytes.now (inv.rows ++ row ∷ []) c.next_row.new.reader = rw c.if-branch.true at (c.in_ok-next_row.ensures c.args.bytes.now inv.rows inv.read) in
    let count : c.len.result ≡ length c.loop-bad.all.items = search rules in
    let position : c.len-in-loop-bad.result ≡ length c.loop-bad.all.items = search rules in
    let next = fed_more inv.rows row c.loop-bad.all.items c.push.new.all.items c.loop-bad.bad.items c.note_bad.new.bad.items c.in_ok-record.record c.len-in-loop-bad.result inv.records c.in_ok-record.ensures c.in_ok-push.ensures inv.bad c.in_ok-note_bad.ensures position in
    record {
      rows = inv.rows ++ row ∷ [];
      read = more;
      records = next.0;
      few = omega (arith, c.if-len-limit.false, count, ap (λ (t : List Record). length t) inv.records, length-map inv.rows record_of, length-append inv.rows (row ∷ []));
      bad = next.1;
    }

pub loop-bad-smaller : goal.loop-bad-smaller
loop-bad-smaller c =
    let inv = c.loop-bad.invariant in
    let row = fields_of c.next_row.new.row in
    let more : HasRead c.args.bytes.now (inv.rows ++ row ∷ []) c.next_row.new.reader = rw c.if-branch.true at (c.in_ok-next_row.ensures c.args.bytes.now inv.rows inv.read) in
    let grew : length c.push.new.all.items ≡ length c.loop-bad.all.items + 1 = omega (arith, ap (λ (t : List Record). length t) c.in_ok-push.ensures, length-append c.loop-bad.all.items (c.in_ok-record.record ∷ [])) in
    omega (arith, one_of_bytes _ inv.rows row _ more, grew, ap (λ (t : List Record). length t) inv.records, length-map inv.rows record_of)

pub invariant_of-result : goal.invariant_of-result
invariant_of-result c = let inv = c.loop-bad.invariant in record { bad = inv.bad; small = rw inv.records (small_rows inv.rows) }

pub returns-clause-ok : goal.returns-clause-ok
returns-clause-ok c =
    let inv = c.loop-bad.invariant in
    let all : inv.rows ≡ rows_of c.args.bytes.now = rw c.if-branch.false at (c.in_ok-next_row.ensures c.args.bytes.now inv.rows inv.read) in
    inv.records ∙ ap (map record_of) all

pub returns-clause-within : goal.returns-clause-within
returns-clause-within c =
    let inv = c.loop-bad.invariant in
    let all : inv.rows ≡ rows_of c.args.bytes.now = rw c.if-branch.false at (c.in_ok-next_row.ensures c.args.bytes.now inv.rows inv.read) in
    omega (arith, length-map (rows_of c.args.bytes.now) record_of, ap (λ (t : List (List (List ℕ))). length t) all, inv.few)
