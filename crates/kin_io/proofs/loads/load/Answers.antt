use Rattle.std.proofs.Common.{rules, ◌≡◌, ◌≤◌, ℕ, List, length, take, drop, ◌+◌, ◌-◌, subst, true, ◌∙◌, IfSome, Option}
use Rattle.std.specs.Result.{is_ok}
use Rattle.kin_io.proofs.Loading.{loaded_few, loaded_more}
use Rattle.kin_io.specs.Outside.{ReadsAt, ReadsFile}
use Rattle.kin_io.proofs.loads.load.Goals as goal

pub loop-buf-preserved : goal.loop-buf-preserved
loop-buf-preserved g c =
    let inv = c.loop-buf.invariant in
    let name = c.args.name.now in
    let at : c.len-in-loop-buf-2.result ≡ length c.loop-buf.bytes.items = search rules in
    let most : c.min.result ≤ c.args.limit - length c.loop-buf.bytes.items = search rules in
    let within : length c.loop-buf.bytes.items ≤ c.args.limit = search rules in
    let buf = take (c.min.result + 1) c.loop-buf.buf in
    let read : ReadsAt (g.F.Shelf.content c.loop-buf.shelf name) c.len-in-loop-buf-2.result c.in-Ok-read_at.count buf c.read_at.new.buf = c.in-Ok-read_at.ensures.reads in
    let file : IfSome (g.F.Shelf.content c.args.shelf.now name) (λ file. ReadsFile file (length c.loop-buf.bytes.items) c.in-Ok-read_at.count buf c.read_at.new.buf) =
    subst (λ (o : Option (List ℕ)). IfSome o (λ file. ReadsFile file (length c.loop-buf.bytes.items) c.in-Ok-read_at.count buf c.read_at.new.buf)) (inv.content name) (rw at at read.1) in
    let good : is_ok c.extend_from_slice.result ≡ true = search rules in
    let items = rw good at c.extend_from_slice.ensures.items in
    record {
      few = loaded_few c.args.limit c.min.result c.in-Ok-read_at.count _ _ c.loop-buf.buf _ items read.0 most within;
      front = loaded_more (g.F.Shelf.content c.args.shelf.now name) c.loop-buf.bytes.items c.extend_from_slice.new.self.items buf c.read_at.new.buf (drop (c.min.result + 1) c.loop-buf.buf) c.in-Ok-read_at.count inv.front read.0 c.read_at.auto.buf file items;
      content = λ n. c.read_at.ensures.content n ∙ inv.content n;
      calm = λ n. c.in-Ok-read_at.ensures.calm n ∙ inv.calm n;
    }
