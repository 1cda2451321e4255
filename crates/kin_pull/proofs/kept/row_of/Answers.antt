use Rattle.std.proofs.Common.{◌∙◌, arith}
use Rattle.kin_pull.proofs.Rows.{row-there, positive}
use Rattle.kin_pull.proofs.kept.row_of.Goals as goal

pub returns : goal.returns
returns g c =
    let some = positive c.args.layer c.if-layer-eq0.false in
    c.as_slice.ensures.value ∙ row-there (λ r. r.items) c.args.rows.now c.args.layer c.index-rows-i.result some (omega
    (arith, some, c.if-i-rows.false)) c.index-rows-i.is
