use Rattle.std.proofs.Common.{◌∙◌, ℕ, map, get_or, ap}
use Rattle.kin_rules.specs.Places.{place}
use Rattle.kin_pull.specs.States.{row_in}
use Rattle.kin_pull.proofs.Rows.{map-after, ok-more}
use Rattle.kin_pull.proofs.begins.row.Goals as goal

pub returns : goal.returns
returns g c =
    let at = λ (p : ℕ). get_or (row_in c.args.kept.now c.args.layer) p c.args.first.now in
    ok-more _ _ c.values_at.result (λ row e. e ∙ (ap (map at) c.requires ∙ map-after at (place c.args.users.now) c.args.more.now)) c.values_at.ensures
