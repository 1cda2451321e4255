use Rattle.std.proofs.Common.{◌≡◌, ◌∷◌, rules}
use Rattle.kin_rules.proofs.LayerRows.{ends-next}
use Rattle.kin_pull.proofs.places.ends.Goals as goal

pub loop-half-preserved : goal.loop-half-preserved
loop-half-preserved c =
    let here : c.loop-half.half-iterator ≡ c.in-Some.half.now ∷ c.next.new.self = search rules in
    ends-next c.args.users.now c.in-Some.half.now c.next.new.self c.loop-half.half-iterator c.loop-half.row.items _ _ here
    c.loop-half.invariant c.in_ok-put_end.ensures
