use Rattle.std.proofs.Common.{refl}
use Rattle.kin_ids.specs.declared.ops.Op.{Op}
use Rattle.kin_ids.specs.declared.ops.Op.TheVariants as op
use Rattle.kin_hub.proofs.Follows.{knows, places, small-feeds, feeds}
use Rattle.kin_hub.proofs.tests.hub_with_follow.Goals as goal

abbrev into : Op
into = op.AddIn (record { 0 = 2 }) (record { 0 = 1 })

abbrev out : Op
out = op.AddOut (record { 0 = 1 }) (record { 0 = 2 })

pub take-requires-clause-known : goal.take-requires-clause-known
take-requires-clause-known g c = knows c.in_ok-hub.hub (record { 0 = 0 }) into c.in_ok-to_followed.to_followed c.in_ok-to_followed.ensures
    refl (c.in_ok-hub.ensures.stands feeds refl)

pub take-requires-2-clause-known : goal.take-requires-2-clause-known
take-requires-2-clause-known g c = knows c.take.new.self (record { 0 = 1 }) out c.in_ok-from_follower.from_follower
    c.in_ok-from_follower.ensures refl
    (places c.in_ok-hub.hub (record { 0 = 0 }) into c.in_ok-to_followed.to_followed c.in_ok-to_followed.ensures refl c.take.new.self
    c.in_ok-take.ensures.stands (c.in_ok-hub.ensures.stands feeds refl))

pub returns-clause-small : goal.returns-clause-small
returns-clause-small g c = small-feeds c.take-2.new.self
    (places c.take.new.self (record { 0 = 1 }) out c.in_ok-from_follower.from_follower c.in_ok-from_follower.ensures refl c.take-2.new.self
    c.in_ok-take-2.ensures.stands
    (places c.in_ok-hub.hub (record { 0 = 0 }) into c.in_ok-to_followed.to_followed c.in_ok-to_followed.ensures refl c.take.new.self
    c.in_ok-take.ensures.stands (c.in_ok-hub.ensures.stands feeds refl)))
