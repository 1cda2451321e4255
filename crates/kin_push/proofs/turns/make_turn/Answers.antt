use Rattle.std.proofs.Common.{◌≡◌, true, false, inl, refl, sym}
use Rattle.std.proofs.lemmas.Bool.{both_ways}
use Rattle.kin_push.specs.States.{is_active, state}
use Rattle.kin_push.proofs.turns.make_turn.Goals as goal

pub returns-then-not-is_active-clause-which : goal.returns-then-not-is_active-clause-which
returns-then-not-is_active-clause-which g c =
    let off : is_active (state c.args.users.now c.args.values.now c.args.active.now) c.args.u ≡ false = sym
    (c.if-not-is_active.ensures c.args.values.now) in rw off refl

pub returns-then-not-is_active-clause-moved : goal.returns-then-not-is_active-clause-moved
returns-then-not-is_active-clause-moved g c = record {
  users = refl;
  moved = record { values = λ x. inl refl; actives = λ x on. inl on; turned = sym (c.if-not-is_active.ensures c.args.values.now) };
}

pub returns-then-not-is_active-clause-rested : goal.returns-then-not-is_active-clause-rested
returns-then-not-is_active-clause-rested g c on = absurd (both_ways _ (sym (c.if-not-is_active.ensures c.args.values.now)) on)

pub returns-then-not-is_active-clause-nearer : goal.returns-then-not-is_active-clause-nearer
returns-then-not-is_active-clause-nearer g c on = absurd (both_ways _ (sym (c.if-not-is_active.ensures c.args.values.now)) on)

pub turn_active-requires-clause-active : goal.turn_active-requires-clause-active
turn_active-requires-clause-active g c = sym (c.if-not-is_active.ensures c.args.values.now)

pub returns-clause-which : goal.returns-clause-which
returns-clause-which g c =
    let on : is_active (state c.args.users.now c.args.values.now c.args.active.now) c.args.u ≡ true = sym
    (c.if-not-is_active.ensures c.args.values.now) in rw on refl

pub returns-clause-idle : goal.returns-clause-idle
returns-clause-idle g c off = absurd (both_ways _ off (sym (c.if-not-is_active.ensures c.args.values.now)))
