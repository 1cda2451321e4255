use Rattle.std.proofs.Common.{◌≡◌, true, false, sym, subst, rules}
use Rattle.kin_world.specs.Worlds.{WorldView}
use Rattle.kin_world.specs.Mining.{OpensNext, Opens}
use Rattle.kin_world.specs.Stands.{HasHistory, KeepsOrBegins}
use Rattle.kin_world.proofs.Mines.{opens-history, opens-open, opens-closed, mine-stops}
use Rattle.kin_world.proofs.Running.{on_err}
use Rattle.kin_world.proofs.cores.Core.mine.Goals.{then-not-self+in_ok-why+in_default, else-not-self}
use Rattle.kin_world.proofs.cores.Core.mine.Goals as goal

pub mine_open-requires-clause-history : goal.mine_open-requires-clause-history
mine_open-requires-clause-history c =
    let old = c.args.self.now in
    elim c.if-not-self.branch [
      | then-not-self+in_ok-why+in_default w ↦
          subst HasHistory (sym w.self-is) (opens-history old c.requires.history w.open_next.new.self (rw w.in_default.is at w.in_ok-why.ensures.opens))
      | else-not-self w ↦ subst HasHistory (sym w.self-is) c.requires.history
    ]

pub returns-in_err-epoch-clause-err : goal.returns-in_err-epoch-clause-err
returns-in_err-epoch-clause-err c =
    let old = c.args.self.now in
    let new = c.mine_open.new.self in
    let stops : Opens old.is_open old c.if-not-self.self → KeepsOrBegins old new = λ opens. mine-stops old c.if-not-self.self new opens c.in_err-epoch.ensures.err in
    on_err _ (KeepsOrBegins old new) (elim c.if-not-self.branch [
      | then-not-self+in_ok-why+in_default w ↦ stops (opens-closed old c.if-not-self.self (search rules) (subst (OpensNext old) (sym w.self-is) (rw w.in_default.is at w.in_ok-why.ensures.opens)))
      | else-not-self w ↦ stops (opens-open old c.if-not-self.self (search rules) w.self-is)
    ])
