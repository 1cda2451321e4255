use Rattle.std.proofs.Common.{◌≡◌, take}
use Rattle.kin_report.specs.Block.{valued_users}
use Rattle.kin_report.specs.Written.{value_in}
use Rattle.kin_report.proofs.walks.valued.Given as goal

abbrev pub invariant-loop-user : goal.invariant-loop-user
invariant-loop-user l = l.list.items ≡ valued_users (value_in l.values l.kind l.number) (take l.user-index l.users)
