use Rattle.std.proofs.Common.{◌≡◌, take}
use Rattle.kin_rules.specs.Results.{number_in}
use Rattle.kin_rules.specs.Top.{numbered_users}
use Rattle.kin_report.proofs.numbers.numbered.Given as goal

abbrev pub invariant-loop-user : goal.invariant-loop-user
invariant-loop-user l = l.list.items ≡ numbered_users (number_in l.values l.which) (take l.user-index l.users)
