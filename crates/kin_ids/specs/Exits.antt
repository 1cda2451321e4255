-- The exit statuses of a program.
use Rattle.std.specs.Prelude.{ℕ}
use Rattle.kin_ids.specs.declared.statuses.Status.{Status}
use Rattle.kin_ids.specs.declared.statuses.Status.TheVariants as status

-- each cause has its own
abbrev pub exit_of : Status → ℕ
exit_of status.Done = 0
exit_of status.Usage = 2
exit_of (status.Script _) = 3
exit_of status.Read = 4
exit_of status.Write = 5
exit_of (status.Limit _) = 6
exit_of status.Memory = 7
