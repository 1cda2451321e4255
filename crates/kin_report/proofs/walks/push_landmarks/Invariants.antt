use Rattle.std.proofs.Common.{◌≡◌, ◌++◌, drop}
use Rattle.kin_report.specs.Text.{text_of}
use Rattle.kin_report.specs.Written.{result_walks}
use Rattle.kin_report.proofs.walks.push_landmarks.Given as goal

-- what is written, with the lines of the landmarks that are left
abbrev pub invariant-loop-number : goal.invariant-loop-number
invariant-loop-number l =
    l.text.items ++ text_of (result_walks l.values l.top l.kind l.number (drop l.number l.landmarks))
    ≡ l.fn.text.items ++ text_of (result_walks l.values l.top l.kind 0 l.landmarks)
