-- The counts of faults of the trusted edge.
use Rattle.std.specs.Prelude.{ℕ}
use Rattle.kin_io.specs.declared.files.FileShelf.{FileShelf}
use Rattle.kin_io.specs.declared.outputs.StdSink.{StdSink}

-- how often a read of any file failed
abbrev pub file_faults : {R : Type 0} → FileShelf R → ℕ
file_faults s = s.faults

-- how often a write to standard output failed
abbrev pub output_faults : {R : Type 0} → StdSink R → ℕ
output_faults s = s.faults
