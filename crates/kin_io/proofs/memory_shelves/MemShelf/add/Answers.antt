use Rattle.std.proofs.Common.{string_bytes}
use Rattle.kin_io.proofs.Kept.{bytes_after, faults_stay}
use Rattle.kin_io.proofs.memory_shelves.MemShelf.add.Goals as goal

pub returns-clause-ok : goal.returns-clause-ok
returns-clause-ok c = λ n. bytes_after (string_bytes c.args.name) c.args.self.now.files c.insert.new.self _ c.in_ok-insert.ensures.updates n

pub returns-clause-counts : goal.returns-clause-counts
returns-clause-counts c = λ n.
    faults_stay (string_bytes c.args.name) c.args.self.now.files c.insert.new.self _ c.in_ok-insert.ensures.updates n c.args.self.now.missing (rw (← c.as_str.ensures.value) c.faults_of-faults.ensures)
