use Rattle.std.proofs.Common.{ap, sym, arith, rules, ◌≡◌}
use Rattle.std.specs.BTreeMap.{get_by_text}
use Rattle.kin_io.proofs.Kept.{bytes_in, faults_in, bytes_stay, faults_grow, same_after, others_stay, reads_kept}
use Rattle.kin_io.specs.declared.memory_shelves.StoredFile.{StoredFile}
use Rattle.kin_io.proofs.memory_shelves.MemShelfShelf.read_at.Goals as goal

pub returns-then-fails-clause-content : goal.returns-then-fails-clause-content
returns-then-fails-clause-content c = λ n.
    let x : StoredFile = record { bytes = c.in-Some.file.now.bytes; faults = c.saturating_add-file.result } in
    bytes_stay c.args.name.now c.args.self.now.files (c.get_mut.follows.lender x) x ((c.get_mut.follows.holds x).3 (search rules)) n (ap bytes_in (sym c.in-Some.ensures.value))

pub returns-then-fails-clause-counts : goal.returns-then-fails-clause-counts
returns-then-fails-clause-counts c = λ n.
    let x : StoredFile = record { bytes = c.in-Some.file.now.bytes; faults = c.saturating_add-file.result } in
    let was : c.in-Some.file.now.faults ≡ faults_in c.args.self.now.missing (get_by_text c.args.self.now.files c.args.name.now) = ap (faults_in c.args.self.now.missing) c.in-Some.ensures.value in
    faults_grow c.args.name.now c.args.self.now.files (c.get_mut.follows.lender x) x ((c.get_mut.follows.holds x).3 (search rules)) n c.args.self.now.missing (grind (arith, was, c.saturating_add-file.ensures))

pub returns-then-fails-clause-others : goal.returns-then-fails-clause-others
returns-then-fails-clause-others c = λ n differs there.
    let x : StoredFile = record { bytes = c.in-Some.file.now.bytes; faults = c.saturating_add-file.result } in
    ap (faults_in c.args.self.now.missing) (others_stay c.args.name.now c.args.self.now.files (c.get_mut.follows.lender x) x ((c.get_mut.follows.holds x).3 (search rules)) n differs)

pub returns-clause-content : goal.returns-clause-content
returns-clause-content c = λ n.
    let x = c.in-Some.file.now in
    ap bytes_in (same_after c.args.name.now c.args.self.now.files (c.get_mut.follows.lender x) x ((c.get_mut.follows.holds x).3 (search rules)) n c.in-Some.ensures.value)

pub returns-clause-reads : goal.returns-clause-reads
returns-clause-reads c =
    let file = c.deref.ensures.value in
    reads_kept c.args.self.now.step c.args.at c.read_from.result _ c.args.buf.now c.read_from.new.buf _ (sym (ap bytes_in c.in-Some.ensures.value)) c.args.self.now.gives (rw file at c.read_from.ensures.count) (rw file at c.read_from.ensures.bytes)

pub returns-clause-counts : goal.returns-clause-counts
returns-clause-counts c = λ n.
    let x = c.in-Some.file.now in
    omega (arith, ap (faults_in c.args.self.now.missing) (same_after c.args.name.now c.args.self.now.files (c.get_mut.follows.lender x) x ((c.get_mut.follows.holds x).3 (search rules)) n c.in-Some.ensures.value))

pub returns-clause-calm : goal.returns-clause-calm
returns-clause-calm c = λ n.
    let x = c.in-Some.file.now in
    ap (faults_in c.args.self.now.missing) (same_after c.args.name.now c.args.self.now.files (c.get_mut.follows.lender x) x ((c.get_mut.follows.holds x).3 (search rules)) n c.in-Some.ensures.value)

pub returns-clause-others : goal.returns-clause-others
returns-clause-others c = λ n differs there.
    let x = c.in-Some.file.now in
    ap (faults_in c.args.self.now.missing) (same_after c.args.name.now c.args.self.now.files (c.get_mut.follows.lender x) x ((c.get_mut.follows.holds x).3 (search rules)) n c.in-Some.ensures.value)
