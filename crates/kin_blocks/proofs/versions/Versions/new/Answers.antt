use Rattle.std.proofs.Common.{rules, ◌≡◌, ◌<◌, ◌^◌, ◌∷◌, []}
use Rattle.std.specs.Prelude.{replicate}
use Rattle.kin_blocks.specs.Snaps.{empty_stores}
use Rattle.kin_blocks.specs.Versions.{unchanged, first_writers}
use Rattle.kin_blocks.proofs.Beginnings.{IsVersions-first, AreWritten-first}
use Rattle.kin_blocks.proofs.versions.Versions.new.Goals as goal

pub invariant_of-result : goal.invariant_of-result
invariant_of-result c =
    let few : c.args.parts < 2 ^ 16 = search rules in
    let committed : c.in_ok-vec.field-0.items ≡ replicate c.args.parts 0 = search rules in
    let epochs : c.push_back.new.self.items ≡ unchanged (empty_stores c.args.parts) ∷ [] = search rules in
    let writers : c.in_ok-first_writers.field-0.items ≡ first_writers c.args.parts = search rules in
    rw (committed, epochs, writers) (IsVersions-first c.args.parts c.requires few, AreWritten-first c.args.parts)

pub returns-clause-versions : goal.returns-clause-versions
returns-clause-versions c = (invariant_of-result c).0
