use Rattle.std.proofs.Common.{◌∙◌, sym, ap, subst, Err}
use Rattle.kin_hub.specs.Commits.{MayCommit}
use Rattle.kin_world.specs.Worlds.{WorldView}
use Rattle.kin_world.proofs.Committing.{commit-made, commit-refused}
use Rattle.kin_world.proofs.cores.Core.commit.Goals.{in-Ok, in-Err-NothingCut, in-Err-Memory}
use Rattle.kin_world.proofs.cores.Core.commit.Goals as goal

pub returns-clause-commits : goal.returns-clause-commits
returns-clause-commits c =
    let hub = c.commit.new.self in
    let told = c.commit.ensures in
    elim c.match-commit.branch [
      | in-Ok w ↦ rw (w.result-is, ← c.self.view_is) (commit-made _ c.args.part.0 hub c.commit.result told.nothing_cut w.in-Ok.epoch w.in-Ok.is told.epoch told.commits told.stands)
      | in-Err-NothingCut w ↦ rw (w.result-is, ← c.self.view_is) (commit-refused _ c.args.part.0 hub c.commit.result told.nothing_cut (w.in-Err-NothingCut.is ∙ ap Err w.in-Err-NothingCut.field-0-is) told.err)
      | in-Err-Memory w ↦ rw w.result-is tt
    ]

pub commit-requires-clause-said : goal.commit-requires-clause-said
commit-requires-clause-said c = subst (λ (w : WorldView). MayCommit w.hub c.args.part.0) (sym c.self.view_is) c.requires.said
