use Rattle.std.proofs.Common.{◌<◌, sym, subst}
use Rattle.kin_hub.specs.Hubs.{HubView, parts_in}
use Rattle.kin_hub.specs.Commits.{HasSmallFeeds}
use Rattle.kin_hub.proofs.Committing.{may-commit}
use Rattle.kin_hub.proofs.tests.assert_commit.Goals as goal

pub commit-requires-clause-said : goal.commit-requires-clause-said
commit-requires-clause-said g c = may-commit c.args.hub.now c.args.part.0 c.requires.small c.requires.part

pub commit-requires-2-clause-said : goal.commit-requires-2-clause-said
commit-requires-2-clause-said g c =
    let old = sym c.in_default.ensures.err in
    may-commit c.commit.new.self c.args.part.0 (subst HasSmallFeeds old c.requires.small)
    (subst (λ (h : HubView). c.args.part.0 < parts_in h) old c.requires.part)
