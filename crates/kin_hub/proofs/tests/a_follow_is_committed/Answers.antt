use Rattle.std.proofs.Common.{rules}
use Rattle.kin_hub.specs.Hubs.{committed_in}
use Rattle.kin_hub.proofs.Committing.{may-commit}
use Rattle.kin_hub.proofs.Follows.{below-two}
use Rattle.kin_hub.proofs.tests.a_follow_is_committed.Goals as goal

pub commit-requires-clause-said : goal.commit-requires-clause-said
commit-requires-clause-said g c = may-commit c.assert_commits-2.new.hub 0 c.in_ok-assert_commits-2.ensures.small (search rules)

pub release_below-requires : goal.release_below-requires
release_below-requires g c = λ p lt. below-two (λ p. committed_in c.commit.new.self p) 1 (search rules) (search rules) p (search rules)
