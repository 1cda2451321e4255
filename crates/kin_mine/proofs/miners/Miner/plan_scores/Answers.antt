use Rattle.std.proofs.Common.{◌≡◌, ◌∙◌, true, List, refl, sym, subst}
use Rattle.std.specs.List.Sorted.{IsStrictlySortedBy}
use Rattle.kin_ids.specs.declared.ids.User.{User}
use Rattle.kin_ids.specs.Users.{has_user, tag_cmp, user_cmp}
use Rattle.kin_counts.specs.Plans.{IsPlanOf, planned_tags, planned_users}
use Rattle.kin_mine.specs.Miners.{MinerView, seen}
use Rattle.kin_mine.specs.Plans.{LeadOn}
use Rattle.kin_mine.proofs.Next.{next-tags, next-users, rewired-there, still-there, touched-there}
use Rattle.kin_mine.proofs.Turning.{miner_of}
use Rattle.kin_mine.proofs.miners.Miner.plan_scores.Goals as goal

pub plan-requires-clause-ascend : goal.plan-requires-clause-ascend
plan-requires-clause-ascend c = subst (IsStrictlySortedBy user_cmp) (sym (c.next_users-more.ensures c.self.inside.result (sym c.users-users.ensures.users))) (next-users (seen (miner_of c.self.inside.landmarks.items c.self.inside.result c.self.inside.snap c.self.inside.walkers c.self.inside.scores)) (subst (λ (x : MinerView). LeadOn (seen x) c.args.deltas.now) (sym c.self.view_is) c.requires.lead).0 c.args.deltas.now (subst (λ (x : MinerView). LeadOn (seen x) c.args.deltas.now) (sym c.self.view_is) c.requires.lead).1 c.self.inside.result c.self.invariant.counts c.args.counts.now (subst (λ (x : MinerView). IsPlanOf x.result c.args.deltas.now c.args.counts.now) (sym c.self.view_is) c.requires.counts)).ascend

pub plan-requires-clause-tags : goal.plan-requires-clause-tags
plan-requires-clause-tags c = subst (IsStrictlySortedBy tag_cmp) (sym (c.next_tags-tags.ensures c.self.inside.result (sym c.tags.ensures.tags))) (next-tags (seen (miner_of c.self.inside.landmarks.items c.self.inside.result c.self.inside.snap c.self.inside.walkers c.self.inside.scores)) (subst (λ (x : MinerView). LeadOn (seen x) c.args.deltas.now) (sym c.self.view_is) c.requires.lead).0 c.args.deltas.now (subst (λ (x : MinerView). LeadOn (seen x) c.args.deltas.now) (sym c.self.view_is) c.requires.lead).1 c.self.inside.result c.self.invariant.counts c.args.counts.now (subst (λ (x : MinerView). IsPlanOf x.result c.args.deltas.now c.args.counts.now) (sym c.self.view_is) c.requires.counts))

pub plan-requires-clause-all : goal.plan-requires-clause-all
plan-requires-clause-all c u there = subst (λ (us : List User). has_user us u ≡ true) (sym (c.next_users-more.ensures c.self.inside.result (sym c.users-users.ensures.users))) (still-there (seen (miner_of c.self.inside.landmarks.items c.self.inside.result c.self.inside.snap c.self.inside.walkers c.self.inside.scores)) (subst (λ (x : MinerView). LeadOn (seen x) c.args.deltas.now) (sym c.self.view_is) c.requires.lead).0 c.args.deltas.now (subst (λ (x : MinerView). LeadOn (seen x) c.args.deltas.now) (sym c.self.view_is) c.requires.lead).1 c.self.inside.result c.self.invariant.counts c.args.counts.now (subst (λ (x : MinerView). IsPlanOf x.result c.args.deltas.now c.args.counts.now) (sym c.self.view_is) c.requires.counts) u (subst (λ (us : List User). has_user us u ≡ true) c.users-users.ensures.users there))

pub plan-requires-clause-touched : goal.plan-requires-clause-touched
plan-requires-clause-touched c u h = subst (λ (us : List User). has_user us u ≡ true) (sym (c.next_users-more.ensures c.self.inside.result (sym c.users-users.ensures.users))) (touched-there (seen (miner_of c.self.inside.landmarks.items c.self.inside.result c.self.inside.snap c.self.inside.walkers c.self.inside.scores)) (subst (λ (x : MinerView). LeadOn (seen x) c.args.deltas.now) (sym c.self.view_is) c.requires.lead).0 c.args.deltas.now (subst (λ (x : MinerView). LeadOn (seen x) c.args.deltas.now) (sym c.self.view_is) c.requires.lead).1 c.self.inside.result c.self.invariant.counts c.args.counts.now (subst (λ (x : MinerView). IsPlanOf x.result c.args.deltas.now c.args.counts.now) (sym c.self.view_is) c.requires.counts) u h)

pub plan-requires-clause-rewired : goal.plan-requires-clause-rewired
plan-requires-clause-rewired c side u h = subst (λ (us : List User). has_user us u ≡ true) (sym (c.next_users-more.ensures c.self.inside.result (sym c.users-users.ensures.users))) (rewired-there (seen (miner_of c.self.inside.landmarks.items c.self.inside.result c.self.inside.snap c.self.inside.walkers c.self.inside.scores)) (subst (λ (x : MinerView). LeadOn (seen x) c.args.deltas.now) (sym c.self.view_is) c.requires.lead).0 c.args.deltas.now (subst (λ (x : MinerView). LeadOn (seen x) c.args.deltas.now) (sym c.self.view_is) c.requires.lead).1 c.self.inside.result c.self.invariant.counts c.args.counts.now (subst (λ (x : MinerView). IsPlanOf x.result c.args.deltas.now c.args.counts.now) (sym c.self.view_is) c.requires.counts) side u h)
