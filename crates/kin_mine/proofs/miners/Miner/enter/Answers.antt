use Rattle.std.proofs.Common.{◌≡◌, ◌∙◌, true, List, [], refl, sym, subst}
use Rattle.kin_ids.specs.declared.ids.User.{User}
use Rattle.kin_ids.specs.Users.{has_user}
use Rattle.kin_blocks.specs.Snaps.{joined}
use Rattle.kin_changes.specs.Views.{AreLed}
use Rattle.kin_mine.specs.declared.walk_rules.Distance.TheVariants as distance
use Rattle.kin_mine.specs.Miners.{MinerView, active_in, seen}
use Rattle.kin_mine.specs.Plans.{IsPlanned}
use Rattle.kin_mine.specs.Walkers.{AreEntered, AreFresh, HaveStates}
use Rattle.kin_mine.proofs.Entering.{fresh, new-begins, new-mining, new-stands, scores-planned, starts-within}
use Rattle.kin_mine.proofs.Turning.{miner_of}
use Rattle.kin_mine.proofs.miners.Miner.enter.Goals as goal

pub enter-requires-2 : goal.enter-requires-2
enter-requires-2 c = scores-planned (miner_of c.self.inside.landmarks.items c.self.inside.result c.self.inside.snap c.self.inside.walkers c.self.inside.scores) c.self.invariant (subst (λ (x : MinerView). active_in x ≡ []) (sym c.self.view_is) c.requires.quiet) (joined c.args.snap) c.args.deltas.now (subst (λ (x : MinerView). AreLed (seen x) (joined c.args.snap) c.args.deltas.now) (sym c.self.view_is) c.requires.led) c.requires.small c.requires.said c.args.plan (subst (λ (x : MinerView). IsPlanned x c.args.deltas.now c.args.plan) (sym c.self.view_is) c.requires.plan) c.enter.new.counted c.enter.ensures.counts c.enter.ensures.keeps c.enter.ensures.users c.enter.ensures.alone_hops c.enter.ensures.alone_close

pub enter-requires-3-clause-fresh : goal.enter-requires-3-clause-fresh
enter-requires-3-clause-fresh c = subst (λ (l : List User). AreFresh l c.enter-2.new.columns c.renew.new.walkers) (sym c.as_slice.ensures.value) (fresh (miner_of c.self.inside.landmarks.items c.self.inside.result c.self.inside.snap c.self.inside.walkers c.self.inside.scores) c.self.invariant (subst (λ (x : MinerView). active_in x ≡ []) (sym c.self.view_is) c.requires.quiet) (joined c.args.snap) c.args.deltas.now (subst (λ (x : MinerView). AreLed (seen x) (joined c.args.snap) c.args.deltas.now) (sym c.self.view_is) c.requires.led) c.requires.small c.requires.said c.args.plan (subst (λ (x : MinerView). IsPlanned x c.args.deltas.now c.args.plan) (sym c.self.view_is) c.requires.plan) c.enter.new.counted c.enter.ensures.counts c.enter.ensures.keeps c.enter.ensures.users c.enter.ensures.alone_hops c.enter.ensures.alone_close c.enter-2.new.columns c.enter-2.ensures.rest c.renew.new.walkers c.renew.ensures)

pub enter-requires-3-clause-hop_starts : goal.enter-requires-3-clause-hop_starts
enter-requires-3-clause-hop_starts c = subst (λ (y : List User). (u : User) → has_user y u ≡ true → has_user c.enter-2.new.columns.users u ≡ true) (sym c.as_slice-2.ensures.value) (starts-within (miner_of c.self.inside.landmarks.items c.self.inside.result c.self.inside.snap c.self.inside.walkers c.self.inside.scores) c.self.invariant (subst (λ (x : MinerView). active_in x ≡ []) (sym c.self.view_is) c.requires.quiet) (joined c.args.snap) c.args.deltas.now (subst (λ (x : MinerView). AreLed (seen x) (joined c.args.snap) c.args.deltas.now) (sym c.self.view_is) c.requires.led) c.requires.small c.requires.said c.args.plan (subst (λ (x : MinerView). IsPlanned x c.args.deltas.now c.args.plan) (sym c.self.view_is) c.requires.plan) c.enter.new.counted c.enter.ensures.counts c.enter.ensures.keeps c.enter.ensures.users c.enter.ensures.alone_hops c.enter.ensures.alone_close c.enter-2.new.columns c.enter-2.ensures.rest distance.Hops c.args.plan.hop_starts.items (subst (λ (x : MinerView). IsPlanned x c.args.deltas.now c.args.plan) (sym c.self.view_is) c.requires.plan).hop_starts)

pub enter-requires-3-clause-close_starts : goal.enter-requires-3-clause-close_starts
enter-requires-3-clause-close_starts c = subst (λ (y : List User). (u : User) → has_user y u ≡ true → has_user c.enter-2.new.columns.users u ≡ true) (sym c.as_slice-3.ensures.value) (starts-within (miner_of c.self.inside.landmarks.items c.self.inside.result c.self.inside.snap c.self.inside.walkers c.self.inside.scores) c.self.invariant (subst (λ (x : MinerView). active_in x ≡ []) (sym c.self.view_is) c.requires.quiet) (joined c.args.snap) c.args.deltas.now (subst (λ (x : MinerView). AreLed (seen x) (joined c.args.snap) c.args.deltas.now) (sym c.self.view_is) c.requires.led) c.requires.small c.requires.said c.args.plan (subst (λ (x : MinerView). IsPlanned x c.args.deltas.now c.args.plan) (sym c.self.view_is) c.requires.plan) c.enter.new.counted c.enter.ensures.counts c.enter.ensures.keeps c.enter.ensures.users c.enter.ensures.alone_hops c.enter.ensures.alone_close c.enter-2.new.columns c.enter-2.ensures.rest distance.Close c.args.plan.close_starts.items (subst (λ (x : MinerView). IsPlanned x c.args.deltas.now c.args.plan) (sym c.self.view_is) c.requires.plan).close_starts)

pub invariant_of-self : goal.invariant_of-self
invariant_of-self c = new-mining (miner_of c.self.inside.landmarks.items c.self.inside.result c.self.inside.snap c.self.inside.walkers c.self.inside.scores) c.self.invariant (subst (λ (x : MinerView). active_in x ≡ []) (sym c.self.view_is) c.requires.quiet) (joined c.args.snap) c.args.deltas.now (subst (λ (x : MinerView). AreLed (seen x) (joined c.args.snap) c.args.deltas.now) (sym c.self.view_is) c.requires.led) c.requires.small c.requires.said c.args.plan (subst (λ (x : MinerView). IsPlanned x c.args.deltas.now c.args.plan) (sym c.self.view_is) c.requires.plan) c.enter.new.counted c.enter.ensures.counts c.enter.ensures.keeps c.enter.ensures.users c.enter.ensures.alone_hops c.enter.ensures.alone_close c.enter-2.new.columns c.enter-2.ensures.rest c.renew.new.walkers (subst (λ (l : List User). HaveStates l c.enter-2.new.columns c.renew.new.walkers) c.as_slice.ensures.value c.enter-3.ensures.before) c.enter-3.new.columns c.enter-3.new.self c.enter-3.ensures.rest (subst (λ (l : List User). HaveStates l c.enter-3.new.columns c.enter-3.new.self) c.as_slice.ensures.value c.enter-3.ensures.after) (subst (λ (l : List User). AreEntered c.args.plan.hop_starts.items c.args.plan.close_starts.items l c.enter-2.new.columns c.renew.new.walkers c.enter-3.new.columns c.enter-3.new.self) c.as_slice.ensures.value (subst (λ (h : List User). AreEntered h c.args.plan.close_starts.items c.as_slice.result.now c.enter-2.new.columns c.renew.new.walkers c.enter-3.new.columns c.enter-3.new.self) c.as_slice-2.ensures.value (subst (λ (k : List User). AreEntered c.as_slice-2.result.now k c.as_slice.result.now c.enter-2.new.columns c.renew.new.walkers c.enter-3.new.columns c.enter-3.new.self) c.as_slice-3.ensures.value c.enter-3.ensures.enters))) c.args.epoch.0 c.requires.some c.args.snap refl c.enter-2.new.self c.enter-2.ensures.planned c.enter-2.ensures.kept c.enter-2.ensures.shown c.args.self.now c.self.view_is c.set_epoch.new.self c.set_epoch.ensures

pub returns-clause-begins : goal.returns-clause-begins
returns-clause-begins c = new-begins (miner_of c.self.inside.landmarks.items c.self.inside.result c.self.inside.snap c.self.inside.walkers c.self.inside.scores) c.self.invariant (subst (λ (x : MinerView). active_in x ≡ []) (sym c.self.view_is) c.requires.quiet) (joined c.args.snap) c.args.deltas.now (subst (λ (x : MinerView). AreLed (seen x) (joined c.args.snap) c.args.deltas.now) (sym c.self.view_is) c.requires.led) c.requires.small c.requires.said c.args.plan (subst (λ (x : MinerView). IsPlanned x c.args.deltas.now c.args.plan) (sym c.self.view_is) c.requires.plan) c.enter.new.counted c.enter.ensures.counts c.enter.ensures.keeps c.enter.ensures.users c.enter.ensures.alone_hops c.enter.ensures.alone_close c.enter-2.new.columns c.enter-2.ensures.rest c.renew.new.walkers (subst (λ (l : List User). HaveStates l c.enter-2.new.columns c.renew.new.walkers) c.as_slice.ensures.value c.enter-3.ensures.before) c.enter-3.new.columns c.enter-3.new.self c.enter-3.ensures.rest (subst (λ (l : List User). HaveStates l c.enter-3.new.columns c.enter-3.new.self) c.as_slice.ensures.value c.enter-3.ensures.after) (subst (λ (l : List User). AreEntered c.args.plan.hop_starts.items c.args.plan.close_starts.items l c.enter-2.new.columns c.renew.new.walkers c.enter-3.new.columns c.enter-3.new.self) c.as_slice.ensures.value (subst (λ (h : List User). AreEntered h c.args.plan.close_starts.items c.as_slice.result.now c.enter-2.new.columns c.renew.new.walkers c.enter-3.new.columns c.enter-3.new.self) c.as_slice-2.ensures.value (subst (λ (k : List User). AreEntered c.as_slice-2.result.now k c.as_slice.result.now c.enter-2.new.columns c.renew.new.walkers c.enter-3.new.columns c.enter-3.new.self) c.as_slice-3.ensures.value c.enter-3.ensures.enters))) c.args.epoch.0 c.requires.some c.args.snap refl c.enter-2.new.self c.enter-2.ensures.planned c.enter-2.ensures.kept c.enter-2.ensures.shown c.args.self.now c.self.view_is c.set_epoch.new.self c.set_epoch.ensures

pub returns-clause-stands : goal.returns-clause-stands
returns-clause-stands c = new-stands (miner_of c.self.inside.landmarks.items c.self.inside.result c.self.inside.snap c.self.inside.walkers c.self.inside.scores) c.self.invariant (subst (λ (x : MinerView). active_in x ≡ []) (sym c.self.view_is) c.requires.quiet) (joined c.args.snap) c.args.deltas.now (subst (λ (x : MinerView). AreLed (seen x) (joined c.args.snap) c.args.deltas.now) (sym c.self.view_is) c.requires.led) c.requires.small c.requires.said c.args.plan (subst (λ (x : MinerView). IsPlanned x c.args.deltas.now c.args.plan) (sym c.self.view_is) c.requires.plan) c.enter.new.counted c.enter.ensures.counts c.enter.ensures.keeps c.enter.ensures.users c.enter.ensures.alone_hops c.enter.ensures.alone_close c.enter-2.new.columns c.enter-2.ensures.rest c.renew.new.walkers (subst (λ (l : List User). HaveStates l c.enter-2.new.columns c.renew.new.walkers) c.as_slice.ensures.value c.enter-3.ensures.before) c.enter-3.new.columns c.enter-3.new.self c.enter-3.ensures.rest (subst (λ (l : List User). HaveStates l c.enter-3.new.columns c.enter-3.new.self) c.as_slice.ensures.value c.enter-3.ensures.after) (subst (λ (l : List User). AreEntered c.args.plan.hop_starts.items c.args.plan.close_starts.items l c.enter-2.new.columns c.renew.new.walkers c.enter-3.new.columns c.enter-3.new.self) c.as_slice.ensures.value (subst (λ (h : List User). AreEntered h c.args.plan.close_starts.items c.as_slice.result.now c.enter-2.new.columns c.renew.new.walkers c.enter-3.new.columns c.enter-3.new.self) c.as_slice-2.ensures.value (subst (λ (k : List User). AreEntered c.as_slice-2.result.now k c.as_slice.result.now c.enter-2.new.columns c.renew.new.walkers c.enter-3.new.columns c.enter-3.new.self) c.as_slice-3.ensures.value c.enter-3.ensures.enters))) c.args.epoch.0 c.requires.some c.args.snap refl c.enter-2.new.self c.enter-2.ensures.planned c.enter-2.ensures.kept c.enter-2.ensures.shown c.args.self.now c.self.view_is c.set_epoch.new.self c.set_epoch.ensures
