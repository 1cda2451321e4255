use Rattle.std.proofs.Common.{◌≡◌, ◌∙◌, ◌≤◌, ◌+◌, ◌||◌, ℕ, Bool, false, List, Option, [], length, arith, ap, ap₂, refl, sym, subst}
use Rattle.kin_ids.specs.declared.ids.User.{User}
use Rattle.kin_ids.specs.Users.{has_user}
use Rattle.kin_blocks.specs.Snaps.{joined}
use Rattle.kin_rules.specs.Results.{ResultView}
use Rattle.kin_scores.specs.Turns.{most_reads, scores_reads}
use Rattle.kin_scores.specs.Scores.{ScoresView}
use Rattle.kin_mine.specs.Miners.{MinerView, active_in, seen}
use Rattle.kin_mine.specs.Walkers.{WalkersView}
use Rattle.kin_mine.proofs.Mining.{scores-quiet, still}
use Rattle.kin_mine.proofs.Turning.{miner_of, new-mining, new-owed, new-quiet, new-settles, new-stands, on-first, same-last, seen-some}
use Rattle.kin_mine.proofs.miners.Miner.settle.Goals as goal

pub invariant_of-self-2 : goal.invariant_of-self-2
invariant_of-self-2 g c = new-mining (miner_of c.self.inside.landmarks.items c.self.inside.result c.self.inside.snap c.self.inside.walkers c.self.inside.scores) c.self.invariant (joined c.in-Some.snap) (seen-some (miner_of c.self.inside.landmarks.items c.self.inside.result c.self.inside.snap c.self.inside.walkers c.self.inside.scores) c.in-Some.snap c.in-Some.is) c.as_slice.result.now c.as_slice.ensures.value c.settle.new.columns c.settle-2.new.columns c.settle-2.new.self c.settle.new.self c.in_ok-settle.ensures.rest c.settle-2.ensures.rest c.settle-2.ensures.on c.in_ok-settle.ensures.kept c.in_ok-settle.ensures.on c.in_ok-settle.ensures.shown

pub returns-clause-settles : goal.returns-clause-settles
returns-clause-settles g c = new-settles (miner_of c.self.inside.landmarks.items c.self.inside.result c.self.inside.snap c.self.inside.walkers c.self.inside.scores) c.self.invariant (joined c.in-Some.snap) (seen-some (miner_of c.self.inside.landmarks.items c.self.inside.result c.self.inside.snap c.self.inside.walkers c.self.inside.scores) c.in-Some.snap c.in-Some.is) c.as_slice.result.now c.as_slice.ensures.value c.settle.new.columns c.settle-2.new.columns c.settle-2.new.self c.settle.new.self c.in_ok-settle.ensures.rest c.settle-2.ensures.rest c.settle-2.ensures.on c.in_ok-settle.ensures.kept c.in_ok-settle.ensures.on c.in_ok-settle.ensures.shown c.args.self.now c.self.view_is c.settle-2.ensures.settles c.in_ok-settle.ensures.settles

pub returns-clause-stands : goal.returns-clause-stands
returns-clause-stands g c = new-stands (miner_of c.self.inside.landmarks.items c.self.inside.result c.self.inside.snap c.self.inside.walkers c.self.inside.scores) c.self.invariant (joined c.in-Some.snap) (seen-some (miner_of c.self.inside.landmarks.items c.self.inside.result c.self.inside.snap c.self.inside.walkers c.self.inside.scores) c.in-Some.snap c.in-Some.is) c.as_slice.result.now c.as_slice.ensures.value c.settle.new.columns c.settle-2.new.columns c.settle-2.new.self c.settle.new.self c.in_ok-settle.ensures.rest c.settle-2.ensures.rest c.settle-2.ensures.on c.in_ok-settle.ensures.kept c.in_ok-settle.ensures.on c.in_ok-settle.ensures.shown c.args.self.now c.self.view_is

pub returns-clause-quiet : goal.returns-clause-quiet
returns-clause-quiet g c = new-quiet (miner_of c.self.inside.landmarks.items c.self.inside.result c.self.inside.snap c.self.inside.walkers c.self.inside.scores) c.self.invariant (joined c.in-Some.snap) (seen-some (miner_of c.self.inside.landmarks.items c.self.inside.result c.self.inside.snap c.self.inside.walkers c.self.inside.scores) c.in-Some.snap c.in-Some.is) c.as_slice.result.now c.as_slice.ensures.value c.settle.new.columns c.settle-2.new.columns c.settle-2.new.self c.settle.new.self c.in_ok-settle.ensures.rest c.settle-2.ensures.rest c.settle-2.ensures.on c.in_ok-settle.ensures.kept c.in_ok-settle.ensures.on c.in_ok-settle.ensures.shown c.settle-2.ensures.still c.in_ok-settle.ensures.quiet

pub returns-clause-reads : goal.returns-clause-reads
returns-clause-reads g c = new-owed (miner_of c.self.inside.landmarks.items c.self.inside.result c.self.inside.snap c.self.inside.walkers c.self.inside.scores) c.self.invariant (joined c.in-Some.snap) (seen-some (miner_of c.self.inside.landmarks.items c.self.inside.result c.self.inside.snap c.self.inside.walkers c.self.inside.scores) c.in-Some.snap c.in-Some.is) c.as_slice.result.now c.as_slice.ensures.value c.settle.new.columns c.settle-2.new.columns c.settle-2.new.self c.settle.new.self c.in_ok-settle.ensures.rest c.settle-2.ensures.rest c.settle-2.ensures.on c.in_ok-settle.ensures.kept c.in_ok-settle.ensures.on c.in_ok-settle.ensures.shown c.args.self.now c.self.view_is (λ v m. scores_reads v m.result.users m.scores) c.args.steps.now c.settle.new.steps c.settle-2.new.steps (let e = c.in_ok-settle.ensures.reads in omega (arith, e)) c.settle-2.ensures.reads

pub returns-in_err-settle-clause-idle : goal.returns-in_err-settle-clause-idle
returns-in_err-settle-clause-idle g c none =
    let x = c.in_err-settle.ensures.idle (scores-quiet (miner_of c.self.inside.landmarks.items c.self.inside.result c.self.inside.snap c.self.inside.walkers c.self.inside.scores) c.self.invariant (subst (λ (m : MinerView). active_in m ≡ []) (sym c.self.view_is) none)) in
    (ap₂ (λ (r : ResultView) (s : ScoresView). miner_of c.self.inside.landmarks.items r c.self.inside.snap c.self.inside.walkers s) x.2 x.1 ∙ c.self.view_is, x.0)

pub returns-clause-idle : goal.returns-clause-idle
returns-clause-idle g c none =
    let x = c.in_ok-settle.ensures.idle (scores-quiet (miner_of c.self.inside.landmarks.items c.self.inside.result c.self.inside.snap c.self.inside.walkers c.self.inside.scores) c.self.invariant (subst (λ (m : MinerView). active_in m ≡ []) (sym c.self.view_is) none)) in
    let y = c.settle-2.ensures.idle (still (miner_of c.self.inside.landmarks.items c.self.inside.result c.self.inside.snap c.self.inside.walkers c.self.inside.scores) c.self.invariant (subst (λ (m : MinerView). active_in m ≡ []) (sym c.self.view_is) none)) in (
      ap₂ (λ (r : ResultView) (s : ScoresView). miner_of c.self.inside.landmarks.items r c.self.inside.snap c.settle-2.new.self s) (y.0 ∙ x.2) x.1
          ∙ (ap (λ (w : WalkersView). miner_of c.self.inside.landmarks.items c.self.inside.result c.self.inside.snap w c.self.inside.scores) y.1 ∙ c.self.view_is),
      y.2 ∙ x.0,
    )
