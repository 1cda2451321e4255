use Rattle.std.proofs.Common.{◌≡◌, ◌∙◌, ◌≤◌, ◌+◌, ◌||◌, ℕ, Bool, false, List, Option, [], length, ap, ap₂, refl, sym, subst}
use Rattle.kin_ids.specs.declared.ids.User.{User}
use Rattle.kin_ids.specs.Users.{has_user}
use Rattle.kin_blocks.specs.Snaps.{joined}
use Rattle.kin_rules.specs.Results.{ResultView}
use Rattle.kin_scores.specs.Turns.{most_reads, scores_reads}
use Rattle.kin_scores.specs.Scores.{ScoresView}
use Rattle.kin_scores.specs.Scores as scores
use Rattle.kin_mine.specs.Miners.{MinerView, active_in, seen, turn_of}
use Rattle.kin_mine.specs.Walkers.{WalkersView, is_walking}
use Rattle.kin_mine.proofs.Mining.{neither-active, same-answer, turn-is}
use Rattle.kin_mine.proofs.Turning.{miner_of, new-mining, new-owed, new-stands, new-turns, on-first, same-last, seen-some}
use Rattle.kin_mine.proofs.miners.Miner.turn.Goals as goal

pub invariant_of-self-2 : goal.invariant_of-self-2
invariant_of-self-2 g c = new-mining (miner_of c.self.inside.landmarks.items c.self.inside.result c.self.inside.snap c.self.inside.walkers c.self.inside.scores) c.self.invariant (joined c.in-Some.snap) (seen-some (miner_of c.self.inside.landmarks.items c.self.inside.result c.self.inside.snap c.self.inside.walkers c.self.inside.scores) c.in-Some.snap c.in-Some.is) c.as_slice.result.now c.as_slice.ensures.value c.turn.new.columns c.turn-walked.new.columns c.turn-walked.new.self c.turn.new.self c.in_ok-scored.ensures.rest c.turn-walked.ensures.rest c.turn-walked.ensures.on c.in_ok-scored.ensures.kept c.in_ok-scored.ensures.on c.in_ok-scored.ensures.shown

pub returns-clause-turns : goal.returns-clause-turns
returns-clause-turns g c = new-turns (miner_of c.self.inside.landmarks.items c.self.inside.result c.self.inside.snap c.self.inside.walkers c.self.inside.scores) c.self.invariant (joined c.in-Some.snap) (seen-some (miner_of c.self.inside.landmarks.items c.self.inside.result c.self.inside.snap c.self.inside.walkers c.self.inside.scores) c.in-Some.snap c.in-Some.is) c.as_slice.result.now c.as_slice.ensures.value c.turn.new.columns c.turn-walked.new.columns c.turn-walked.new.self c.turn.new.self c.in_ok-scored.ensures.rest c.turn-walked.ensures.rest c.turn-walked.ensures.on c.in_ok-scored.ensures.kept c.in_ok-scored.ensures.on c.in_ok-scored.ensures.shown c.args.u c.args.self.now c.self.view_is c.turn-walked.ensures.turns c.in_ok-scored.ensures.turns

pub returns-clause-stands : goal.returns-clause-stands
returns-clause-stands g c = new-stands (miner_of c.self.inside.landmarks.items c.self.inside.result c.self.inside.snap c.self.inside.walkers c.self.inside.scores) c.self.invariant (joined c.in-Some.snap) (seen-some (miner_of c.self.inside.landmarks.items c.self.inside.result c.self.inside.snap c.self.inside.walkers c.self.inside.scores) c.in-Some.snap c.in-Some.is) c.as_slice.result.now c.as_slice.ensures.value c.turn.new.columns c.turn-walked.new.columns c.turn-walked.new.self c.turn.new.self c.in_ok-scored.ensures.rest c.turn-walked.ensures.rest c.turn-walked.ensures.on c.in_ok-scored.ensures.kept c.in_ok-scored.ensures.on c.in_ok-scored.ensures.shown c.args.self.now c.self.view_is

pub returns-clause-reads : goal.returns-clause-reads
returns-clause-reads g c = new-owed (miner_of c.self.inside.landmarks.items c.self.inside.result c.self.inside.snap c.self.inside.walkers c.self.inside.scores) c.self.invariant (joined c.in-Some.snap) (seen-some (miner_of c.self.inside.landmarks.items c.self.inside.result c.self.inside.snap c.self.inside.walkers c.self.inside.scores) c.in-Some.snap c.in-Some.is) c.as_slice.result.now c.as_slice.ensures.value c.turn.new.columns c.turn-walked.new.columns c.turn-walked.new.self c.turn.new.self c.in_ok-scored.ensures.rest c.turn-walked.ensures.rest c.turn-walked.ensures.on c.in_ok-scored.ensures.kept c.in_ok-scored.ensures.on c.in_ok-scored.ensures.shown c.args.self.now c.self.view_is (λ v m. most_reads v m.result.users m.scores c.args.u) c.args.steps.now c.turn.new.steps c.turn-walked.new.steps c.in_ok-scored.ensures.reads c.turn-walked.ensures.reads

pub returns-clause-turn : goal.returns-clause-turn
returns-clause-turn g c = subst (λ (m : MinerView). c.turned.result ≡ turn_of m c.args.u) c.self.view_is
    (turn-is (miner_of c.self.inside.landmarks.items c.self.inside.result c.self.inside.snap c.self.inside.walkers c.self.inside.scores) c.self.invariant c.args.u c.turned.result c.either.result c.turn-walked.result c.is_turned.result c.turned.ensures c.either.ensures
    (c.turn-walked.ensures.active ∙ ap (λ (r : ResultView). is_walking r.users c.self.inside.walkers c.args.u) c.in_ok-scored.ensures.rest)
    (same-answer c.is_turned.result (scores.is_active c.self.inside.result.users c.self.inside.scores c.args.u) (sym c.is_turned.ensures ∙ c.in_ok-scored.ensures.which)))

pub returns-in_err-scored-clause-idle : goal.returns-in_err-scored-clause-idle
returns-in_err-scored-clause-idle g c off =
    let x = c.in_err-scored.ensures.idle (neither-active (miner_of c.self.inside.landmarks.items c.self.inside.result c.self.inside.snap c.self.inside.walkers c.self.inside.scores) c.self.invariant c.args.u (subst (λ (m : MinerView). has_user (active_in m) c.args.u ≡ false) (sym c.self.view_is) off)).1 in
    (ap₂ (λ (r : ResultView) (s : ScoresView). miner_of c.self.inside.landmarks.items r c.self.inside.snap c.self.inside.walkers s) x.2 x.1 ∙ c.self.view_is, x.0)

pub returns-clause-idle : goal.returns-clause-idle
returns-clause-idle g c off =
    let n = neither-active (miner_of c.self.inside.landmarks.items c.self.inside.result c.self.inside.snap c.self.inside.walkers c.self.inside.scores) c.self.invariant c.args.u (subst (λ (m : MinerView). has_user (active_in m) c.args.u ≡ false) (sym c.self.view_is) off) in
    let x = c.in_ok-scored.ensures.idle n.1 in
    let y = c.turn-walked.ensures.idle (subst (λ (r : ResultView). is_walking r.users c.self.inside.walkers c.args.u ≡ false) (sym x.2) n.0) in (
      ap₂ (λ (r : ResultView) (s : ScoresView). miner_of c.self.inside.landmarks.items r c.self.inside.snap c.turn-walked.new.self s) (y.0 ∙ x.2) x.1
          ∙ (ap (λ (w : WalkersView). miner_of c.self.inside.landmarks.items c.self.inside.result c.self.inside.snap w c.self.inside.scores) y.1 ∙ c.self.view_is),
      y.2 ∙ x.0,
    )
