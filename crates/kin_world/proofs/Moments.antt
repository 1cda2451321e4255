-- Kept epochs are moments.
use Rattle.std.proofs.Common.{◌≡◌, ℕ, ◌<◌, ◌≤◌, List, sym, subst, arith, length}
use Rattle.kin_script.specs.declared.events.Event.{Event}
use Rattle.kin_history.specs.Setting.{Setting}
use Rattle.kin_history.specs.Lines.{bases}
use Rattle.kin_history.specs.Vectors.{vector, committed}
use Rattle.kin_history.specs.Mining.{mined}
use Rattle.kin_ids.specs.Order.{snapshot}
use Rattle.kin_blocks.specs.Snaps.{joined}
use Rattle.kin_blocks.proofs.Wholes.{halves-law}
use Rattle.kin_hub.specs.Hubs.{KeepsEpoch, snap_in}
use Rattle.kin_hub.proofs.Committing.{kept-snapshot}
use Rattle.kin_world.specs.Worlds.{WorldView}
use Rattle.kin_world.specs.Stands.{Stands, agreed_line, story_of}
use Rattle.kin_world.specs.Laws.{IsOneMoment, KeepsMoments}

module _ (set : Setting) (w : WorldView) (h : List Event) (k : ℕ) (s : Stands set w h) where
  one-moment : KeepsEpoch w.hub k → IsOneMoment set w h k
  one-moment kept =
      let whole = kept-snapshot w.hub k kept (story_of set h) s.epochs.hub in
      record { whole = whole; halves = halves-law (snapshot set.feeds (vector set h) k) (joined (snap_in w.hub k)) whole }

  pub keeps-moments : KeepsMoments set w h k
  keeps-moments =
      let are = s.epochs.hub.stores.parts_are in
      let first = s.epochs.kept in
      record {
        kept = (
          λ kept. let since = kept.since in (omega arith, λ p lt. let low = kept.whole p (omega arith) in let is = s.epochs.committed_are p lt in omega arith),
          λ both. record { since = let from = both.0 in omega arith; whole = λ p lt. let low = both.1 p (omega arith) in let is = s.epochs.committed_are p (omega arith) in omega arith },
        );
        moment = one-moment;
      }
