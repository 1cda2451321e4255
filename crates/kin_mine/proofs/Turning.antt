-- A call by ranks and exposures, and then one by walks.
use Rattle.std.proofs.Common.{◌≡◌, ◌≤◌, ◌+◌, ◌∙◌, ℕ, List, Option, Some, [], arith, refl, sym, ap, ap₂, subst}
use Rattle.kin_ids.specs.declared.ids.User.{User}
use Rattle.kin_ids.specs.Parts.{PartView}
use Rattle.kin_rules.specs.declared.numbers.KCount.{KCount}
use Rattle.kin_rules.specs.Results.{ResultView}
use Rattle.kin_scores.specs.Scores.{AreKept, AreQuiet, AreShown, ScoresView, StandOn}
use Rattle.kin_scores.specs.Turns as scores
use Rattle.kin_ids.specs.Graph.{Graph}
use Rattle.kin_graph.specs.State.{PartState}
use Rattle.kin_blocks.specs.Snaps.{joined}
use Rattle.kin_mine.specs.declared.walk_rules.Distance.TheVariants as distance
use Rattle.kin_mine.specs.Epochs.{Settles, TurnsAt, owed}
use Rattle.kin_mine.specs.Lanes.{IsSettled, IsTurned}
use Rattle.kin_mine.specs.Marks.{rule_of}
use Rattle.kin_mine.specs.Miners.{IsMinerOf, IsMining, MinerView, active_in, handed_out, seen}
use Rattle.kin_mine.specs.Walkers.{AllLanes, AreSettled, AreStill, AreTurned, KeepsRest, WalkOn, WalkersView, walks_owed}
use Rattle.kin_mine.proofs.Mining.{KeepsCounts, none-active, turned-mining, turned-stands}
use Rattle.kin_mine.proofs.Walking.{LaneOf}

module _ (r0 r1 r2 : ResultView) (a : scores.KeepsRest r0 r1) (b : KeepsRest r1 r2) where
  pub both-rest : KeepsCounts r0 r2
  both-rest =
      b ∙ (ap (λ (x : ResultView). record x { hops = r2.hops; close = r2.close }) a
      ∙ ap₂ (λ (ns : List ℕ) (es : List (List KCount)). record r0 { hops = r2.hops; close = r2.close; ranks = ns; expos = es }) (sym (ap (λ (x : ResultView). x.ranks) b)) (sym (ap (λ (x : ResultView). x.expos) b)))

  users-last : r2.users ≡ r0.users
  users-last = ap (λ (x : ResultView). x.users) b ∙ ap (λ (x : ResultView). x.users) a

  pub on-first : (v : PartView) (ls : List User) (w : WalkersView) → WalkOn v ls r0 w → WalkOn v ls r1 w
  on-first v ls w on = subst (λ (x : ResultView). WalkOn v ls x w) (sym a) (record { hops = on.hops; close = on.close })

  pub lanes-first : (P : LaneOf) (ls : List User) (w x : WalkersView) → AllLanes P ls r1 w r2 x → AllLanes P ls r0 w r2 x
  lanes-first P ls w x all = subst (λ (y : ResultView). AllLanes P ls y w r2 x) back each
    where
      back : record r1 { ranks = r0.ranks; expos = r0.expos } ≡ r0
      back = ap (λ (y : ResultView). record y { ranks = r0.ranks; expos = r0.expos }) a

      each : AllLanes P ls (record r1 { ranks = r0.ranks; expos = r0.expos }) w r2 x
      each distance.Hops = all distance.Hops
      each distance.Close = all distance.Close

  pub owed-first : (v : PartView) (ls : List User) (w : WalkersView) → walks_owed v ls r1 w ≡ walks_owed v ls r0 w
  owed-first v ls w = ap (λ (x : ResultView). walks_owed v ls x w) a

  pub kept-last : (s : ScoresView) → AreKept r0.users s → AreKept r2.users s
  kept-last s are = subst (λ (us : List User). AreKept us s) (sym users-last) are

  pub stand-last : (v : PartView) (s : ScoresView) → StandOn v r0.users s → StandOn v r2.users s
  stand-last v s on = subst (λ (us : List User). StandOn v us s) (sym users-last) on

  pub shown-last : (s : ScoresView) → AreShown s r1 → AreShown s r2
  shown-last s is = subst (AreShown s) (sym b) (record { ranks = is.ranks; expos = is.expos })

  -- where neither changes anything the result is as it was
  pub same-last : r1 ≡ r0 → r2 ≡ r1 → r2 ≡ r0
  same-last h k = k ∙ h

  -- what both read
  pub reads-last : (v : PartView) (ls : List User) (w x : WalkersView) (s0 s1 s2 n : ℕ) → s1 ≤ s0 + n → s2 + walks_owed v ls r2 x ≤ s1 + walks_owed v ls r1 w → s2 + walks_owed v ls r2 x ≤ s0 + walks_owed v ls r0 w + n
  reads-last v ls w x s0 s1 s2 n h k = let e = owed-first v ls w in omega (arith, h, k, e)

abbrev pub miner_of : List User → ResultView → Option (List PartState) → WalkersView → ScoresView → MinerView
miner_of landmarks result snap walkers scores = record { landmarks = landmarks; result = result; snap = snap; walkers = walkers; scores = scores }

-- what the stores hand out that are there
pub seen-some : (m : MinerView) (stores : List PartState) → m.snap ≡ Some stores → joined stores ≡ seen m
seen-some m stores e = sym (ap handed_out e)

module _ (m : MinerView) (inv : IsMining m) (v : PartView) (v_is : v ≡ seen m) (ls : List User) (ls_is : ls ≡ m.landmarks) (r1 r2 : ResultView) (w : WalkersView) (s : ScoresView) (a : scores.KeepsRest m.result r1) (b : KeepsRest r1 r2)
    (walks : WalkOn v ls r2 w) (kept : AreKept m.result.users s) (on : StandOn v m.result.users s) (shown : AreShown s r1) where
  abbrev pub new : MinerView
  new = miner_of m.landmarks r2 m.snap w s

  walks-now : WalkOn (seen m) m.landmarks r2 w
  walks-now = subst (λ (y : PartView). WalkOn y m.landmarks r2 w) v_is (subst (λ (l : List User). WalkOn v l r2 w) ls_is walks)

  on-now : StandOn (seen m) r2.users s
  on-now = stand-last m.result r1 r2 a b (seen m) s (subst (λ (y : PartView). StandOn y m.result.users s) v_is on)

  pub new-mining : IsMining new
  new-mining = turned-mining m inv r2 w s (both-rest m.result r1 r2 a b) walks-now (kept-last m.result r1 r2 a b s kept) on-now (shown-last m.result r1 r2 a b s shown)

  pub new-stands : (now : MinerView) → m ≡ now → (g : Graph) (k : ℕ) → IsMinerOf g k now → IsMinerOf g k new
  new-stands now is g k st = turned-stands m inv r2 w s (both-rest m.result r1 r2 a b) walks-now (kept-last m.result r1 r2 a b s kept) on-now (shown-last m.result r1 r2 a b s shown) g k (subst (IsMinerOf g k) (sym is) st)

  lanes-now : (P : PartView → LaneOf) → AllLanes (P v) ls r1 m.walkers r2 w → AllLanes (P (seen m)) m.landmarks m.result m.walkers r2 w
  lanes-now P all = lanes-first m.result r1 r2 a b (P (seen m)) m.landmarks m.walkers w
      (subst (λ (y : PartView). AllLanes (P y) m.landmarks r1 m.walkers r2 w) v_is (subst (λ (l : List User). AllLanes (P v) l r1 m.walkers r2 w) ls_is all))

  pub new-turns : (u : User) (now : MinerView) → m ≡ now → AreTurned v u ls r1 m.walkers r2 w → scores.AreTurned v m.result.users u m.scores s → TurnsAt u now new
  new-turns u now is walked scored = subst (λ (y : MinerView). TurnsAt u y new) is (record {
    walks = lanes-now (λ y d l. IsTurned (rule_of d l) y u) walked;
    scores = subst (λ (y : PartView). scores.AreTurned y m.result.users u m.scores s) v_is scored;
    rest = ap (λ (y : ResultView). miner_of m.landmarks y m.snap w s) (both-rest m.result r1 r2 a b);
  })

  pub new-settles : (now : MinerView) → m ≡ now → AreSettled v ls r1 m.walkers r2 w → scores.AreSettled v m.result.users m.scores s → Settles now new
  new-settles now is walked scored = subst (λ (y : MinerView). Settles y new) is (record {
    walks = lanes-now (λ y d l. IsSettled (rule_of d l) y) walked;
    scores = subst (λ (y : PartView). scores.AreSettled y m.result.users m.scores s) v_is scored;
    rest = ap (λ (y : ResultView). miner_of m.landmarks y m.snap w s) (both-rest m.result r1 r2 a b);
  })

  pub new-quiet : AreStill w → AreQuiet m.result.users s → active_in new ≡ []
  new-quiet still quiet = none-active new new-mining still (subst (λ (us : List User). AreQuiet us s) (sym (users-last m.result r1 r2 a b)) quiet)

  -- what both read, and may read later
  pub new-owed : (now : MinerView) → m ≡ now → (f : PartView → MinerView → ℕ) (s0 s1 s2 : ℕ) → s1 ≤ s0 + f v m → s2 + walks_owed v ls r2 w ≤ s1 + walks_owed v ls r1 m.walkers → s2 + owed new ≤ s0 + owed now + f (seen now) now
  new-owed now is f s0 s1 s2 h k = subst (λ (y : MinerView). s2 + owed new ≤ s0 + owed y + f (seen y) y) is
      (reads-last m.result r1 r2 a b (seen m) m.landmarks m.walkers w s0 s1 s2 (f (seen m) m) (subst (λ (y : PartView). s1 ≤ s0 + f y m) v_is h)
      (subst (λ (y : PartView). s2 + walks_owed y m.landmarks r2 w ≤ s1 + walks_owed y m.landmarks r1 m.walkers) v_is
      (subst (λ (l : List User). s2 + walks_owed v l r2 w ≤ s1 + walks_owed v l r1 m.walkers) ls_is k)))
