-- What a miner keeps after turns, and who is active of it.
use Rattle.std.proofs.Common.{◌≡◌, ◌<◌, ◌≤◌, ◌^◌, ◌∙◌, ◌||◌, ◌⊎◌, ⊎_elim, ℕ, Bool, true, false, cond, List, [], Option, Some, None, IfSome, filter, length, get_or, ap, arith, refl, sym, subst}
use Rattle.std.proofs.lemmas.Bool.{cases_lt, or_cases, or_left, or_parts, or_right, both_ways}
use Rattle.std.proofs.lemmas.List.{get_or_past}
use Rattle.kin_ids.specs.declared.ids.User.{User}
use Rattle.kin_ids.specs.Graph.{Graph}
use Rattle.kin_ids.specs.Parts.{PartView}
use Rattle.kin_ids.specs.Users.{has_user}
use Rattle.kin_counts.specs.Counts.{IsCountOf}
use Rattle.kin_pull.specs.States.{IsKept, KeptView}
use Rattle.kin_pull.specs.States as kept
use Rattle.kin_pull.proofs.Turned.{away-quiet}
use Rattle.kin_push.specs.States.{IsQuiet}
use Rattle.kin_rules.specs.declared.turns.Turn.{Turn}
use Rattle.kin_rules.specs.declared.turns.Turn.TheVariants as turn
use Rattle.kin_rules.specs.Results.{ColumnView, ResultView, no_column}
use Rattle.kin_scores.specs.Scores.{AreKept, AreQuiet, AreShown, ScoresView, StandOn}
use Rattle.kin_scores.specs.Scores as scores
use Rattle.kin_mine.specs.declared.walk_rules.Distance.{Distance}
use Rattle.kin_mine.specs.declared.walk_rules.Distance.TheVariants as distance
use Rattle.kin_mine.specs.Marks.{AreOn, are_quiet, is_marked, state_at}
use Rattle.kin_mine.specs.Miners.{IsLeastUser, IsMinerOf, IsMining, MinerView, active_in, is_active, seen, turn_of}
use Rattle.kin_mine.specs.Walkers.{AreLong, AreStill, WalkOn, WalkersView, is_walking}
use Rattle.kin_mine.proofs.Actives.{active-there, has-filtered}
use Rattle.kin_mine.proofs.Columns.{lane-quiet, none-filtered, quiet-marked, quiet-places}

-- ---- what turns leave

-- nothing but columns of walks, ranks and exposures of a result changes
abbrev pub KeepsCounts : ResultView → ResultView → Type 0
KeepsCounts old new = new ≡ record old { hops = new.hops; close = new.close; ranks = new.ranks; expos = new.expos }

module _ (m : MinerView) (is : IsMining m) (r : ResultView) (w : WalkersView) (s : ScoresView) (rest : KeepsCounts m.result r)
    (walks : WalkOn (seen m) m.landmarks r w) (kept : AreKept r.users s) (on : StandOn (seen m) r.users s) (shown : AreShown s r) where
  abbrev pub turned : MinerView
  turned = record { landmarks = m.landmarks; result = r; snap = m.snap; walkers = w; scores = s }

  pub turned-mining : IsMining turned
  turned-mining = record {
    whole = is.whole;
    counts = subst (IsCountOf (seen m)) (sym rest)
        (record { users = is.counts.users; tags_ascend = is.counts.tags_ascend; tags = is.counts.tags; ins = is.counts.ins; outs = is.counts.outs; said = is.counts.said; tag_users = is.counts.tag_users });
    small = subst (λ (x : ResultView). length x.users ≤ 2 ^ 27) (sym rest) is.small;
    walks = walks;
    kept = kept;
    scores = on;
    shown = shown;
    first = (λ none. ap (λ (x : ResultView). x.epoch) rest ∙ is.first.0 none, λ zero. is.first.1 (sym (ap (λ (x : ResultView). x.epoch) rest) ∙ zero));
  }

  pub turned-stands : (g : Graph) (k : ℕ) → IsMinerOf g k m → IsMinerOf g k turned
  turned-stands g k st = record { epoch = ap (λ (x : ResultView). x.epoch) rest ∙ st.epoch; seen_is = st.seen_is; mining = turned-mining }

-- ---- who is active

-- the same answer is of who was active both times
pub same-answer : (a b : Bool) → cond a turn.Turned turn.Idle ≡ cond b turn.Turned turn.Idle → a ≡ b
same-answer true true e = refl
same-answer true false e = absurd cc
same-answer false true e = absurd cc
same-answer false false e = refl

-- marks of columns that stand on a view are as long as the users
pub walks-long : (v : PartView) (ls : List User) (r : ResultView) (w : WalkersView) → WalkOn v ls r w → AreLong r.users w
walks-long v ls r w on = record {
  hops = λ k lt. (on.hops.are.states k (omega (arith, lt, on.hops.are.marks_are))).marked;
  close = λ k lt. (on.close.are.states k (omega (arith, lt, on.close.are.marks_are))).marked;
}

pub still-walking : (users : List User) (w : WalkersView) → AreStill w → (u : User) → is_walking users w u ≡ false
still-walking users w still u = rw (quiet-marked users w.hop_marks still.0 u, quiet-marked users w.close_marks still.1 u) refl

kept-there : {V : Type 0} (top : ℕ) (us : List User) (k : KeptView V) → IsKept top us k → (u : User) → kept.is_active us k u ≡ true → has_user us u ≡ true
kept-there top us k is u e = split (has_user us u) refl
  where
    split : (b : Bool) → has_user us u ≡ b → has_user us u ≡ true
    split true h = h
    split false h = absurd (both_ways (kept.is_active us k u) (away-quiet us k u is.told is.low h) e)

scores-there : (us : List User) (s : ScoresView) → AreKept us s → (u : User) → scores.is_active us s u ≡ true → has_user us u ≡ true
scores-there us s are u e = ⊎_elim (kept-there 8 us s.ranks are.ranks u) (kept-there 1 us s.expos are.expos u) (or_cases (kept.is_active us s.ranks u) (kept.is_active us s.expos u) e)

module _ (m : MinerView) (is : IsMining m) where
  long : AreLong m.result.users m.walkers
  long = walks-long (seen m) m.landmarks m.result m.walkers is.walks

  -- the list of the active users has just those who are active
  pub has-active : (u : User) → has_user (active_in m) u ≡ is_active m u
  has-active = has-filtered (is_active m) m.result.users inside
    where
      inside : (u : User) → is_active m u ≡ true → has_user m.result.users u ≡ true
      inside u e = ⊎_elim (active-there m.result.users m.walkers.hop_marks m.walkers.close_marks long.hops long.close u) (scores-there m.result.users m.scores is.kept u)
          (or_cases (is_walking m.result.users m.walkers u) (scores.is_active m.result.users m.scores u) e)

  pub nobody : active_in m ≡ [] → (u : User) → is_active m u ≡ false
  nobody none u = sym (has-active u) ∙ ap (λ (us : List User). has_user us u) none

  pub none-active : AreStill m.walkers → AreQuiet m.result.users m.scores → active_in m ≡ []
  none-active still quiet = none-filtered m.result.users (is_active m) (λ u there. rw (still-walking m.result.users m.walkers still u, quiet u) refl)

  -- what a turn answers, and who is active by neither kind of rule
  pub turn-is : (u : User) (t : Turn) (e walked scored : Bool) → t ≡ cond e turn.Turned turn.Idle → e ≡ (walked || scored) → walked ≡ is_walking m.result.users m.walkers u → scored ≡ scores.is_active m.result.users m.scores u → t ≡ turn_of m u
  turn-is u t e walked scored t_is e_is w_is s_is =
      t_is ∙ ap (λ (b : Bool). cond b turn.Turned turn.Idle) (e_is ∙ (ap (λ (b : Bool). b || scored) w_is ∙ (ap (λ (b : Bool). is_walking m.result.users m.walkers u || b) s_is ∙ sym (has-active u))))

  pub neither-active : (u : User) → has_user (active_in m) u ≡ false → (is_walking m.result.users m.walkers u ≡ false) × (scores.is_active m.result.users m.scores u ≡ false)
  neither-active u off = or_parts (is_walking m.result.users m.walkers u) (scores.is_active m.result.users m.scores u) (sym (has-active u) ∙ off)

  -- where nobody is active
  module _ (none : active_in m ≡ []) where
    off : (u : User) → (is_marked m.result.users m.walkers.hop_marks u ≡ false) × (is_marked m.result.users m.walkers.close_marks u ≡ false)
    off u = or_parts (is_marked m.result.users m.walkers.hop_marks u) (is_marked m.result.users m.walkers.close_marks u)
        (or_parts (is_walking m.result.users m.walkers u) (scores.is_active m.result.users m.scores u) (nobody none u)).0

    lanes-quiet : (d : Distance) (columns : List ColumnView) (marks : List (List Bool)) → AreOn d (seen m) m.landmarks m.result.users columns marks → ((u : User) → is_marked m.result.users marks u ≡ false)
        → (i : ℕ) → i < length m.landmarks → IsQuiet (state_at m.result.users columns marks i)
    lanes-quiet d columns marks on free i lt = lane-quiet m.result.users marks (get_or columns i no_column).values i (on.are.states i lt).marked (λ u there. free u)

    marks-quiet : (d : Distance) (columns : List ColumnView) (marks : List (List Bool)) → AreOn d (seen m) m.landmarks m.result.users columns marks → ((u : User) → is_marked m.result.users marks u ≡ false) → are_quiet marks
    marks-quiet d columns marks on free k j = ⊎_elim inside (λ (ge : length marks ≤ k). rw (get_or_past marks k [] ge) refl) (cases_lt k (length marks))
      where
        inside : k < length marks → get_or (get_or marks k []) j false ≡ false
        inside lt = let within : k < length m.landmarks = omega (arith, lt, on.are.marks_are) in quiet-places (state_at m.result.users columns marks k) (on.are.states k within) (lanes-quiet d columns marks on free k within) j

    pub still : AreStill m.walkers
    still = (
      marks-quiet distance.Hops m.result.hops m.walkers.hop_marks is.walks.hops (λ u. (off u).0),
      marks-quiet distance.Close m.result.close m.walkers.close_marks is.walks.close (λ u. (off u).1),
    )

    pub hop-lanes-quiet : (i : ℕ) → i < length m.landmarks → IsQuiet (state_at m.result.users m.result.hops m.walkers.hop_marks i)
    hop-lanes-quiet = lanes-quiet distance.Hops m.result.hops m.walkers.hop_marks is.walks.hops (λ u. (off u).0)

    pub close-lanes-quiet : (i : ℕ) → i < length m.landmarks → IsQuiet (state_at m.result.users m.result.close m.walkers.close_marks i)
    close-lanes-quiet = lanes-quiet distance.Close m.result.close m.walkers.close_marks is.walks.close (λ u. (off u).1)

    pub scores-quiet : AreQuiet m.result.users m.scores
    scores-quiet u = (or_parts (is_walking m.result.users m.walkers u) (scores.is_active m.result.users m.scores u) (nobody none u)).1

-- the least of two kinds of users, where some kind has one
module _ (m : MinerView) (is : IsMining m) (a b o : Option User)
    (walking : IfSome a (λ u. (is_walking m.result.users m.walkers u ≡ true) × ((x : User) → is_walking m.result.users m.walkers x ≡ true → u.0 ≤ x.0)))
    (still : a ≡ None → AreStill m.walkers)
    (scoring : IfSome b (λ u. (scores.is_active m.result.users m.scores u ≡ true) × ((x : User) → scores.is_active m.result.users m.scores x ≡ true → u.0 ≤ x.0)))
    (quiet : b ≡ None → AreQuiet m.result.users m.scores) where
  pub none-least : (o ≡ None → (a ≡ None) × (b ≡ None)) → o ≡ None → active_in m ≡ []
  none-least both e = none-active m is (still (both e).0) (quiet (both e).1)

  -- who walks isn't less than the least
  over-walking : (x u : User) → is_walking m.result.users m.walkers x ≡ true → IfSome a (λ y. u.0 ≤ y.0) → u.0 ≤ x.0
  over-walking x u on low = split a refl
    where
      split : (p : Option User) → a ≡ p → u.0 ≤ x.0
      split None e = absurd (both_ways (is_walking m.result.users m.walkers x) (still-walking m.result.users m.walkers (still e) x) on)
      split (Some y) e =
          let one = subst (λ (p : Option User). IfSome p (λ z. (is_walking m.result.users m.walkers z ≡ true) × ((t : User) → is_walking m.result.users m.walkers t ≡ true → z.0 ≤ t.0))) e walking in
          let le : u.0 ≤ y.0 = subst (λ (p : Option User). IfSome p (λ z. u.0 ≤ z.0)) e low in
          omega (arith, le, one.1 x on)

  over-scoring : (x u : User) → scores.is_active m.result.users m.scores x ≡ true → IfSome b (λ y. u.0 ≤ y.0) → u.0 ≤ x.0
  over-scoring x u on low = split b refl
    where
      split : (p : Option User) → b ≡ p → u.0 ≤ x.0
      split None e = absurd (both_ways (scores.is_active m.result.users m.scores x) (quiet e x) on)
      split (Some y) e =
          let one = subst (λ (p : Option User). IfSome p (λ z. (scores.is_active m.result.users m.scores z ≡ true) × ((t : User) → scores.is_active m.result.users m.scores t ≡ true → z.0 ≤ t.0))) e scoring in
          let le : u.0 ≤ y.0 = subst (λ (p : Option User). IfSome p (λ z. u.0 ≤ z.0)) e low in
          omega (arith, le, one.1 x on)

  pub some-least : (u : User) → (a ≡ Some u) ⊎ (b ≡ Some u) → IfSome a (λ x. u.0 ≤ x.0) → IfSome b (λ x. u.0 ≤ x.0) → IsLeastUser (active_in m) u
  some-least u which low-a low-b = record {
    one = has-active m is u ∙ ⊎_elim by-walks by-scores which;
    least = λ x there. ⊎_elim (λ (on : is_walking m.result.users m.walkers x ≡ true). over-walking x u on low-a) (λ (on : scores.is_active m.result.users m.scores x ≡ true). over-scoring x u on low-b)
        (or_cases (is_walking m.result.users m.walkers x) (scores.is_active m.result.users m.scores x) (sym (has-active m is x) ∙ there));
  }
    where
      by-walks : a ≡ Some u → is_active m u ≡ true
      by-walks e = or_left (is_walking m.result.users m.walkers u) (scores.is_active m.result.users m.scores u)
          (subst (λ (p : Option User). IfSome p (λ z. (is_walking m.result.users m.walkers z ≡ true) × ((t : User) → is_walking m.result.users m.walkers t ≡ true → z.0 ≤ t.0))) e walking).0

      by-scores : b ≡ Some u → is_active m u ≡ true
      by-scores e = or_right (is_walking m.result.users m.walkers u) (scores.is_active m.result.users m.scores u)
          (subst (λ (p : Option User). IfSome p (λ z. (scores.is_active m.result.users m.scores z ≡ true) × ((t : User) → scores.is_active m.result.users m.scores t ≡ true → z.0 ≤ t.0))) e scoring).0

  pub least-is : IfSome o (λ u. (a ≡ Some u) ⊎ (b ≡ Some u)) → IfSome o (λ u. IfSome a (λ x. u.0 ≤ x.0) × IfSome b (λ x. u.0 ≤ x.0)) → IfSome o (IsLeastUser (active_in m))
  least-is one least = here o one least
    where
      here : (p : Option User) → IfSome p (λ u. (a ≡ Some u) ⊎ (b ≡ Some u)) → IfSome p (λ u. IfSome a (λ x. u.0 ≤ x.0) × IfSome b (λ x. u.0 ≤ x.0)) → IfSome p (IsLeastUser (active_in m))
      here None one least = tt
      here (Some u) one least = some-least u one least.0 least.1
