-- A miner enters an epoch by its plan.
use Rattle.std.proofs.Common.{◌≡◌, ◌<◌, ◌≤◌, ◌^◌, ◌∙◌, ◌||◌, ℕ, Bool, true, List, [], Option, Some, None, length, get_or, arith, refl, sym, ap, subst}
use Rattle.std.specs.Prelude.{slice_get, unwrap_or}
use Rattle.std.proofs.lemmas.Bool.{or_right}
use Rattle.kin_ids.specs.declared.ids.User.{User}
use Rattle.kin_ids.specs.Graph.{Graph}
use Rattle.kin_ids.specs.Parts.{PartView}
use Rattle.kin_ids.specs.Users.{has_user}
use Rattle.kin_ids.specs.Wholes.{IsViewOf}
use Rattle.kin_graph.specs.Deltas.{DeltaLists}
use Rattle.kin_graph.specs.State.{PartState}
use Rattle.kin_graph.specs.Views.{AreVertices, IsSmall, is_vertex}
use Rattle.kin_blocks.specs.Snaps.{joined}
use Rattle.kin_changes.specs.Told.{are_told}
use Rattle.kin_changes.specs.Views.{AreLed}
use Rattle.kin_changes.proofs.Members.{vertices-law}
use Rattle.kin_counts.specs.Counts.{CountsOn, IsCountOf, KeepsOthers}
use Rattle.kin_counts.specs.Plans.{planned_tags, planned_users}
use Rattle.kin_pull.specs.Begins.{IsBegun}
use Rattle.kin_push.specs.Begins.{Begins, is_started}
use Rattle.kin_push.proofs.EngineParts.{started-told}
use Rattle.kin_rules.specs.declared.numbers.KCount.{KCount}
use Rattle.kin_rules.specs.ExposureRule.{exposure_rule}
use Rattle.kin_rules.specs.RankRule.{rank_rule}
use Rattle.kin_rules.specs.Results.{ColumnView, ResultView, close_in, hops_in, no_column}
use Rattle.kin_scores.specs.Plans as scores
use Rattle.kin_scores.specs.Scores.{AreKept, AreShown, ScoresView, StandOn}
use Rattle.kin_scores.specs.Turns as score_turns
use Rattle.kin_scores.proofs.Begun.{begins}
use Rattle.kin_mine.specs.declared.plans.Plan.{Plan}
use Rattle.kin_mine.specs.declared.walk_rules.Distance.{Distance}
use Rattle.kin_mine.specs.declared.walk_rules.Distance.TheVariants as distance
use Rattle.kin_mine.specs.Epochs.{BeginsOn, lane_of}
use Rattle.kin_mine.specs.Lanes.{no_user}
use Rattle.kin_mine.specs.Marks.{AreBlank, AreOn, AreStates, rule_of, state_at}
use Rattle.kin_mine.specs.Miners.{IsMinerOf, IsMining, MinerView, active_in, seen}
use Rattle.kin_mine.specs.Plans.{IsFreshFor, IsPlanned}
use Rattle.kin_mine.specs.Walkers.{AreEntered, AreFresh, HaveStates, KeepsRest, WalkOn, WalkersView}
use Rattle.kin_mine.proofs.Begins.{begun-on, lane-begins}
use Rattle.kin_mine.proofs.Fits.{fits}
use Rattle.kin_mine.proofs.Fresh.{blank-marks}
use Rattle.kin_mine.proofs.Mining.{close-lanes-quiet, hop-lanes-quiet, scores-quiet, still, walks-long}
use Rattle.kin_mine.proofs.Next.{next-users, tags-same}

-- counts have nothing to do with the epoch, ranks, exposures and walks
counts-free : (v : PartView) (r : ResultView) → IsCountOf v r → (k : ℕ) (hc kc : List ColumnView) (ns : List ℕ) (es : List (List KCount)) → IsCountOf v (record r { epoch = k; hops = hc; close = kc; ranks = ns; expos = es })
counts-free v r c k hc kc ns es = record { users = c.users; tags_ascend = c.tags_ascend; tags = c.tags; ins = c.ins; outs = c.outs; said = c.said; tag_users = c.tag_users }

module _ (m : MinerView) (inv : IsMining m) (quiet : active_in m ≡ []) (v : PartView) (ds : List DeltaLists) (led : AreLed (seen m) v ds) (small : IsSmall v) (said : (u : User) → v.said u < 2 ^ 64)
    (p : Plan) (planned : IsPlanned m ds p) (r1 : ResultView) (counts : CountsOn ds m.result r1) (keeps : KeepsOthers m.result r1) (users_are : r1.users ≡ planned_users p.counts m.result)
    (alone_hops : (i : ℕ) → (get_or m.result.hops i no_column).others ≡ [] → (get_or r1.hops i no_column).others ≡ []) (alone_close : (i : ℕ) → (get_or m.result.close i no_column).others ≡ [] → (get_or r1.close i no_column).others ≡ []) where
  next : AreVertices v (planned_users p.counts m.result)
  next = next-users (seen m) v ds led m.result inv.counts p.counts planned.counts

  pub counted : IsCountOf v r1
  counted = counts (seen m) v led (fits v (planned_users p.counts m.result) led.after next (small (planned_users p.counts m.result) next) said) inv.counts

  -- the plan of ranks and exposures is of these users and tags
  pub scores-planned : scores.IsPlanOf r1.users r1.tags p.scores
  scores-planned =
      subst (λ (us : List User). scores.IsPlanOf us r1.tags p.scores) (sym users_are)
      (subst (λ (ts : List (List ℕ)). scores.IsPlanOf (planned_users p.counts m.result) ts p.scores) (sym (tags-same (seen m) v ds led m.result inv.counts p.counts planned.counts r1 counted)) planned.scores)

  module _ (r2 : ResultView) (rest : score_turns.KeepsRest r1 r2) where
    users-two : r2.users ≡ r1.users
    users-two = ap (λ (x : ResultView). x.users) rest

    pub starts-within : (d : Distance) (starts : List User) → ((u : User) → has_user starts u ≡ is_started (rule_of d no_user) ds u) → (u : User) → has_user starts u ≡ true → has_user r2.users u ≡ true
    starts-within d starts are u h =
        let told = started-told (rule_of d no_user) ds u (sym (are u) ∙ h) in
        ap (λ (us : List User). has_user us u) users-two ∙ (counted.users.all u ∙ ((vertices-law (seen m) v ds led).0 u ∙ or_right _ (are_told ds u) told))

    -- marks of the next users, of whom nobody is marked
    blank-of : (o : Option WalkersView) → IsFreshFor m.landmarks m.result.users (planned_users p.counts m.result) o → AreBlank (length m.landmarks) r2.users (unwrap_or o m.walkers).hop_marks × AreBlank (length m.landmarks) r2.users (unwrap_or o m.walkers).close_marks
    blank-of None same =
        let us : m.result.users ≡ r2.users = sym same ∙ (sym users_are ∙ sym users-two) in
        let long = walks-long (seen m) m.landmarks m.result m.walkers inv.walks in (
          record { count = inv.walks.hops.are.marks_are; long = λ k lt. long.hops k (omega (arith, lt, inv.walks.hops.are.marks_are)) ∙ ap length us; quiet = (still m inv quiet).0 },
          record { count = inv.walks.close.are.marks_are; long = λ k lt. long.close k (omega (arith, lt, inv.walks.close.are.marks_are)) ∙ ap length us; quiet = (still m inv quiet).1 },
        )
    blank-of (Some w) blank = (
      blank-marks (length m.landmarks) r2.users (planned_users p.counts m.result) w.hop_marks (sym users_are ∙ sym users-two) (ap (λ (x : WalkersView). x.hop_marks) blank),
      blank-marks (length m.landmarks) r2.users (planned_users p.counts m.result) w.close_marks (sym users_are ∙ sym users-two) (ap (λ (x : WalkersView). x.close_marks) blank),
    )

    pub fresh : (w : WalkersView) → w ≡ unwrap_or p.fresh m.walkers → AreFresh m.landmarks r2 w
    fresh w is = subst (AreFresh m.landmarks r2) (sym is) (record {
      hop_marks = (blank-of p.fresh planned.fresh).0;
      close_marks = (blank-of p.fresh planned.fresh).1;
      columns = ap (λ (x : ResultView). length x.hops) rest ∙ (keeps.landmarks ∙ inv.walks.hops.are.columns_are);
      alone_hops = λ i. ap (λ (x : ResultView). (get_or x.hops i no_column).others) rest ∙ alone_hops i (inv.walks.hops.are.alone i);
      alone_close = λ i. ap (λ (x : ResultView). (get_or x.close i no_column).others) rest ∙ alone_close i (inv.walks.close.are.alone i);
    })

    module _ (w : WalkersView) (before : HaveStates m.landmarks r2 w) (r3 : ResultView) (x : WalkersView) (walks_rest : KeepsRest r2 r3) (after : HaveStates m.landmarks r3 x)
        (enters : AreEntered p.hop_starts.items p.close_starts.items m.landmarks r2 w r3 x) (k : ℕ) (some : 0 < k) (stores : List PartState) (shown_v : v ≡ joined stores)
        (s : ScoresView) (s_is : s ≡ scores.planned p.scores) (kept : AreKept r2.users s) (shown : AreShown s r2) where
      users-three : r3.users ≡ r2.users
      users-three = ap (λ (y : ResultView). y.users) walks_rest

      abbrev Result : ResultView
      Result = record r3 { epoch = k }

      abbrev pub entered_miner : MinerView
      entered_miner = record { landmarks = m.landmarks; result = Result; snap = Some stores; walkers = x; scores = s }

      result-of : Result ≡ record r1 { epoch = k; hops = r3.hops; close = r3.close; ranks = r2.ranks; expos = r2.expos }
      result-of = ap (λ (y : ResultView). record y { epoch = k }) walks_rest ∙ ap (λ (y : ResultView). record y { epoch = k; hops = r3.hops; close = r3.close }) rest

      now-counted : IsCountOf v Result
      now-counted = subst (IsCountOf v) (sym result-of) (counts-free v r1 counted k r3.hops r3.close r2.ranks r2.expos)

      few : length r3.users ≤ 2 ^ 27
      few = small r3.users now-counted.users

      vertices-two : AreVertices v r2.users
      vertices-two = subst (AreVertices v) (sym users-two) counted.users

      few-two : length r2.users ≤ 2 ^ 27
      few-two = small r2.users vertices-two

      hops-after : AreStates m.landmarks r2.users r3.hops x.hop_marks
      hops-after = subst (λ (us : List User). AreStates m.landmarks us r3.hops x.hop_marks) users-three after.hops

      close-after : AreStates m.landmarks r2.users r3.close x.close_marks
      close-after = subst (λ (us : List User). AreStates m.landmarks us r3.close x.close_marks) users-three after.close

      same-hops : (i : ℕ) (u : User) → hops_in r2 i u ≡ hops_in m.result i u
      same-hops i u = ap (λ (y : ResultView). hops_in y i u) rest ∙ keeps.hops i u

      same-close : (i : ℕ) (u : User) → close_in r2 i u ≡ close_in m.result i u
      same-close i u = ap (λ (y : ResultView). close_in y i u) rest ∙ keeps.close i u

      hop-begins : (i : ℕ) (l : User) → slice_get m.landmarks i ≡ Some l → Begins (rule_of distance.Hops l) v ds (lane_of distance.Hops m i) (lane_of distance.Hops entered_miner i)
      hop-begins i l e = subst (λ (us : List User). Begins (rule_of distance.Hops l) v ds (lane_of distance.Hops m i) (state_at us r3.hops x.hop_marks i)) (sym users-three)
          (lane-begins distance.Hops (seen m) v ds led m.landmarks m.result.users r2.users m.result.hops r2.hops r3.hops m.walkers.hop_marks w.hop_marks x.hop_marks p.hop_starts.items inv.walks.hops (hop-lanes-quiet m inv quiet) vertices-two few-two before.hops same-hops planned.hop_starts (enters distance.Hops) hops-after i l e)

      close-begins : (i : ℕ) (l : User) → slice_get m.landmarks i ≡ Some l → Begins (rule_of distance.Close l) v ds (lane_of distance.Close m i) (lane_of distance.Close entered_miner i)
      close-begins i l e = subst (λ (us : List User). Begins (rule_of distance.Close l) v ds (lane_of distance.Close m i) (state_at us r3.close x.close_marks i)) (sym users-three)
          (lane-begins distance.Close (seen m) v ds led m.landmarks m.result.users r2.users m.result.close r2.close r3.close m.walkers.close_marks w.close_marks x.close_marks p.close_starts.items inv.walks.close (close-lanes-quiet m inv quiet) vertices-two few-two before.close same-close planned.close_starts (enters distance.Close) close-after i l e)

      walk-on : WalkOn v m.landmarks Result x
      walk-on = record {
        hops = subst (λ (us : List User). AreOn distance.Hops v m.landmarks us r3.hops x.hop_marks) (sym users-three)
            (begun-on distance.Hops (seen m) v ds led m.landmarks m.result.users r2.users m.result.hops r2.hops r3.hops m.walkers.hop_marks w.hop_marks x.hop_marks p.hop_starts.items inv.walks.hops (hop-lanes-quiet m inv quiet) vertices-two few-two before.hops same-hops planned.hop_starts (enters distance.Hops) hops-after);
        close = subst (λ (us : List User). AreOn distance.Close v m.landmarks us r3.close x.close_marks) (sym users-three)
            (begun-on distance.Close (seen m) v ds led m.landmarks m.result.users r2.users m.result.close r2.close r3.close m.walkers.close_marks w.close_marks x.close_marks p.close_starts.items inv.walks.close (close-lanes-quiet m inv quiet) vertices-two few-two before.close same-close planned.close_starts (enters distance.Close) close-after);
      }

      -- the users of the plan are those of now
      planned-now : planned_users p.counts m.result ≡ r3.users
      planned-now = sym users_are ∙ (sym users-two ∙ sym users-three)

      scores-on : StandOn v r3.users s
      scores-on =
          subst (λ (us : List User). StandOn v us s) planned-now
          (subst (StandOn v (planned_users p.counts m.result)) (sym s_is)
          (begins (seen m) v ds m.result.users m.scores (planned_users p.counts m.result) p.scores led next inv.scores (scores-quiet m inv quiet) planned.begun))

      pub entered-mining : IsMining entered_miner
      entered-mining = record {
        whole = subst (λ (y : PartView). Rattle.kin_changes.specs.Views.IsWholeView y) shown_v led.after;
        counts = subst (λ (y : PartView). IsCountOf y Result) shown_v now-counted;
        small = few;
        walks = subst (λ (y : PartView). WalkOn y m.landmarks Result x) shown_v walk-on;
        kept = subst (λ (us : List User). AreKept us s) (sym users-three) kept;
        scores = subst (λ (y : PartView). StandOn y r3.users s) shown_v scores-on;
        shown = shown-now;
        first = (λ none. absurd (let e : Some stores ≡ None = none in (cc)), λ zero_k. absurd (omega (arith, zero_k, some)));
      }
        where
          shown-three : AreShown s r3
          shown-three = subst (AreShown s) (sym walks_rest) (record { ranks = shown.ranks; expos = shown.expos })

          shown-now : AreShown s Result
          shown-now = record { ranks = shown-three.ranks; expos = shown-three.expos }

      begun-ranks : IsBegun rank_rule ds m.result.users m.scores.ranks r3.users s.ranks
      begun-ranks =
          subst (λ (us : List User). IsBegun rank_rule ds m.result.users m.scores.ranks us s.ranks) planned-now
          (subst (λ (y : ScoresView). IsBegun rank_rule ds m.result.users m.scores.ranks (planned_users p.counts m.result) y.ranks) (sym s_is) planned.begun.ranks)

      begun-expos : IsBegun exposure_rule ds m.result.users m.scores.expos r3.users s.expos
      begun-expos =
          subst (λ (us : List User). IsBegun exposure_rule ds m.result.users m.scores.expos us s.expos) planned-now
          (subst (λ (y : ScoresView). IsBegun exposure_rule ds m.result.users m.scores.expos (planned_users p.counts m.result) y.expos) (sym s_is) planned.begun.expos)

      module _ (now : MinerView) (is : m ≡ now) (r4 : ResultView) (r4_is : r4 ≡ record r3 { epoch = k }) where
        abbrev new : MinerView
        new = record { landmarks = m.landmarks; result = r4; snap = Some stores; walkers = x; scores = s }

        new-is : entered_miner ≡ new
        new-is = ap (λ (y : ResultView). record entered_miner { result = y }) (sym r4_is)

        pub new-mining : IsMining new
        new-mining = subst IsMining new-is entered-mining

        pub new-begins : BeginsOn v ds now new
        new-begins = subst (λ (y : MinerView). BeginsOn v ds y new) is (subst (BeginsOn v ds m) new-is (record { walks = both; ranks = begun-ranks; expos = begun-expos }))
          where
            both : (d : Distance) (i : ℕ) (l : User) → slice_get m.landmarks i ≡ Some l → Begins (rule_of d l) v ds (lane_of d m i) (lane_of d entered_miner i)
            both distance.Hops = hop-begins
            both distance.Close = close-begins

        pub new-stands : (g : Graph) → IsViewOf g (joined stores) → IsMinerOf g k new
        new-stands g h = subst (IsMinerOf g k) new-is (record { epoch = refl; seen_is = h; mining = entered-mining })
