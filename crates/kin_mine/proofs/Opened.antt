-- What a miner keeps before any epoch.
use Rattle.std.proofs.Common.{◌≡◌, ◌<◌, ◌≤◌, ◌^◌, ◌∙◌, ℕ, zero, suc, Bool, true, false, cond, List, [], ◌∷◌, Option, Some, None, filter, map, length, get_or, replicate, arith, refl, sym, ap, subst}
use Rattle.std.specs.List.Sorted.{IsStrictlySortedBy}
use Rattle.std.specs.declared.cmp.Ordering.{Ordering}
use Rattle.std.proofs.lemmas.List.{length-replicate}
use Rattle.std.proofs.lemmas.List.Sorted.{IsPermutation-refl}
use Rattle.kin_ids.specs.declared.ids.User.{User}
use Rattle.kin_ids.specs.Graph.{empty_graph}
use Rattle.kin_ids.specs.Wholes.{IsViewOf}
use Rattle.kin_changes.specs.Views.{IsWholeView, empty_view}
use Rattle.kin_counts.specs.Counts.{IsCountOf}
use Rattle.kin_push.specs.Facts.{On}
use Rattle.kin_push.specs.States.{IsPushState, PushState, state}
use Rattle.kin_push.proofs.Begun.{empty-law}
use Rattle.kin_rules.specs.Results.{ColumnView, ResultView, first_result, no_column}
use Rattle.kin_scores.specs.Scores.{AreKept, AreShown, ScoresView, StandOn}
use Rattle.kin_mine.specs.declared.walk_rules.Distance.{Distance}
use Rattle.kin_mine.specs.declared.walk_rules.Distance.TheVariants as distance
use Rattle.kin_mine.specs.Marks.{AreOn, rule_of, state_at}
use Rattle.kin_mine.specs.Miners.{IsMinerOf, IsMining, MinerView}
use Rattle.kin_mine.specs.Walkers.{WalkersView, blank_marks, no_walkers}

blank-column : (n i : ℕ) → get_or (replicate n no_column) i no_column ≡ no_column
blank-column zero i = refl
blank-column (suc n) zero = refl
blank-column (suc n) (suc i) = blank-column n i

blank-mark : (n i : ℕ) → get_or (replicate {A = List Bool} n []) i [] ≡ []
blank-mark zero i = refl
blank-mark (suc n) zero = refl
blank-mark (suc n) (suc i) = blank-mark n i

sorted-nil : {K : Type 0} (c : K → K → Ordering) → IsStrictlySortedBy c []
unfolding IsStrictlySortedBy
sorted-nil c = tt

empty-whole : IsWholeView empty_view
empty-whole = record {
  out_once = λ u. tt;
  in_once = λ u. tt;
  mentions_once = λ u. tt;
  mentioners_once = λ u. tt;
  uses_once = λ u. tt;
  tag_users_once = λ t. tt;
  follows = λ u w. refl;
  present = λ u w. refl;
  mentioned = λ u w. refl;
  tagged = λ u t. refl;
  said = λ u none. refl;
}

module _ (landmarks : List User) where
  blank-state : (i : ℕ) → state_at [] (replicate (length landmarks) no_column) (blank_marks (length landmarks) 0) i ≡ state [] [] []
  blank-state i = rw (blank-column (length landmarks) i, blank-mark (length landmarks) i) refl

  empty-state : IsPushState (state [] [] [])
  empty-state = record { ascend = sorted-nil _; valued = refl; marked = refl }

  pub first-on : (d : Distance) → AreOn d empty_view landmarks [] (replicate (length landmarks) no_column) (blank_marks (length landmarks) 0)
  first-on d = record {
    are = record {
      columns_are = length-replicate (length landmarks) no_column;
      marks_are = length-replicate (length landmarks) [];
      alone = λ i. ap (λ (c : ColumnView). c.others) (blank-column (length landmarks) i);
      states = λ i lt. subst IsPushState (sym (blank-state i)) empty-state;
    };
    on = λ i l e. subst (On (rule_of d l) empty_view) (sym (blank-state i)) (empty-law (rule_of d l));
  }

  first-counts : IsCountOf empty_view (first_result (length landmarks))
  first-counts = record {
    users = record { ascend = sorted-nil _; all = λ u. refl };
    tags_ascend = sorted-nil _;
    tags = λ t. refl;
    ins = λ u. refl;
    outs = λ u. refl;
    said = λ u. refl;
    tag_users = λ t. refl;
  }

  module _ (s : ScoresView) (kept : AreKept [] s) (on : StandOn empty_view [] s) (shown : (r : ResultView) → r.ranks ≡ [] → r.tags ≡ [] → r.expos ≡ [] → AreShown s r) where
    abbrev pub first_miner : MinerView
    first_miner = record { landmarks = landmarks; result = first_result (length landmarks); snap = None; walkers = no_walkers (length landmarks) 0; scores = s }

    pub first-mining : IsMining first_miner
    first-mining = record {
      whole = empty-whole;
      counts = first-counts;
      small = omega arith;
      walks = record { hops = first-on distance.Hops; close = first-on distance.Close };
      kept = kept;
      scores = on;
      shown = shown (first_result (length landmarks)) refl refl refl;
      first = (λ e. refl, λ e. refl);
    }

    pub first-stands : IsMinerOf empty_graph 0 first_miner
    first-stands = record { epoch = refl; seen_is = empty-shown; mining = first-mining }
      where
        empty-shown : IsViewOf empty_graph empty_view
        empty-shown = record { out = λ u. refl; inn = λ u. refl; mentions = λ u. IsPermutation-refl []; mentioners = λ u. IsPermutation-refl []; said = λ u. refl; uses = λ u. IsPermutation-refl []; tag_users = λ t. IsPermutation-refl [] }

    -- a miner that is made of such parts is that one
    pub made-first : (ls : List User) (r : ResultView) (w : WalkersView) → ls ≡ landmarks → r ≡ first_result (length landmarks) → w ≡ no_walkers (length landmarks) 0
        → first_miner ≡ record { landmarks = ls; result = r; snap = None; walkers = w; scores = s }
    made-first ls r w a b c = rw (a, b, c) refl
