-- Where nobody is active, a miner has the values of its graph.
use Rattle.std.proofs.Common.{◌≡◌, ◌<◌, ◌≤◌, ◌∙◌, ◌||◌, ⊎_elim, ℕ, Bool, true, false, cond, List, [], Option, Some, None, length, get_or, filter, map, nat_lt, arith, refl, sym, ap}
use Rattle.std.specs.Prelude.{slice_get}
use Rattle.std.proofs.lemmas.List.{get_or_past}
use Rattle.std.proofs.lemmas.Option.{slice_get-get_or, slice_get_within}
use Rattle.std.specs.List.{range_with_len}
use Rattle.std.proofs.lemmas.Bool.{cases_lt, not-false}
use Rattle.std.proofs.lemmas.List.Sorted.{length_permutation}
use Rattle.kin_ids.specs.declared.ids.User.{User}
use Rattle.kin_ids.specs.Graph.{Graph, tag_users, vertices}
use Rattle.kin_ids.specs.Users.{has_user}
use Rattle.kin_counts.specs.Counts.{AreCountsOf}
use Rattle.kin_counts.proofs.Laws.{count-law, none-empty}
use Rattle.kin_store.specs.Rows.{is_none}
use Rattle.kin_push.proofs.Epochs.{quiet-is-least, view-law}
use Rattle.kin_rules.specs.declared.numbers.KCount.{KCount}
use Rattle.kin_rules.specs.declared.numbers.Num.{Num}
use Rattle.kin_rules.specs.declared.numbers.Num.TheVariants as num
use Rattle.kin_rules.specs.Counts.{tag_count}
use Rattle.kin_rules.specs.Exposure.{exposure, exposures}
use Rattle.kin_rules.specs.Nets.{close_of, hops_of, least_of}
use Rattle.kin_rules.specs.Places.{place}
use Rattle.kin_rules.specs.Ranks.{rank}
use Rattle.kin_rules.specs.Results.{ColumnView, IsResult, expo_in, from_landmark, no_column, number_in, number_of, value_in as column_value, value_of, has_tag, tag_place}
use Rattle.kin_rules.proofs.ScratchReads.{tag-read, user-read}
use Rattle.kin_scores.proofs.Shown.{shown-law}
use Rattle.kin_mine.specs.declared.walk_rules.Distance.{Distance}
use Rattle.kin_mine.specs.declared.walk_rules.Distance.TheVariants as distance
use Rattle.kin_mine.specs.Marks.{AreOn, is_marked, rule_of, state_at}
use Rattle.kin_mine.specs.Miners.{IsMinerOf, MinerView, QuietIsResult, active_in, seen}
use Rattle.kin_mine.specs.WalkRules.{rule-laws}
use Rattle.kin_mine.proofs.Columns.{column-value, lane-quiet, quiet-marked}
use Rattle.kin_mine.proofs.Mining.{scores-quiet, still}

-- a column of nobody has no value
no-value : (us : List User) (u : User) → value_of us no_column u ≡ None
no-value us u = here (has_user us u)
  where
    here : (b : Bool) → cond b (get_or (no_column).values (place us u) None) None ≡ None
    here true = refl
    here false = refl

-- where no element stands the list has ended
none-past : (us : List User) (i : ℕ) → slice_get us i ≡ None → length us ≤ i
none-past us i e = ⊎_elim (λ (lt : i < length us). absurd (let some = slice_get-get_or us i (record { 0 = 0 }) lt in let both = sym e ∙ some in (cc))) (λ (ge : length us ≤ i). ge) (cases_lt i (length us))

module _ (g : Graph) (k : ℕ) (m : MinerView) (is : IsMinerOf g k m) (none : active_in m ≡ []) where
  module _ (d : Distance) (columns : List ColumnView) (marks : List (List Bool)) (on : AreOn d (seen m) m.landmarks m.result.users columns marks)
      (quiet : (u : User) → is_marked m.result.users marks u ≡ false) where
    values : (i : ℕ) (u : User) → column_value m.result.users columns i u ≡ from_landmark (λ l x. least_of (rule_of d l) g x) (slice_get m.landmarks i) u
    values i u = here (slice_get m.landmarks i) refl
      where
        here : (o : Option User) → slice_get m.landmarks i ≡ o → column_value m.result.users columns i u ≡ from_landmark (λ l x. least_of (rule_of d l) g x) o u
        here None e = ap (λ (c : ColumnView). value_of m.result.users c u) (get_or_past columns i no_column (let past = none-past m.landmarks i e in let are = on.are.columns_are in omega (arith, past, are))) ∙ no-value m.result.users u
        here (Some l) e =
            let lt = slice_get_within m.landmarks i l e in
            let s = on.are.states i lt in
            column-value m.result.users (get_or columns i no_column) (get_or marks i []) u s.valued (on.are.alone i)
            ∙ (quiet-is-least (rule_of d l) (seen m) (state_at m.result.users columns marks i) (rule-laws d l) (on.on i l e) (lane-quiet m.result.users marks (get_or columns i no_column).values i s.marked (λ w there. quiet w)) u
            ∙ view-law (rule_of d l) g (seen m) m.result.users (rule-laws d l) is.seen_is is.mining.counts.users u)

  counts : AreCountsOf g m.result
  counts = count-law g (seen m) m.result is.seen_is is.mining.counts

  shown : (m.result.ranks ≡ map (rank g) m.result.users) × (m.result.expos ≡ map (exposures g) m.result.tags)
  shown = shown-law g (seen m) m.scores m.result is.seen_is is.mining.whole is.mining.counts.users is.mining.kept is.mining.scores (scores-quiet m is.mining none) is.mining.shown

  ranks : (u : User) → number_in m.result num.Rank u ≡ cond (has_user (vertices g) u) (rank g u) 0
  ranks u =
      ap (λ (ns : List ℕ). get_or ns (place m.result.users u) 0) shown.0
      ∙ (user-read (rank g) m.result.users u ∙ ap (λ (b : Bool). cond b (rank g u) 0) (counts.users u))

  numbers : (which : Num) (u : User) → number_in m.result which u ≡ cond (has_user (vertices g) u) (number_of g which u) 0
  numbers num.In u = counts.ins u
  numbers num.Out u = counts.outs u
  numbers num.Said u = counts.said u
  numbers num.Rank u = ranks u

  -- a tag that nobody has used has no exposures
  no-expos : (t : List ℕ) → has_tag m.result.tags t ≡ false → exposures g t ≡ []
  no-expos t off =
      let unused : is_none ((seen m).tag_users t) ≡ true = not-false (is_none ((seen m).tag_users t)) (sym (is.mining.counts.tags t) ∙ off) in
      let none : tag_count g t ≡ 0 = (length_permutation ((seen m).tag_users t) (tag_users g t) (is.seen_is.tag_users t)) ∙ ap (λ (us : List User). length us) (none-empty ((seen m).tag_users t) unused) in
      ap (λ (n : ℕ). filter (λ (c : KCount). nat_lt 0 c.users) (map (λ (k : ℕ). let c : KCount = record { k = k; users = exposure g t k } in c) (range_with_len 0 n))) none

  expos : (t : List ℕ) → expo_in m.result t ≡ exposures g t
  expos t = ap (λ (es : List (List KCount)). get_or es (tag_place m.result.tags t) []) shown.1 ∙ (tag-read (exposures g) m.result.tags t [] ∙ here (has_tag m.result.tags t) refl)
    where
      here : (b : Bool) → has_tag m.result.tags t ≡ b → cond b (exposures g t) [] ≡ exposures g t
      here true e = refl
      here false e = sym (no-expos t e)

  pub result-is : IsResult g m.landmarks m.result
  result-is = record {
    users_ascend = is.mining.counts.users.ascend;
    users = counts.users;
    tags_ascend = is.mining.counts.tags_ascend;
    tags = counts.tags;
    numbers = numbers;
    tag_users = counts.tag_users;
    expos = expos;
    columns = is.mining.walks.hops.are.columns_are;
    hops = values distance.Hops m.result.hops m.walkers.hop_marks is.mining.walks.hops (quiet-marked m.result.users m.walkers.hop_marks (still m is.mining none).0);
    close = values distance.Close m.result.close m.walkers.close_marks is.mining.walks.close (quiet-marked m.result.users m.walkers.close_marks (still m is.mining none).1);
  }

pub quiet-result : QuietIsResult
quiet-result g k m is none = result-is g k m is none
