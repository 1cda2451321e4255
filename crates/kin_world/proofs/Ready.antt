-- The run that the hub finds ready is what every partition has acknowledged of the line past the agreed position.
use Rattle.std.proofs.Common.{◌≡◌, ℕ, ◌<◌, ◌≤◌, Bool, true, false, cond, eqb, ◌&&◌, ⊎_elim, Some, None, List, [], ◌∷◌, ◌++◌, sym, ◌∙◌, ap, subst, arith, refl, get_or, length}
use Rattle.std.specs.Option.{unwrap_or}
use Rattle.std.proofs.lemmas.Bool.{and_from, and_parts, eqb-true, eq-eqb, both_ways, true_from_ne_false, cases_lt}
use Rattle.std.proofs.lemmas.List.{get_or-map, length-map}
use Rattle.kin_ids.specs.declared.stamps.Stamp.{Stamp}
use Rattle.kin_ids.specs.Lines.{has, stamps_of, front_in, end_of, upto, past, made_by, seen_in, ack_of, IsEnd, least_from}
use Rattle.kin_ids.proofs.Lines.{front-has, front-upto, front-end, front-grows, front_in-append, upto-has, upto-front, upto-past, upto_past, upto-upto, upto-line, upto-end, upto-ends, past_past, seen-mono, least-end, least-le, least-alike}
use Rattle.kin_script.specs.declared.events.Event.{Event}
use Rattle.kin_history.specs.Setting.{Setting, nodes}
use Rattle.kin_history.specs.Lines.{inc, line, sent, base, top_in, seen, delivered, reported, has_reported, ack, least_ack, agreed}
use Rattle.kin_history.proofs.Made.{unreported, reported-delivered}
use Rattle.kin_history.proofs.Seen.{agreed-least, ack-is, grew, row-within, seen-within}
use Rattle.kin_held.specs.Chains.{ChainView, chain_at}
use Rattle.kin_ids.proofs.Joins.{past-end_of}
use Rattle.kin_table.specs.Tables.{inc_in, reach_of}
use Rattle.kin_hub.specs.Cores.{held_at, least_reach, past_in, ready_run, ready}
use Rattle.kin_hub.specs.Fronts.{common_of}
use Rattle.kin_hub.specs.Hubs.{chain_in, row_in, inc_in as hub_inc, agreed_in}
use Rattle.kin_world.specs.Worlds.{WorldView}
use Rattle.kin_world.specs.Stands.{Stands, agreed_line}
use Rattle.kin_world.proofs.Facts.{some_parts, good, agreed_is, inc_is, floor_is, floor_low, whole}
use Rattle.kin_world.proofs.Fronts.{shared}

module _ (set : Setting) (w : WorldView) (h : List Event) (s : Stands set w h) (i : ℕ) (lt : i < nodes set) where
  -- a report that reaches past the agreed position is of the last incarnation
  last_row : (p : ℕ) → agreed set h i < ack set h p i → seen_in (reported set h p) i ≡ inc set h i
  last_row p beyond = let g = good set w h s i in let a = grew set h i (reported set h p) g beyond in let b = row-within set h i p g in omega arith

  reach-is : (p : ℕ) → p < set.parts → reach_of w.hub.core.table p i ≡ ack set h p i
  reach-is p p_lt = go ((row_in w.hub p).reported && eqb (inc_in (row_in w.hub p).incs i) (hub_inc w.hub i)) refl
    where
      empty : (ss : List Stamp) → end_of 0 (front_in [] ss) ≡ 0
      empty [] = refl
      empty (x ∷ ss) = refl

      go : (b : Bool) → ((row_in w.hub p).reported && eqb (inc_in (row_in w.hub p).incs i) (hub_inc w.hub i)) ≡ b →
          unwrap_or (cond b (Some (get_or (row_in w.hub p).tops i 0)) None) (agreed_in w.hub i) ≡ ack set h p i
      go true e =
          let parts = and_parts _ _ e in
          let told : has_reported set h p ≡ true = sym (s.partitions.rows p p_lt) ∙ parts.0 in
          let same : seen_in (reported set h p) i ≡ inc set h i = sym (s.partitions.row_incs p i p_lt lt told) ∙ (eqb-true _ _ parts.1 ∙ inc_is set w h s i lt) in
          let g = good set w h s i in
          s.partitions.row_tops p i p_lt lt told ∙ (ap (top_in set (reported set h p) h i) same ∙ sym (ack-is set h i (reported set h p) g (g.acks p p_lt)))
      go false e =
          let g = good set w h s i in
          let le = g.acks p p_lt in
          agreed_is set w h s i lt ∙ ⊎_elim
          (λ (beyond : agreed set h i < ack set h p i).
          let yes : has_reported set h p ≡ true = true_from_ne_false _ (λ n.
          let none = ap (λ ys. end_of 0 (front_in ys (line set h i))) (unreported set h p n) ∙ empty (line set h i) in absurd (omega arith)) in
          absurd (both_ways _ e (and_from _ _ (s.partitions.rows p p_lt ∙ yes) (eq-eqb _ _ (s.partitions.row_incs p i p_lt lt yes ∙ (last_row p beyond ∙ sym (inc_is set w h s i lt)))))))
          (λ (ge : ack set h p i ≤ agreed set h i). omega arith)
          (cases_lt (agreed set h i) (ack set h p i))

  least-is : least_reach w.hub.core i ≡ least_ack set h i
  least-is =
      let reach = λ (p : ℕ). reach_of w.hub.core.table p i in
      let rows : length w.hub.core.table.rows ≡ set.parts = sym s.epochs.hub.core.core.parts ∙ s.epochs.hub.core.parts_are in
      ap (λ (n : ℕ). least_from (reach 0) n reach) rows
      ∙ (ap (λ (m : ℕ). least_from m set.parts reach) (reach-is 0 (some_parts set w h s))
      ∙ least-alike (ack set h 0 i) set.parts reach (λ p. ack set h p i) reach-is)

  at_least : agreed set h i ≤ least_ack set h i
  at_least = agreed-least set h i (some_parts set w h s) (good set w h s i)

  below : (p : ℕ) → p < set.parts → least_ack set h i ≤ end_of 0 (front_in (delivered set h p) (line set h i))
  below p p_lt =
      let a = least-le (ack set h 0 i) set.parts (λ q. ack set h q i) p p_lt in
      let b = front-grows (reported set h p) (delivered set h p) 0 (line set h i) (good set w h s i).run (reported-delivered set h p) in
      omega arith

  -- where the agreed position can be raised, every chain has what arrived of the line
  chain-front : (p : ℕ) → p < set.parts → agreed set h i < least_ack set h i →
      stamps_of (chain_in w.hub p i).held ≡ past (chain_in w.hub p i).floor (front_in (delivered set h p) (line set h i))
  chain-front p p_lt beyond =
      let g = good set w h s i in
      let L = line set h i in
      let D = delivered set h p in
      let b = base set h i (inc set h i) in
      let least = least-le (ack set h 0 i) set.parts (λ q. ack set h q i) p p_lt in
      let row = last_row p (omega arith) in
      let mono = seen-mono (reported set h p) D i (reported-delivered set h p) in
      let top = seen-within set h i p g in
      let same : seen set h p i ≡ inc set h i = omega arith in
      let older = g.older (inc set h i) (omega arith) in
      let grows = below p p_lt in
      let all : (x : Stamp) → has (upto b L) x ≡ true → has D x ≡ true = λ x k.
      let there = upto-has b L x k in
      let to = there.1 in
      (front-has D L x (front-upto D 0 L x g.run there.0 (omega arith))).1 in
      let split : upto b L ++ front_in D (made_by i (inc set h i) (sent set h)) ≡ front_in D L = sym (ap (front_in D) g.split ∙ front_in-append D (upto b L) (made_by i (inc set h i) (sent set h)) all) in
      (s.partitions.chains p i p_lt lt).held
      ∙ (ap (λ (f : ℕ). past f (upto (base set h i (seen set h p i)) L ++ front_in D (made_by i (seen set h p i) (sent set h)))) (sym (floor_is set w h s i lt p p_lt))
      ∙ (ap (λ (c : ℕ). past (chain_in w.hub p i).floor (upto (base set h i c) L ++ front_in D (made_by i c (sent set h)))) same
      ∙ ap (past (chain_in w.hub p i).floor) split))

  -- up to the least acknowledged position every chain has the line
  whole-least : (p : ℕ) → p < set.parts → upto (least_ack set h i) (stamps_of (chain_in w.hub p i).held) ≡ past (chain_in w.hub p i).floor (upto (least_ack set h i) (line set h i))
  whole-least p p_lt = ⊎_elim
      (λ (beyond : agreed set h i < least_ack set h i).
      let low = floor_low set w h s i lt p p_lt in
      ap (upto (least_ack set h i)) (chain-front p p_lt beyond)
      ∙ (upto_past (least_ack set h i) (chain_in w.hub p i).floor (front_in (delivered set h p) (line set h i)) (omega arith)
      ∙ ap (past (chain_in w.hub p i).floor) (upto-front (delivered set h p) 0 (least_ack set h i) (line set h i) (good set w h s i).run (below p p_lt))))
      (λ (level : least_ack set h i ≤ agreed set h i).
      let ge = at_least in
      let same : agreed set h i ≡ least_ack set h i = omega arith in
      subst (λ (m : ℕ). upto m (stamps_of (chain_in w.hub p i).held) ≡ past (chain_in w.hub p i).floor (upto m (line set h i))) same (whole set w h s i lt p p_lt))
      (cases_lt (agreed set h i) (least_ack set h i))

  -- so past the agreed position every chain has the same
  past-least : (p : ℕ) → p < set.parts → upto (least_ack set h i) (past (agreed set h i) (stamps_of (chain_in w.hub p i).held)) ≡ past (agreed set h i) (upto (least_ack set h i) (line set h i))
  past-least p p_lt =
      upto_past (least_ack set h i) (agreed set h i) (stamps_of (chain_in w.hub p i).held) at_least
      ∙ (ap (past (agreed set h i)) (whole-least p p_lt) ∙ past_past (chain_in w.hub p i).floor (agreed set h i) (upto (least_ack set h i) (line set h i)) (floor_low set w h s i lt p p_lt))

  pub ready_run-is : ready_run w.hub.core i ≡ past (agreed set h i) (upto (least_ack set h i) (line set h i))
  ready_run-is =
      let helds = w.hub.core.helds in
      let parts = s.epochs.hub.core.parts_are in
      let some = some_parts set w h s in
      let runs = past_in helds (agreed set h i) i in
      let count : length runs ≡ length helds = length-map helds (λ (held : List ChainView). past (agreed set h i) (stamps_of (chain_at held i).held)) in
      ap (λ (m : ℕ). upto m (common_of (past_in helds (agreed_in w.hub i) i))) least-is
      ∙ (ap (λ (a : ℕ). upto (least_ack set h i) (common_of (past_in helds a i))) (agreed_is set w h s i lt)
      ∙ shared (least_ack set h i) (past (agreed set h i) (upto (least_ack set h i) (line set h i))) runs (omega arith)
      (λ p k. ap (upto (least_ack set h i)) (get_or-map (λ (held : List ChainView). past (agreed set h i) (stamps_of (chain_at held i).held)) helds p [] [] (omega arith)) ∙ past-least p (omega arith)))

  -- it takes the agreed line to the least acknowledged position
  pub raised-line : agreed_line set h i ++ ready_run w.hub.core i ≡ upto (least_ack set h i) (line set h i)
  raised-line =
      let a = agreed set h i in
      let m = least_ack set h i in
      ap (λ ys. agreed_line set h i ++ ys) ready_run-is
      ∙ (ap (λ ys. ys ++ past a (upto m (line set h i))) (sym (upto-upto a m (line set h i) at_least)) ∙ upto-past a (upto m (line set h i)))

  least_ends : IsEnd 0 (line set h i) (least_ack set h i)
  least_ends = least-end 0 (line set h i) (ack set h 0 i) set.parts (λ p. ack set h p i) (front-end (reported set h 0) 0 (line set h i)) (λ p _. front-end (reported set h p) 0 (line set h i))

  pub ready-is : ready w.hub.core i ≡ least_ack set h i
  ready-is =
      let a = agreed set h i in
      let m = least_ack set h i in
      let L = line set h i in
      let g = good set w h s i in
      ap (λ (n : ℕ). end_of n (ready_run w.hub.core i)) (agreed_is set w h s i lt)
      ∙ (ap (end_of a) ready_run-is
      ∙ (past-end_of 0 a (upto m L) (upto-line 0 m L g.run) (upto-ends 0 m a L g.run g.ends at_least)
      ∙ upto-end 0 m L g.run least_ends))
