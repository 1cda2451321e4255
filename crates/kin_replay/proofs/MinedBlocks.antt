-- The block that is made of what a world has of an epoch is the one that the history gives.
use Rattle.std.proofs.Common.{◌≡◌, ℕ, ◌+◌, ◌-◌, ◌<◌, ◌≤◌, ◌⊎◌, ◌↔◌, ◌≢◌, Result, Err, IsErrOf, ⊎_elim, List, [], Option, Some, None, IsNone, IfSome, option_map, length, count_by, refl, sym, ap, subst, ◌∙◌, arith, Bor}
use Rattle.std.proofs.lemmas.Bool.{false≢true}
use Rattle.kin_ids.specs.declared.ops.Record.{Record}
use Rattle.kin_ids.specs.declared.options.OptionWords.{OptionWords}
use Rattle.kin_ids.specs.declared.stamps.End.{End}
use Rattle.kin_ids.specs.Operations.{is_bad}
use Rattle.kin_ids.specs.Order.{Entry, of_epoch, snapshot, feed_at}
use Rattle.kin_ids.proofs.Alike.{of_epoch-alike}
use Rattle.kin_ids.proofs.Lines.{end_within}
use Rattle.kin_script.specs.declared.events.Event.{Event}
use Rattle.kin_table.specs.declared.cuts.Cut.{Cut}
use Rattle.kin_table.specs.Vectors.{vector_at}
use Rattle.kin_history.specs.Setting.{Setting, nodes, feed_len}
use Rattle.kin_history.specs.Lines.{line, agreed}
use Rattle.kin_history.specs.Vectors.{cuts, vector}
use Rattle.kin_history.proofs.Cuts.{sound-cuts}
use Rattle.kin_history.proofs.Sound.{sound}
use Rattle.kin_hub.specs.Hubs.{HubView, cuts_in}
use Rattle.kin_ids.specs.declared.ids.User.{User}
use Rattle.kin_ids.specs.Users.{has_user}
use Rattle.kin_mine.specs.declared.refusals.ResultRefused.{ResultRefused}
use Rattle.kin_mine.specs.declared.refusals.ResultRefused.TheVariants as refused
use Rattle.kin_mine.specs.Miners.{MinerView, IsLeastUser, active_in, begun}
use Rattle.kin_mine.proofs.Quiets.{quiet-result}
use Rattle.kin_rules.specs.Results.{IsResult}
use Rattle.kin_report.specs.Block.{block_text}
use Rattle.kin_report.specs.Epochs.{ends_of, new_records}
use Rattle.kin_report.specs.Report.{block_after}
use Rattle.kin_world.specs.Worlds.{WorldView}
use Rattle.kin_world.specs.Stands.{Stands, last_begun}
use Rattle.kin_world.proofs.Epochs.{begun-cut}
use Rattle.kin_replay.specs.Mined.{HasJustMined}
use Rattle.kin_world.proofs.Cutting.{cuts_is}
use Rattle.kin_replay.specs.Counts.{AreWithin, position_in}
use Rattle.kin_replay.proofs.Cuts.{end-is, ends-are, has-parts}

-- what a hub answers of a cut: none before the first epoch and past the last one, and else its ends
abbrev pub IsCutOf : HubView → ℕ → Option (Bor Cut) → Type 0
IsCutOf hub k o = (IsNone o ↔ ((k ≡ 0) ⊎ (cuts_in hub < k)))
    × IfSome o (λ cut. cut.now ≡ record { epoch = record { 0 = k }; ends = vector_at hub.core.table.vectors k })

-- the ends of an epoch's cut
abbrev pub CutIs : HubView → ℕ → Cut → Type 0
CutIs hub k cut = cut ≡ record { epoch = record { 0 = k }; ends = vector_at hub.core.table.vectors k }

-- a world's hub answers so of a cut
pub cut-of-world : (w : WorldView) (hub : HubView) (k : ℕ) (o : Option (Bor Cut)) → hub ≡ w.hub → IsCutOf hub k o → IsCutOf w.hub k o
cut-of-world w hub k o is c = subst (λ (x : HubView). IsCutOf x k o) is c

pub cut-is-world : (w : WorldView) (hub : HubView) (k : ℕ) (cut : Cut) → hub ≡ w.hub → CutIs hub k cut → CutIs w.hub k cut
cut-is-world w hub k cut is c = subst (λ (x : HubView). CutIs x k cut) is c

module _ (set : Setting) (w : WorldView) (h : List Event) (s : Stands set w h) where
  -- where the epoch of a cut ends a node
  pub position-is : (k : ℕ) → k ≤ cuts set h → (o : Option (Bor Cut)) → IsCutOf w.hub k o → (i : ℕ) → i < nodes set → position_in (option_map (λ c. c.now) o) i ≡ vector set h k i
  position-is k le None is i lt =
      let none : k ≡ 0 = ⊎_elim (λ (z : k ≡ 0). z) (λ (past : cuts_in w.hub < k). let c = cuts_is set w h s in absurd (omega (arith, past, c, le))) (is.0.0 refl) in
      sym (ap (λ (n : ℕ). vector set h n i) none ∙ (sound-cuts set h i (has-parts set w h s k le) s.over.history lt).first)
  position-is k le (Some cut) is i lt =
      ap (λ (c : Cut). position_in (Some c) i) is.1 ∙ ap (λ (e : End). e.to) (end-is set w h s k le i lt)

module _ (set : Setting) (w : WorldView) (h : List Event) (s : Stands set w h) (k : ℕ) (some : 0 < k) (le : k ≤ cuts set h) (before : Option (Bor Cut)) (cut : Cut) where
  abbrev was : ℕ → ℕ
  was = position_in (option_map (λ c. c.now) before)

  abbrev now : ℕ → ℕ
  now = position_in (Some cut)

  module _ (is_before : IsCutOf w.hub (k - 1) before) (is_cut : CutIs w.hub k cut) where
    was-is : (i : ℕ) → i < nodes set → was i ≡ vector set h (k - 1) i
    was-is i lt = position-is set w h s (k - 1) (omega arith) before is_before i lt

    now-is : (i : ℕ) → i < nodes set → now i ≡ vector set h k i
    now-is i lt = ap (λ (c : Cut). position_in (Some c) i) is_cut ∙ ap (λ (e : End). e.to) (end-is set w h s k le i lt)

    -- the epoch's ends lie within the feeds, and not before where it begins
    pub are-within : AreWithin w.feeds was now
    are-within i lt =
        let there : i < nodes set = rw s.over.feeds at lt in
        let parts = has-parts set w h s k le in
        let c = sound-cuts set h i parts s.over.history there in
        let g = sound set h i parts s.over.history in
        let next : k - 1 + 1 ≡ k = omega arith in
        let step : vector set h (k - 1) i ≤ vector set h k i = rw next at (c.step (k - 1) (omega arith)) in
        let upto = c.within k in
        let low = end_within 0 (line set h i) (agreed set h i) g.run g.ends in
        let fits = g.within in
        let same : length (feed_at w.feeds i) ≡ feed_len set i = ap (λ (fs : List (List Record)). length (feed_at fs i)) s.over.feeds in
        let a = was-is i there in
        let b = now-is i there in
        (omega (arith, a, b, step), omega (arith, b, upto, low, fits, same))

    -- so its new records are those of the history
    pub new-are : of_epoch w.feeds k was now (length w.feeds) ≡ new_records set.feeds (vector set h) k
    new-are = rw s.over.feeds (of_epoch-alike set.feeds k was now (vector set h (k - 1)) (vector set h k) (nodes set) was-is now-is)

    -- and its block is the history's
    pub block-is : (options : OptionWords) (records bad : ℕ) → records ≡ length (of_epoch w.feeds k was now (length w.feeds))
        → bad ≡ count_by (λ (x : Entry). is_bad x.content) (of_epoch w.feeds k was now (length w.feeds))
        → block_text cut.epoch.0 cut.ends records bad options (snapshot set.feeds (vector set h) k) ≡ block_after set options h k
    block-is options records bad all bads =
        let g = snapshot set.feeds (vector set h) k in
        ap (λ (c : Cut). block_text c.epoch.0 c.ends records bad options g) is_cut
        ∙ ap (λ (es : List End). block_text k es records bad options g) (ends-are set w h s k le)
        ∙ ap (λ (n : ℕ). block_text k (ends_of (line set h) (vector set h k) (nodes set)) n bad options g) (all ∙ ap (λ (xs : List Entry). length xs) new-are)
        ∙ ap (λ (n : ℕ). block_text k (ends_of (line set h) (vector set h k) (nodes set)) (length (new_records set.feeds (vector set h) k)) n options g)
        (bads ∙ ap (λ (xs : List Entry). count_by (λ (x : Entry). is_bad x.content) xs) new-are)

module _ (w : WorldView) (k : ℕ) (just : HasJustMined w k) where
  -- nobody is active
  pub at-rest : active_in w.miner ≡ []
  at-rest = just.stands.mining.quiet just.closed

  begun-is : begun w.miner ≡ k
  begun-is = just.stands.mining.miner.epoch ∙ just.begun

  -- so the miner hands out its result
  pub no-refusal : {T : Type 0} (o : Result T ResultRefused) (r : ResultRefused) (m : MinerView) → m ≡ w.miner → o ≡ Err r → (IsErrOf o refused.NotBegun ↔ (begun m ≡ 0))
      → ((u : User) → IsErrOf o (refused.Active u) ↔ ((begun m ≢ 0) × IsLeastUser (active_in m) u)) → ⊥
  no-refusal {T} o refused.NotBegun m is err none some =
      let zero : begun m ≡ 0 = none.0 (subst (λ (x : Result T ResultRefused). IsErrOf x refused.NotBegun) (sym err) refl) in
      let now = ap (λ (x : MinerView). begun x) is in
      let k_is = begun-is in
      let above = just.some in
      absurd (omega (arith, zero, now, k_is, above))
  no-refusal {T} o (refused.Active u) m is err none some =
      let least = ((some u).0 (subst (λ (x : Result T ResultRefused). IsErrOf x (refused.Active u)) (sym err) refl)).1 in
      absurd (false≢true (ap (λ (us : List User). has_user us u) (sym (ap active_in is ∙ at-rest)) ∙ least.one))

-- and the result is of the epoch's graph, by each history that the world stands for
pub result-of : (set : Setting) (w : WorldView) (h : List Event) (s : Stands set w h) (k : ℕ) → active_in w.miner ≡ [] → last_begun set h ≡ k
    → IsResult (snapshot set.feeds (vector set h) k) w.miner.landmarks w.miner.result
result-of set w h s k rest is = subst (λ (n : ℕ). IsResult (snapshot set.feeds (vector set h) n) w.miner.landmarks w.miner.result) is (quiet-result _ _ w.miner s.mining.miner rest)

-- the epoch begun last is cut
pub begun-cut-is : (set : Setting) (h : List Event) (k : ℕ) → last_begun set h ≡ k → k ≤ cuts set h
begun-cut-is set h k is = let n = begun-cut set h in omega (arith, n, is)
