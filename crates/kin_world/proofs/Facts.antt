-- What a world that stands for a history has of it.
use Rattle.std.proofs.Common.{◌≡◌, ℕ, ◌<◌, ◌≤◌, Some, None, List, sym, ◌∙◌, subst, arith, length}
use Rattle.kin_ids.specs.declared.ops.Record.{Record}
use Rattle.kin_ids.specs.Lines.{stamps_of, upto, past, IsEnd}
use Rattle.kin_ids.proofs.Lines.{upto-end}
use Rattle.kin_script.specs.declared.events.Event.{Event}
use Rattle.kin_script.specs.declared.events.Event.TheVariants as event
use Rattle.kin_history.specs.Setting.{Setting, nodes, IsEvent}
use Rattle.kin_history.specs.Lines.{inc, line, agreed}
use Rattle.kin_history.specs.Vectors.{vector, committed}
use Rattle.kin_history.proofs.Sound.{IsSound, sound}
use Rattle.kin_hub.specs.Hubs.{chain_in, agreed_in, inc_in}
use Rattle.kin_world.specs.Worlds.{WorldView, setting_of}
use Rattle.kin_world.specs.Stands.{Stands, agreed_line}

module _ (set : Setting) (w : WorldView) (h : List Event) (s : Stands set w h) where
  pub some_parts : 0 < set.parts
  some_parts =
      let some = s.epochs.hub.core.core.table.parts in
      let rows = s.epochs.hub.core.core.parts in
      let parts = s.epochs.hub.core.parts_are in
      omega arith

  pub good : (i : ℕ) → IsSound set h i
  good i = sound set h i some_parts s.over.history

  -- an event in the world's range is in the setting's
  pub node_in : (i : ℕ) → i < length w.feeds → i < nodes set
  node_in i lt = subst (λ (feeds : List (List Record)). i < length feeds) s.over.feeds lt

  pub part_in : (p : ℕ) → p < w.parts → p < set.parts
  part_in p lt = subst (λ (n : ℕ). p < n) s.over.parts lt

  pub in_range : (e : Event) → IsEvent (setting_of w) e → IsEvent set e
  in_range (event.Stamp j n) k = (node_in j.0 k.0, k.1, k.2)
  in_range (event.Deliver p j c to) k = (part_in p.0 k.0, node_in j.0 k.1)
  in_range (event.Report p) k = part_in p.0 k
  in_range (event.Raise j) k = node_in j.0 k
  in_range (event.Cut None) k = tt
  in_range (event.Cut (Some n)) k = k
  in_range (event.Commit p) k = part_in p.0 k
  in_range event.Begin k = tt
  in_range (event.Turn u) k = tt
  in_range event.Mine k = tt
  in_range (event.Crash j) k = node_in j.0 k
  in_range (event.Restart j) k = node_in j.0 k

  module _ (i : ℕ) (lt : i < nodes set) where
    pub agreed_is : agreed_in w.hub i ≡ agreed set h i
    agreed_is = sym (s.epochs.hub.core.each_line i lt).ends ∙ upto-end 0 (agreed set h i) (line set h i) (good i).run (good i).ends

    pub inc_is : inc_in w.hub i ≡ inc set h i
    inc_is = let mine = (s.epochs.hub.core.each_line i lt).count in let theirs = (good i).count in omega arith

    -- a partition's chain around the agreed position
    module _ (p : ℕ) (p_lt : p < set.parts) where
      pub floor_is : (chain_in w.hub p i).floor ≡ vector set h (committed set h p) i
      floor_is = (s.partitions.chains p i p_lt lt).floor

      pub floor_low : (chain_in w.hub p i).floor ≤ agreed set h i
      floor_low = let low = (s.epochs.hub.core.chains p i p_lt lt).floor in let at = agreed_is in omega arith

      pub reached : agreed set h i ≤ (chain_in w.hub p i).top
      reached = let high = (s.epochs.hub.core.chains p i p_lt lt).reached in let at = agreed_is in omega arith

      pub whole : upto (agreed set h i) (stamps_of (chain_in w.hub p i).held) ≡ past (chain_in w.hub p i).floor (agreed_line set h i)
      whole = subst (λ (a : ℕ). upto a (stamps_of (chain_in w.hub p i).held) ≡ past (chain_in w.hub p i).floor (agreed_line set h i)) agreed_is (s.epochs.hub.core.chains p i p_lt lt).whole

      pub ends : IsEnd (chain_in w.hub p i).floor (stamps_of (chain_in w.hub p i).held) (agreed set h i)
      ends = subst (IsEnd (chain_in w.hub p i).floor (stamps_of (chain_in w.hub p i).held)) agreed_is (s.epochs.hub.core.chains p i p_lt lt).ends
