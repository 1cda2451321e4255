-- A Mine.
use Rattle.std.proofs.Common.{◌≡◌, ℕ, ◌+◌, ◌<◌, ◌≤◌, Bool, true, false, cond, ◌||◌, ◌⊎◌, inl, inr, ⊎_elim, List, ◌∷◌, Option, Some, None, refl, sym, ◌∙◌, ap, subst, arith, max}
use Rattle.std.proofs.lemmas.Bool.{cond-true, or_left, or_right}
use Rattle.kin_ids.specs.Order.{snapshot}
use Rattle.kin_script.specs.declared.events.Event.{Event}
use Rattle.kin_script.specs.declared.events.Event.TheVariants as event
use Rattle.kin_script.specs.declared.outcomes.Outcome.{Outcome}
use Rattle.kin_script.specs.declared.outcomes.Outcome.TheVariants as outcome
use Rattle.kin_history.specs.Setting.{Setting}
use Rattle.kin_history.specs.Vectors.{vector}
use Rattle.kin_history.specs.Mining.{is_clear, held_back, mined, is_open}
use Rattle.kin_history.specs.RefusalLaws.{Standing, standing}
use Rattle.kin_hub.specs.Hubs.{HubView, KeepsEpoch}
use Rattle.kin_mine.specs.Miners.{IsMinerOf}
use Rattle.kin_world.specs.Worlds.{WorldView, KeptWhereRefused}
use Rattle.kin_ids.specs.declared.ids.Epoch.{Epoch}
use Rattle.kin_script.specs.declared.outcomes.Refusal.{Refusal}
use Rattle.kin_history.specs.Outcomes.{mine_answer}
use Rattle.kin_world.specs.Mining.{OpensNext, Opens, TurnsOn, MinesOpen, MinesNext, Mines, held_back_in}
use Rattle.kin_world.specs.Stands.{Stands, HasHistory, Keeps, KeepsOrBegins, last_begun}
use Rattle.kin_world.proofs.Epochs.{mine-answers, held_back-is}
use Rattle.kin_world.proofs.Beginning.{open-stands}
use Rattle.kin_world.proofs.Turning.{turns-stand}
use Rattle.kin_world.proofs.Refusals.{refused-keeps, alike}

-- the open epoch is mined
module _ (set : Setting) (w : WorldView) (h : List Event) (s : Stands set w h) (new : WorldView) (m : MinesOpen w new) where
  is : is_open set h ≡ true
  is = sym s.mining.open_is ∙ m.opened

  now-mined : mined set (event.Mine ∷ h) ≡ mined set h + 1
  now-mined = cond-true (is_open set h || is_clear (held_back set h (mined set h + 1))) _ _ (or_left (is_open set h) _ is)

  begun-is : last_begun set h ≡ mined set (event.Mine ∷ h)
  begun-is = ap (λ (b : Bool). cond b (mined set h + 1) (mined set h)) is ∙ sym now-mined

  after-stands : Stands set (record w { hub = new.hub; miner = new.miner; mined = w.mined + 1; is_open = false }) (event.Mine ∷ h)
  after-stands = record {
    over = record {
      world = record { nodes = s.over.world.nodes; hub_nodes = rw m.hub s.over.world.hub_nodes; hub_parts = rw m.hub s.over.world.hub_parts };
      feeds = s.over.feeds;
      parts = s.over.parts;
      landmarks = m.turns.landmarks ∙ s.over.landmarks;
      limits = s.over.limits;
      history = (tt, s.over.history);
    };
    nodes = record { ingests = s.nodes.ingests; stamps = s.nodes.stamps };
    partitions = rw m.hub (record { chains = s.partitions.chains; rows = s.partitions.rows; row_incs = s.partitions.row_incs; row_tops = s.partitions.row_tops });
    epochs = record {
      vectors = rw m.hub s.epochs.vectors;
      committed_are = rw m.hub s.epochs.committed_are;
      kept = let first = s.epochs.kept in let was = s.mining.mined_is in let now = now-mined in ap (λ (v : HubView). v.versions.first) m.hub ∙ omega arith;
      hub = m.keeps _ s.epochs.hub;
    };
    mining = record {
      mined_is = ap (λ (n : ℕ). n + 1) s.mining.mined_is ∙ sym now-mined;
      open_is = refl;
      miner = subst (λ (k : ℕ). IsMinerOf (snapshot set.feeds (vector set h) k) k new.miner) begun-is (m.turns.stands _ _ s.mining.miner);
      quiet = λ _. m.quiet;
    };
  }

  pub mined-stands : Stands set new (event.Mine ∷ h)
  mined-stands = subst (λ (v : WorldView). Stands set v (event.Mine ∷ h)) (sym m.world) after-stands

-- a Begin right before a Mine changes nothing
module _ (set : Setting) (w : WorldView) (h : List Event) (s : Stands set w h) (opened : WorldView) (o : OpensNext w opened) where
  same-mined : mined set (event.Mine ∷ event.Begin ∷ h) ≡ mined set (event.Mine ∷ h)
  same-mined =
      let clear : is_clear (held_back set h (mined set h + 1)) ≡ true = ap is_clear (sym (held_back-is set w h s) ∙ o.clear) in
      cond-true (is_open set (event.Begin ∷ h) || is_clear (held_back set h (mined set h + 1))) _ _ (or_right (is_open set (event.Begin ∷ h)) _ clear)
      ∙ sym (cond-true (is_open set h || is_clear (held_back set h (mined set h + 1))) _ _ (or_right (is_open set h) _ clear))

  pub without-begin : (new : WorldView) → Stands set new (event.Mine ∷ event.Begin ∷ h) → Stands set new (event.Mine ∷ h)
  without-begin new t =
      let same : standing set (event.Mine ∷ event.Begin ∷ h) ≡ standing set (event.Mine ∷ h) = ap (λ (m : ℕ). record (standing set (event.Mine ∷ h)) { mined = m }) same-mined in
      alike set new (event.Mine ∷ event.Begin ∷ h) (event.Mine ∷ h) same (tt, s.over.history) t

mine-stands : (set : Setting) (w : WorldView) (h : List Event) (s : Stands set w h) (new : WorldView) → MinesNext w new → Stands set new (event.Mine ∷ h)
mine-stands set w h s new m = go w.is_open m.opens
  where
    go : (b : Bool) → Opens b w m.begun_world → Stands set new (event.Mine ∷ h)
    go true same = mined-stands set w h s new (subst (λ (v : WorldView). MinesOpen v new) same m.mines)
    go false opens = without-begin set w h s m.begun_world opens new (mined-stands set m.begun_world (event.Begin ∷ h) (open-stands set w h s m.begun_world opens) new m.mines)

pub mine-keeps : (old : WorldView) (o : Outcome) (new : WorldView) → Mines old o new → Keeps old event.Mine o new
mine-keeps old (outcome.Mined k) new made = λ set h s. (made.answer ∙ mine-answers set old h s, mine-stands set old h s new made.leaves)
mine-keeps old (outcome.Refused why) new made =
    refused-keeps old event.Mine why new tt made.leaves (λ set h s. sym (made.answer ∙ mine-answers set old h s))
mine-keeps old _ new made = absurd made.leaves

pub mine-kept : (old : WorldView) (o : Outcome) (new : WorldView) → Mines old o new → KeptWhereRefused old o new
mine-kept old (outcome.Refused why) new made = made.leaves
mine-kept old _ new made = tt

-- the world once the next epoch is open stands for some history
pub opens-history : (old : WorldView) → HasHistory old → (new : WorldView) → OpensNext old new → HasHistory new
opens-history old (set, h, s) new o = (set, event.Begin ∷ h, open-stands set old h s new o)

-- what the calls of a Mine make of the world: an epoch is open, and then mined
module _ (old mid new : WorldView) (opens : Opens old.is_open old mid) where
  same_mined : (b : Bool) → Opens b old mid → mid.mined ≡ old.mined
  same_mined true same = ap (λ (w : WorldView). w.mined) same
  same_mined false o = ap (λ (w : WorldView). w.mined) o.world

  told : (k : Epoch) → k.0 ≡ old.mined + 1 → (b : Bool) → Opens b old mid → outcome.Mined k ≡ cond b (outcome.Mined (record { 0 = old.mined + 1 })) (mine_answer (old.mined + 1) (held_back_in old))
  told k is true same = ap (λ (n : ℕ). outcome.Mined (record { 0 = n })) is
  told k is false o = ap (λ (n : ℕ). outcome.Mined (record { 0 = n })) is ∙ ap (mine_answer (old.mined + 1)) (sym o.clear)

  pub mine-made : (k : Epoch) → k.0 ≡ mid.mined + 1 → MinesOpen mid new → Mines old (outcome.Mined k) new
  mine-made k is mines = record {
    answer = told k (is ∙ ap (λ (n : ℕ). n + 1) (same_mined old.is_open opens)) old.is_open opens;
    leaves = record { begun_world = mid; opens = opens; mines = mines };
  }

  -- or want of memory stops the turns
  pub mine-stops : TurnsOn mid new → KeepsOrBegins old new
  mine-stops t set h s = go old.is_open opens
    where
      go : (b : Bool) → Opens b old mid → Stands set new h ⊎ Stands set new (event.Begin ∷ h)
      go true same = inl (subst (λ (v : WorldView). Stands set v h) (sym t.world) (turns-stand set mid h (subst (λ (v : WorldView). Stands set v h) (sym same) s) new.miner t.turns))
      go false o = inr (subst (λ (v : WorldView). Stands set v (event.Begin ∷ h)) (sym t.world) (turns-stand set mid (event.Begin ∷ h) (open-stands set old h s mid o) new.miner t.turns))

-- or the next epoch can't be opened
pub mine-refused : (old new : WorldView) (why : Refusal) → old.is_open ≡ false → held_back_in old ≡ Some why → new ≡ old → Mines old (outcome.Refused why) new
mine-refused old new why closed back same = record {
  answer = sym (ap (λ (b : Bool). cond b (outcome.Mined (record { 0 = old.mined + 1 })) (mine_answer (old.mined + 1) (held_back_in old))) closed ∙ ap (mine_answer (old.mined + 1)) back);
  leaves = same;
}

-- and then the world is as before
pub mine-same : (old new : WorldView) → new ≡ old → KeepsOrBegins old new
mine-same old new same set h s = inl (subst (λ (v : WorldView). Stands set v h) (sym same) s)

-- how an epoch comes to be open
pub opens-open : (old mid : WorldView) → old.is_open ≡ true → mid ≡ old → Opens old.is_open old mid
opens-open old mid now same = subst (λ (b : Bool). Opens b old mid) (sym now) same

pub opens-closed : (old mid : WorldView) → old.is_open ≡ false → OpensNext old mid → Opens old.is_open old mid
opens-closed old mid now o = subst (λ (b : Bool). Opens b old mid) (sym now) o
