-- A refused event changes nothing.
use Rattle.std.proofs.Common.{◌≡◌, ℕ, ◌+◌, ◌<◌, true, false, cond, [], List, ◌∷◌, sym, subst, get_or, length}
use Rattle.kin_ids.specs.Lines.{end_of, front_in, upto, made_by, seen_in}
use Rattle.kin_script.specs.declared.events.Event.{Event}
use Rattle.kin_script.specs.declared.outcomes.Refusal.{Refusal}
use Rattle.kin_script.specs.declared.outcomes.Outcome.TheVariants as outcome
use Rattle.kin_history.specs.Setting.{Setting, nodes, feed_len, IsEvent, IsHistory}
use Rattle.kin_history.specs.Outcomes.{outcome_of}
use Rattle.kin_history.specs.RefusalLaws.{Standing, standing}
use Rattle.kin_history.proofs.Refused.{refused}
use Rattle.kin_held.specs.ChainOf.{IsChainOf}
use Rattle.kin_table.specs.Tables.{inc_in}
use Rattle.kin_hub.specs.Hubs.{chain_in, row_in, committed_in, first_in}
use Rattle.kin_hub.specs.Stands.{HubStands}
use Rattle.kin_ids.specs.Order.{snapshot}
use Rattle.kin_mine.specs.Miners.{IsMinerOf, active_in}
use Rattle.kin_world.specs.Worlds.{WorldView, node_at, setting_of}
use Rattle.kin_world.specs.Stands.{Stands, Keeps, with_bases}
use Rattle.kin_world.proofs.Facts.{in_range}

-- a world stands for each history after which all stands as after one that it stands for
pub alike : (set : Setting) (w : WorldView) (h g : List Event) → standing set h ≡ standing set g → IsHistory set g → Stands set w h → Stands set w g
alike set w h g same legal s = record {
  over = record {
    world = s.over.world;
    feeds = s.over.feeds;
    parts = s.over.parts;
    landmarks = s.over.landmarks;
    limits = s.over.limits;
    history = legal;
  };
  nodes = record {
    ingests = subst (λ (x : Standing). (i : ℕ) → i < nodes set → node_at w i
        ≡ record { id = record { 0 = i }; len = feed_len set i; inc = record { 0 = x.inc i }; base = get_or (x.bases i) (x.inc i) 0; next = end_of 0 (x.line i); up = x.up i }) same s.nodes.ingests;
    stamps = subst (λ (x : Standing). w.sent ≡ with_bases x.bases x.sent) same s.nodes.stamps;
  };
  partitions = record {
    chains = subst (λ (x : Standing). (p i : ℕ) → p < set.parts → i < nodes set →
        IsChainOf i (seen_in (x.delivered p) i) (get_or (x.bases i) (seen_in (x.delivered p) i) 0) (x.vector (x.committed p) i) (x.delivered p)
        (upto (get_or (x.bases i) (seen_in (x.delivered p) i) 0) (x.line i)) (made_by i (seen_in (x.delivered p) i) x.sent) (chain_in w.hub p i)) same s.partitions.chains;
    rows = subst (λ (x : Standing). (p : ℕ) → p < set.parts → (row_in w.hub p).reported ≡ x.has_reported p) same s.partitions.rows;
    row_incs = subst (λ (x : Standing). (p i : ℕ) → p < set.parts → i < nodes set → x.has_reported p ≡ true →
        inc_in (row_in w.hub p).incs i ≡ seen_in (x.reported p) i) same s.partitions.row_incs;
    row_tops = subst (λ (x : Standing). (p i : ℕ) → p < set.parts → i < nodes set → x.has_reported p ≡ true →
        get_or (row_in w.hub p).tops i 0 ≡ end_of (get_or (x.bases i) (seen_in (x.reported p) i) 0) (front_in (x.reported p) (made_by i (seen_in (x.reported p) i) x.sent))) same s.partitions.row_tops;
  };
  epochs = record {
    vectors = subst (λ (x : Standing). length w.hub.core.table.vectors ≡ x.cuts + 1) same s.epochs.vectors;
    committed_are = subst (λ (x : Standing). (p : ℕ) → p < set.parts → committed_in w.hub p ≡ x.committed p) same s.epochs.committed_are;
    kept = subst (λ (x : Standing). first_in w.hub ≡ x.mined) same s.epochs.kept;
    hub = subst (λ (x : Standing). HubStands (record { parts = set.parts; feeds = set.feeds; lines = λ i. upto (x.agreed i) (x.line i); bases = x.bases; vectors = x.vector }) w.hub) same s.epochs.hub;
  };
  mining = record {
    mined_is = subst (λ (x : Standing). w.mined ≡ x.mined) same s.mining.mined_is;
    open_is = subst (λ (x : Standing). w.is_open ≡ x.is_open) same s.mining.open_is;
    miner = subst (λ (x : Standing). IsMinerOf (snapshot set.feeds x.vector (cond x.is_open (x.mined + 1) x.mined)) (cond x.is_open (x.mined + 1) x.mined) w.miner) same s.mining.miner;
    quiet = subst (λ (x : Standing). x.is_open ≡ false → active_in w.miner ≡ []) same s.mining.quiet;
  };
}

pub refused-keeps : (old : WorldView) (e : Event) (why : Refusal) (new : WorldView) → IsEvent (setting_of old) e → new ≡ old →
    ((set : Setting) (h : List Event) → Stands set old h → outcome_of set h e ≡ outcome.Refused why) → Keeps old e (outcome.Refused why) new
refused-keeps old e why new legal is answers set h s =
    let answer = answers set h s in (
      sym answer,
      subst (λ (w : WorldView). Stands set w (e ∷ h)) (sym is) (alike set old h (e ∷ h) (sym (refused set h e why answer)) (in_range set old h s e legal, s.over.history) s),
    )
