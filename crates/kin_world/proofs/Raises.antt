-- A raise.
use Rattle.std.proofs.Common.{◌≡◌, ℕ, ◌<◌, Bool, true, false, cond, eqb, ltb, List, ◌∷◌, ◌++◌, refl, sym, ◌∙◌, ap, subst, length}
use Rattle.std.proofs.Math.Path.{fun_ext}
use Rattle.std.proofs.lemmas.Bool.{eqb-true}
use Rattle.std.proofs.lemmas.List.{length-set}
use Rattle.kin_ids.specs.declared.ids.IngestId.{IngestId}
use Rattle.kin_ids.specs.declared.stamps.Stamp.{Stamp}
use Rattle.kin_ids.specs.Lines.{upto}
use Rattle.kin_script.specs.declared.events.Event.{Event}
use Rattle.kin_script.specs.declared.outcomes.Outcome.{Outcome}
use Rattle.kin_script.specs.declared.events.Event.TheVariants as event
use Rattle.kin_script.specs.declared.outcomes.Outcome.TheVariants as outcome
use Rattle.kin_history.specs.Setting.{Setting, nodes}
use Rattle.kin_history.specs.Lines.{line, bases, least_ack, agreed}
use Rattle.kin_history.specs.Vectors.{vector}
use Rattle.kin_history.specs.Outcomes.{outcome_of}
use Rattle.kin_table.specs.Tables.{raised_of}
use Rattle.kin_table.specs.declared.answers.Raised.TheVariants as raised
use Rattle.kin_hub.specs.Cores.{ready_run, ready, with_raise}
use Rattle.kin_hub.specs.Hubs.{HubView, agreed_in}
use Rattle.kin_hub.specs.Stands.{HubStands}
use Rattle.kin_hub.specs.Goes.{HubRaises, grown}
use Rattle.kin_world.specs.Worlds.{WorldView}
use Rattle.kin_world.specs.Steps.{told_raise}
use Rattle.kin_world.specs.Stands.{Stands, Keeps, agreed_line, story_of}
use Rattle.kin_world.proofs.Facts.{node_in, agreed_is}
use Rattle.kin_world.proofs.Ready.{ready-is, raised-line}

abbrev raised_hub : HubView → ℕ → HubView
raised_hub hub j = record hub { core = with_raise hub.core j }

module _ (set : Setting) (w : WorldView) (h : List Event) (s : Stands set w h) (j : IngestId) (lt : j.0 < nodes set) where
  told-is : (was now : ℕ) → told_raise (raised_of was now) ≡ cond (ltb was now) (outcome.Raised now) (outcome.Level was)
  told-is was now = go (ltb was now)
    where
      go : (b : Bool) → told_raise (cond b (raised.Raised now) (raised.Level was)) ≡ cond b (outcome.Raised now) (outcome.Level was)
      go true = refl
      go false = refl

  pub raise-answers : told_raise (raised_of (agreed_in w.hub j.0) (ready w.hub.core j.0)) ≡ outcome_of set h (event.Raise j)
  raise-answers =
      ap (λ (was : ℕ). told_raise (raised_of was (ready w.hub.core j.0))) (agreed_is set w h s j.0 lt)
      ∙ (ap (λ (now : ℕ). told_raise (raised_of (agreed set h j.0) now)) (ready-is set w h s j.0 lt) ∙ told-is (agreed set h j.0) (least_ack set h j.0))

  -- the agreed lines grow by the ready run
  lines-are : (i : ℕ) → grown (agreed_line set h) j.0 (ready_run w.hub.core j.0) i ≡ agreed_line set (event.Raise j ∷ h) i
  lines-are i = go (eqb j.0 i) refl
    where
      go : (b : Bool) → eqb j.0 i ≡ b → cond b (agreed_line set h i ++ ready_run w.hub.core j.0) (agreed_line set h i) ≡ upto (cond b (least_ack set h i) (agreed set h i)) (line set h i)
      go true e = subst (λ (k : ℕ). agreed_line set h k ++ ready_run w.hub.core j.0 ≡ upto (least_ack set h k) (line set h k)) (eqb-true j.0 i e) (raised-line set w h s j.0 lt)
      go false e = refl

  pub raise-stands : HubRaises w.hub j.0 (raised_hub w.hub j.0) → Stands set (record w { hub = raised_hub w.hub j.0 }) (event.Raise j ∷ h)
  raise-stands raises = record {
    over = record {
      world = record { nodes = s.over.world.nodes; hub_nodes = length-set w.hub.core.table.agreed j.0 _ ∙ s.over.world.hub_nodes; hub_parts = s.over.world.hub_parts };
      feeds = s.over.feeds;
      parts = s.over.parts;
      landmarks = s.over.landmarks;
      limits = s.over.limits;
      history = (lt, s.over.history);
    };
    nodes = record { ingests = s.nodes.ingests; stamps = s.nodes.stamps };
    partitions = record { chains = s.partitions.chains; rows = s.partitions.rows; row_incs = s.partitions.row_incs; row_tops = s.partitions.row_tops };
    epochs = record {
      vectors = s.epochs.vectors;
      committed_are = s.epochs.committed_are;
      kept = s.epochs.kept;
      hub = subst (λ (lines : ℕ → List Stamp). HubStands (record (story_of set h) { lines = lines }) (raised_hub w.hub j.0)) (fun_ext lines-are) (raises _ s.epochs.hub);
    };
    mining = record { mined_is = s.mining.mined_is; open_is = s.mining.open_is; miner = s.mining.miner; quiet = s.mining.quiet };
  }

pub raise-keeps : (old : WorldView) (j : IngestId) (o : Outcome) (hub : HubView) → j.0 < length old.feeds → o ≡ told_raise (raised_of (agreed_in old.hub j.0) (ready old.hub.core j.0)) →
    hub ≡ raised_hub old.hub j.0 → HubRaises old.hub j.0 hub → Keeps old (event.Raise j) o (record old { hub = hub })
raise-keeps old j o hub lt answer is raises set h s =
    let in_set = node_in set old h s j.0 lt in (
      answer ∙ raise-answers set old h s j in_set,
      subst (λ (v : HubView). Stands set (record old { hub = v }) (event.Raise j ∷ h)) (sym is) (raise-stands set old h s j in_set (subst (HubRaises old.hub j.0) is raises)),
    )
