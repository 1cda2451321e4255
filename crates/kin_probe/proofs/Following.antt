-- Engines that begin the next epoch and settle.
use Rattle.std.proofs.Common.{◌≡◌, ◌∙◌, ◌+◌, ℕ, List, [], ◌∷◌, ap, subst, sym}
use Rattle.kin_ids.specs.declared.ids.User.{User}
use Rattle.kin_ids.specs.Parts.{PartView}
use Rattle.kin_graph.specs.Deltas.{DeltaLists}
use Rattle.kin_graph.specs.State.{PartState}
use Rattle.kin_graph.specs.Views.{IsSmall}
use Rattle.kin_blocks.specs.Snaps.{joined}
use Rattle.kin_changes.specs.Views.{AreLed}
use Rattle.kin_hub.specs.Hubs.{HubView, KeepsEpoch, deltas_in, snap_in}
use Rattle.kin_hub.proofs.Committing.{kept-snapshot}
use Rattle.kin_push.specs.States.{PushState}
use Rattle.kin_push.specs.Turns.{AreTurns}
use Rattle.kin_rules.specs.Walks.{Rule}
use Rattle.kin_world.specs.Worlds.{WorldView}
use Rattle.kin_world.specs.Laws.{LeadsOn}
use Rattle.kin_world.specs.Stands.{story_of}
use Rattle.kin_world.proofs.Leads.{lead-law}
use Rattle.kin_probe.specs.Follows.{IsViewAt}

-- The deltas lead on from a view to these stores, in which few users stand, and which are those of the next epoch.
pub record IsAhead (w : WorldView) (k : ℕ) (v : PartView) (stores : List PartState) (ds : List DeltaLists) : Type 0 where
  pub led : AreLed v (joined stores) ds
  pub small : IsSmall (joined stores)
  pub next : IsViewAt w (k + 1) (joined stores)

-- so do the hub's
pub ahead : (w : WorldView) (k : ℕ) (v : PartView) → IsViewAt w k v → (hub other : HubView) → hub ≡ w.hub → other ≡ w.hub
    → (stores : List PartState) (ds : List DeltaLists) → stores ≡ snap_in hub (k + 1) → ds ≡ deltas_in other (k + 1)
    → KeepsEpoch hub (k + 1) → IsAhead w k v stores ds
ahead w k v at hub other same alike stores ds are tell kept = record {
  led = subst (λ (ss : List PartState). AreLed v (joined ss) ds) (sym stores-are)
      (subst (λ (xs : List DeltaLists). AreLed v (joined (snap_in w.hub (k + 1))) xs) (sym ds-are) leads.led);
  small = subst (λ (ss : List PartState). IsSmall (joined ss)) (sym stores-are) leads.small;
  next = subst (λ (ss : List PartState). IsViewAt w (k + 1) (joined ss)) (sym stores-are) (record {
    set = at.set;
    h = at.h;
    stands = at.stands;
    whole = kept-snapshot w.hub (k + 1) kept-in (story_of at.set at.h) at.stands.epochs.hub;
  });
}
  where
    kept-in : KeepsEpoch w.hub (k + 1)
    kept-in = subst (λ (h : HubView). KeepsEpoch h (k + 1)) same kept

    stores-are : stores ≡ snap_in w.hub (k + 1)
    stores-are = are ∙ ap (λ (h : HubView). snap_in h (k + 1)) same

    ds-are : ds ≡ deltas_in w.hub (k + 1)
    ds-are = tell ∙ ap (λ (h : HubView). deltas_in h (k + 1)) alike

    leads : LeadsOn w k v
    leads = lead-law at.set w at.h k v at.stands kept-in at.whole

-- turns leave the users as they were
pub turns-users : (r : Rule) (v : PartView) (old : PushState) (turns : List (User × PushState)) (new : PushState)
    → AreTurns r v old turns new → new.users ≡ old.users
turns-users r v old [] new e = ap (λ (s : PushState). s.users) e
turns-users r v old (t ∷ turns) new e = e.2.users ∙ turns-users r v old turns t.1 e.0
