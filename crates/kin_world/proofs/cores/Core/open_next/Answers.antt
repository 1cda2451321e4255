use Rattle.std.proofs.Common.{◌≡◌, ◌<◌, ◌^◌, ◌+◌, ◌∙◌, ℕ, true, Err, List, sym, ap, subst}
use Rattle.kin_ids.specs.declared.ids.User.{User}
use Rattle.kin_ids.specs.Wholes.{IsViewOf}
use Rattle.kin_graph.specs.State.{PartState}
use Rattle.kin_graph.specs.Views.{IsSmall}
use Rattle.kin_blocks.specs.Snaps.{joined}
use Rattle.kin_blocks.specs.Versions.{IsKept}
use Rattle.kin_graph.specs.Deltas.{DeltaLists}
use Rattle.kin_hub.specs.Hubs.{deltas_in, snap_in}
use Rattle.kin_changes.specs.Views.{AreLed}
use Rattle.kin_mine.specs.Epochs.{BeginsOn}
use Rattle.kin_mine.specs.Miners.{IsMinerOf, active_in, begun, seen}
use Rattle.kin_mine.specs.declared.refusals.BeginRefused.TheVariants as refused
use Rattle.kin_world.specs.Worlds.{WorldView}
use Rattle.kin_world.proofs.Epochs.{clear-kept, closed-begun, closed-quiet}
use Rattle.kin_world.proofs.Leads.{clear-led, clear-said}
use Rattle.kin_world.proofs.Smalls.{clear-small}
use Rattle.kin_world.proofs.cores.Core.open_next.Goals as goal

pub unwrap-requires : goal.unwrap-requires
unwrap-requires c =
    let w = c.args.self.now in
    let clear = sym c.held_back.ensures ∙ c.in_default.is in
    c.snapshot.ensures.kept.1
    (subst (IsKept c.self.inside.hub.versions) (sym c.next_epoch-epoch.ensures)
    (subst (λ (v : WorldView). IsKept v.hub.versions (w.mined + 1)) (sym c.self.view_is) (clear-kept w c.requires.history clear)))

pub begin-requires-clause-small : goal.begin-requires-clause-small
begin-requires-clause-small c =
    let w = c.args.self.now in
    let clear = sym c.held_back.ensures ∙ c.in_default.is in
    let found : c.unwrap.result.now ≡ snap_in c.self.inside.hub c.next_epoch-epoch.result.0 = rw c.unwrap.ensures at c.snapshot.ensures.snap in
    let there : snap_in c.self.inside.hub c.next_epoch-epoch.result.0 ≡ snap_in w.hub (w.mined + 1) =
    ap (snap_in c.self.inside.hub) c.next_epoch-epoch.ensures ∙ ap (λ (v : WorldView). snap_in v.hub (w.mined + 1)) c.self.view_is in
    subst (λ (stores : List PartState). IsSmall (joined stores)) (sym (c.in_ok-snap.ensures ∙ (found ∙ there))) (clear-small w c.requires.history clear)

pub begin-requires-clause-said : goal.begin-requires-clause-said
begin-requires-clause-said c =
    let w = c.args.self.now in
    let clear = sym c.held_back.ensures ∙ c.in_default.is in
    let found : c.unwrap.result.now ≡ snap_in c.self.inside.hub c.next_epoch-epoch.result.0 = rw c.unwrap.ensures at c.snapshot.ensures.snap in
    let there : snap_in c.self.inside.hub c.next_epoch-epoch.result.0 ≡ snap_in w.hub (w.mined + 1) =
    ap (snap_in c.self.inside.hub) c.next_epoch-epoch.ensures ∙ ap (λ (v : WorldView). snap_in v.hub (w.mined + 1)) c.self.view_is in
    subst (λ (stores : List PartState). (u : User) → (joined stores).said u < 2 ^ 64) (sym (c.in_ok-snap.ensures ∙ (found ∙ there))) (clear-said w c.requires.history clear)

pub begin-requires-clause-led : goal.begin-requires-clause-led
begin-requires-clause-led c =
    let w = c.args.self.now in
    let clear = sym c.held_back.ensures ∙ c.in_default.is in
    let found : c.unwrap.result.now ≡ snap_in c.self.inside.hub c.next_epoch-epoch.result.0 = rw c.unwrap.ensures at c.snapshot.ensures.snap in
    let there : snap_in c.self.inside.hub c.next_epoch-epoch.result.0 ≡ snap_in w.hub (w.mined + 1) =
    ap (snap_in c.self.inside.hub) c.next_epoch-epoch.ensures ∙ ap (λ (v : WorldView). snap_in v.hub (w.mined + 1)) c.self.view_is in
    let told : c.unwrap-deltas.result.now ≡ deltas_in c.self.inside.hub c.next_epoch-epoch.result.0 = rw c.unwrap-deltas.ensures at c.deltas.ensures.deltas in
    let they : deltas_in c.self.inside.hub c.next_epoch-epoch.result.0 ≡ deltas_in w.hub (w.mined + 1) =
    ap (deltas_in c.self.inside.hub) c.next_epoch-epoch.ensures ∙ ap (λ (v : WorldView). deltas_in v.hub (w.mined + 1)) c.self.view_is in
    subst (λ (v : WorldView). AreLed (seen v.miner) (joined c.in_ok-snap.snap) c.unwrap-deltas.result.now) (sym c.self.view_is)
    (subst (λ (stores : List PartState). AreLed (seen w.miner) (joined stores) c.unwrap-deltas.result.now) (sym (c.in_ok-snap.ensures ∙ (found ∙ there)))
    (subst (λ (ds : List DeltaLists). AreLed (seen w.miner) (joined (snap_in w.hub (w.mined + 1))) ds) (sym (told ∙ they)) (clear-led w c.requires.history clear c.requires.closed)))

pub returns-in-Ok-clause-opens : goal.returns-in-Ok-clause-opens
returns-in-Ok-clause-opens c =
    let w = c.args.self.now in
    let new = c.begin.new.self in
    let found : c.unwrap.result.now ≡ snap_in c.self.inside.hub c.next_epoch-epoch.result.0 = rw c.unwrap.ensures at c.snapshot.ensures.snap in
    let there : snap_in c.self.inside.hub c.next_epoch-epoch.result.0 ≡ snap_in w.hub (w.mined + 1) =
    ap (snap_in c.self.inside.hub) c.next_epoch-epoch.ensures ∙ ap (λ (v : WorldView). snap_in v.hub (w.mined + 1)) c.self.view_is in
    let told : c.unwrap-deltas.result.now ≡ deltas_in c.self.inside.hub c.next_epoch-epoch.result.0 = rw c.unwrap-deltas.ensures at c.deltas.ensures.deltas in
    let they : deltas_in c.self.inside.hub c.next_epoch-epoch.result.0 ≡ deltas_in w.hub (w.mined + 1) =
    ap (deltas_in c.self.inside.hub) c.next_epoch-epoch.ensures ∙ ap (λ (v : WorldView). deltas_in v.hub (w.mined + 1)) c.self.view_is in
    let stores = c.in_ok-snap.ensures ∙ (found ∙ there) in
    let number : c.next_epoch-epoch.result.0 ≡ w.mined + 1 = c.next_epoch-epoch.ensures in
    record {
      closed = c.requires.closed;
      clear = sym c.held_back.ensures ∙ c.in_default.is;
      begins = record {
        epoch = c.in-Ok.ensures.epoch ∙ ap (λ (v : WorldView). begun v.miner + 1) c.self.view_is;
        landmarks = c.in-Ok.ensures.landmarks ∙ ap (λ (v : WorldView). v.miner.landmarks) c.self.view_is;
        begins = subst (λ (v : WorldView). BeginsOn (joined (snap_in w.hub (w.mined + 1))) (deltas_in w.hub (w.mined + 1)) v.miner new) c.self.view_is
            (subst (λ (s : List PartState). BeginsOn (joined s) (deltas_in w.hub (w.mined + 1)) c.self.inside.miner new) stores
            (subst (λ (ds : List DeltaLists). BeginsOn (joined c.in_ok-snap.snap) ds c.self.inside.miner new) (told ∙ they) c.in-Ok.ensures.begins));
        stands = λ g shown. subst (λ (k : ℕ). IsMinerOf g k new) number (c.in-Ok.ensures.stands g (subst (λ (s : List PartState). IsViewOf g (joined s)) (sym stores) shown));
      };
      world = ap (λ (v : WorldView). record v { miner = new; is_open = true }) c.self.view_is;
    }

pub unreachable-requires : goal.unreachable-requires
unreachable-requires c =
    let w = c.args.self.now in
    let k = c.in-Err-Busy.field-0-0 in
    let quiet : active_in c.self.inside.miner ≡ active_in w.miner = ap (λ (v : WorldView). active_in v.miner) c.self.view_is in
    let hit : c.begin.result ≡ Err (refused.Busy k) = c.in-Err-Busy.is ∙ ap Err c.in-Err-Busy.field-0-is in
    absurd (((c.begin.ensures.busy k).0 hit).0 (quiet ∙ closed-quiet w c.requires.history c.requires.closed))

pub unreachable-requires-in-Err-NotNext : goal.unreachable-requires-in-Err-NotNext
unreachable-requires-in-Err-NotNext c =
    let w = c.args.self.now in
    let k = c.in-Err-NotNext.field-0-0 in
    let last : begun c.self.inside.miner ≡ w.mined = ap (λ (v : WorldView). begun v.miner) c.self.view_is ∙ closed-begun w c.requires.history c.requires.closed in
    let hit : c.begin.result ≡ Err (refused.NotNext k) = c.in-Err-NotNext.is ∙ ap Err c.in-Err-NotNext.field-0-is in
    absurd (((c.begin.ensures.not_next k).0 hit).2 (c.next_epoch-epoch.ensures ∙ ap (λ (n : ℕ). n + 1) (sym last)))
