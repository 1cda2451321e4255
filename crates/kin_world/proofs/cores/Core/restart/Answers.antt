use Rattle.std.proofs.Common.{◌≡◌, ◌∙◌, ℕ, ◌+◌, ◌<◌, sym, ap, subst, arith, refl, get_or, length}
use Rattle.std.proofs.lemmas.Bool.{false_from_ne_true}
use Rattle.std.proofs.lemmas.List.{get_or_read}
use Rattle.kin_ingest.specs.declared.ingests.Ingest.{Ingest}
use Rattle.kin_hub.specs.Hubs.{agreed_in}
use Rattle.kin_hub.specs.Goes.{HubSeals}
use Rattle.kin_world.specs.Worlds.{WorldView, no_node, node_at}
use Rattle.kin_world.proofs.cores.Core.restart.Goals as goal

pub returns-in-Ok-clause-restarts : goal.returns-in-Ok-clause-restarts
returns-in-Ok-clause-restarts c =
    let inside = c.self.inside in
    let now = c.args.self.now in
    let at : c.from.result ≡ c.args.ingest.0 = c.from.ensures in
    let in_feeds : c.args.ingest.0 < length inside.feeds.items = rw (← c.self.view_is) at c.requires.node in
    let count = c.self.invariant.nodes in
    let within : c.from.result < length inside.ingests.items = omega arith in
    let node = c.index_mut-node.result.now in
    let here : node ≡ get_or inside.ingests.items c.args.ingest.0 no_node =
    get_or_read inside.ingests.items c.from.result node within c.index_mut-node.ensures.value no_node ∙ ap (λ (k : ℕ). get_or inside.ingests.items k no_node) at in
    let node_is : node ≡ node_at now c.args.ingest.0 = here ∙ ap (λ (w : WorldView). node_at w c.args.ingest.0) c.self.view_is in
    let sealed = rw c.unwrap.ensures at c.seal.ensures.sealed in
    let up_is = false_from_ne_true node.up (λ t. let up = c.in-Ok.ensures.up.1 t in absurd cc) in
    record {
      down = ap (λ (n : Ingest). n.up) (sym node_is) ∙ up_is;
      left = λ e. let spent = c.in-Ok.ensures.spent.1 (up_is, ap (λ (n : Ingest). n.inc.0) node_is ∙ e) in absurd cc;
      inc = c.in-Ok.ensures.next ∙ ap (λ (n : Ingest). n.inc.0 + 1) node_is;
      at = c.agreed-base.ensures ∙ ap (λ (w : WorldView). agreed_in w.hub c.args.ingest.0) c.self.view_is;
      seals = subst (λ (w : WorldView). HubSeals w.hub c.args.ingest.0 c.seal.new.self) c.self.view_is (rw c.unwrap.ensures at c.seal.ensures.stands);
      world = rw (← c.self.view_is, sealed, c.in-Ok.ensures.ok, at, here) refl;
    }
