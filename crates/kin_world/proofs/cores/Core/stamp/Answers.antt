use Rattle.std.proofs.Common.{◌≡◌, ◌≢◌, ◌∙◌, ℕ, ◌+◌, ◌<◌, min, true, sym, ap, subst, arith, get_or, length, None}
use Rattle.std.proofs.lemmas.Bool.{true_from_ne_false}
use Rattle.std.proofs.lemmas.List.{get_or_read}
use Rattle.kin_ids.specs.declared.stamps.Stamp.{Stamp}
use Rattle.kin_ids.specs.Lines.{next_stamp}
use Rattle.kin_ingest.specs.declared.ingests.Ingest.{Ingest}
use Rattle.kin_world.specs.SentStamps.{find_sent}
use Rattle.kin_world.specs.Worlds.{WorldView, no_node, node_at}
use Rattle.kin_world.proofs.Made.{next-within, unsent}
use Rattle.kin_world.proofs.cores.Core.stamp.Goals as goal

pub push-requires : goal.push-requires
push-requires c =
    let inside = c.self.inside in
    let now = c.args.self.now in
    let at : c.from-at.result ≡ c.args.ingest.0 = c.from-at.ensures in
    let in_feeds : c.args.ingest.0 < length inside.feeds.items = rw (← c.self.view_is) at c.requires.node in
    let count = c.self.invariant.nodes in
    let within : c.from-at.result < length inside.ingests.items = omega arith in
    let node = c.index.result.now in
    let node_is : node ≡ node_at now c.args.ingest.0 =
    get_or_read inside.ingests.items c.from-at.result node within c.index.ensures no_node
    ∙ (ap (λ (k : ℕ). get_or inside.ingests.items k no_node) at ∙ ap (λ (w : WorldView). node_at w c.args.ingest.0) c.self.view_is) in
    let stamp_is = c.in-Ok.ensures.stamp ∙ ap (λ (k : Ingest). next_stamp k.len k.id.0 k.inc.0 k.next c.args.n) node_is in
    let up_is : node.up ≡ true = true_from_ne_false _ (λ d. let e = c.in-Ok.ensures.down.1 d in absurd cc) in
    let more : node.next ≢ node.len = λ e. let refused = c.in-Ok.ensures.exhausted.1 (up_is, e) in absurd cc in
    let next_is : node.next ≡ (node_at now c.args.ingest.0).next = ap (λ (k : Ingest). k.next) node_is in
    let len_is : node.len ≡ (node_at now c.args.ingest.0).len = ap (λ (k : Ingest). k.len) node_is in
    let within_feed = next-within now c.requires.history c.args.ingest.0 c.requires.node in
    let some = c.requires.some in
    let from : c.in-Ok.stamp.from ≡ (node_at now c.args.ingest.0).next = ap (λ (k : Stamp). k.from) stamp_is in
    let to : c.in-Ok.stamp.to ≡ min ((node_at now c.args.ingest.0).next + c.args.n) (node_at now c.args.ingest.0).len = ap (λ (k : Stamp). k.to) stamp_is in
    subst (λ (w : WorldView). find_sent w.sent c.in-Ok.stamp.ingest.0 c.in-Ok.stamp.inc.0 c.in-Ok.stamp.to ≡ None) (sym c.self.view_is)
    (unsent now c.requires.history c.args.ingest.0 c.args.n c.in-Ok.stamp c.requires.node stamp_is (omega arith))
