use Rattle.std.proofs.Common.{◌≡◌, ◌∙◌, ℕ, List, sym, ap, subst, length}
use Rattle.kin_ids.specs.declared.ops.Record.{Record}
use Rattle.std.specs.Prelude.{All}
use Rattle.kin_ids.specs.Sizes.{IsSmall, AreWithinLimits}
use Rattle.kin_hub.specs.Opens.{first_hub}
use Rattle.kin_world.specs.Opens.{AreFirst}
use Rattle.kin_world.proofs.Opening.{first-stands}
use Rattle.kin_world.proofs.cores.Core.open.Goals as goal

pub returns : goal.returns
returns c = record {
  stands =
      let feeds = c.args.feeds.items in
      let hub = c.in_ok-hub.hub in
      let count : length feeds ≡ c.len-nodes.result = ap length (sym c.deref.ensures.value) ∙ (c.deref.ensures.len ∙ sym c.len-nodes.ensures) in
      let first = subst (λ (all : List (List Record)). AreFirst all c.in_ok-ingests.ingests.items) c.deref.ensures.value c.in_ok-ingests.ensures.nodes in
      let small = subst (λ (all : List (List Record)). All (λ (feed : List Record). All IsSmall feed) all) c.deref.ensures.value c.in_ok-ingests.ensures.small in
      let limits : AreWithinLimits feeds = record { records = c.requires.few_records; small = small } in
      let value = subst (λ (n : ℕ). hub ≡ first_hub n c.args.parts) (sym count) c.in_ok-hub.ensures.value in
      rw c.new-2.ensures (first-stands feeds c.args.parts c.args.landmarks.now c.in_ok-ingests.ingests.items hub c.in_ok-new.field-0 limits first value (c.in_ok-hub.ensures.stands feeds count)
      c.in_ok-new.ensures.landmarks c.in_ok-new.ensures.quiet c.in_ok-new.ensures.stands);
}
