use Rattle.std.proofs.Common.{◌≤◌, ◌+◌, length, ◌∙◌, ap, arith}
use Rattle.kin_graph.specs.Deltas.{DeltaLists}
use Rattle.kin_changes.specs.Told.{pairs_of, said_more, tag_more}
use Rattle.kin_counts.specs.declared.sides.Side.TheVariants as side
use Rattle.kin_counts.specs.Changes.{raised, lowered}
use Rattle.kin_counts.specs.Tallies.{TallyView, kept, kept_tag, gone_on, now_on, delta_items}
use Rattle.kin_counts.proofs.Tallied.{few-listed, few-both, tallied}
use Rattle.kin_counts.proofs.tallies.Counts.add.Goals as goal

few-in : (d : DeltaLists) → length (gone_on side.In d) + length (now_on side.In d) ≤ delta_items d
few-in d = omega arith

few-out : (d : DeltaLists) → length (gone_on side.Out d) + length (now_on side.Out d) ≤ delta_items d
few-out d = omega arith

few-said : (d : DeltaLists) → length d.said ≤ delta_items d
few-said d = omega arith

few-tags : (d : DeltaLists) → length d.tag_users ≤ delta_items d
few-tags d = omega arith

pub lower_all-requires : goal.lower_all-requires
lower_all-requires c =
    let room = ap (λ (r : TallyView). r.spare) c.self.view_is in
    omega (arith, room, c.in_ok-reserve.ensures.spare, few-both (gone_on side.In) (now_on side.In) few-in c.args.deltas.now)

pub lower_all-requires-2 : goal.lower_all-requires-2
lower_all-requires-2 c =
    let room = ap (λ (r : TallyView). r.spare) c.self.view_is in
    omega (arith, room, c.in_ok-reserve.ensures.spare, few-both (gone_on side.Out) (now_on side.Out) few-out c.args.deltas.now)

pub raise_all-requires : goal.raise_all-requires
raise_all-requires c =
    let room = ap (λ (r : TallyView). r.spare) c.self.view_is in
    omega (
      arith,
      room,
      c.in_ok-reserve.ensures.spare,
      c.lower_all.ensures.spare,
      few-both (gone_on side.In)
          (now_on side.In) few-in c.args.deltas.now,
    )

pub raise_all-requires-2 : goal.raise_all-requires-2
raise_all-requires-2 c =
    let room = ap (λ (r : TallyView). r.spare) c.self.view_is in
    omega (
      arith,
      room,
      c.in_ok-reserve.ensures.spare,
      c.lower_all-2.ensures.spare,
      few-both (gone_on side.Out)
          (now_on side.Out) few-out c.args.deltas.now,
    )

pub raise_all_said-requires : goal.raise_all_said-requires
raise_all_said-requires c =
    let room = ap (λ (r : TallyView). r.spare) c.self.view_is in
    omega (arith, room, c.in_ok-reserve.ensures.spare, few-listed (λ (d : DeltaLists). d.said) few-said c.args.deltas.now)

pub raise_all_tags-requires : goal.raise_all_tags-requires
raise_all_tags-requires c =
    let room = ap (λ (r : TallyView). r.spare) c.self.view_is in
    omega (arith, room, c.in_ok-reserve.ensures.spare, few-listed (λ (d : DeltaLists). d.tag_users) few-tags c.args.deltas.now)

pub returns-clause-counts : goal.returns-clause-counts
returns-clause-counts c =
    let ds = c.args.deltas.now in
    let same = c.reserve.ensures.same in
    tallied ds c.args.self.now _
    (λ u. c.raise_all.ensures u ∙ ap (raised (pairs_of (now_on side.In) ds u)) (c.lower_all.ensures.numbers u
    ∙ ap (lowered (pairs_of (gone_on side.In) ds u)) (ap (λ (r : TallyView). kept r.ins u) c.self.view_is ∙ same.ins u)))
    (λ u. c.raise_all-2.ensures u ∙ ap (raised (pairs_of (now_on side.Out) ds u)) (c.lower_all-2.ensures.numbers u
    ∙ ap (lowered (pairs_of (gone_on side.Out) ds u)) (ap (λ (r : TallyView). kept r.outs u) c.self.view_is ∙ same.outs u)))
    (λ u. c.raise_all_said.ensures u ∙ ap (raised (said_more ds u)) (ap (λ (r : TallyView). kept r.said u) c.self.view_is ∙ same.said u))
    (λ t. c.raise_all_tags.ensures t ∙ ap (raised (tag_more ds t))
    (ap (λ (r : TallyView). kept_tag r.tag_users t) c.self.view_is ∙ same.tag_users t))
