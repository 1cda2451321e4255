use Rattle.std.proofs.Common.{◌≡◌, ◌≤◌, ◌+◌, true, map}
use Rattle.kin_ids.specs.declared.ids.User.{User}
use Rattle.kin_ids.specs.Users.{has_user}
use Rattle.kin_pull.specs.Keeping.{layer_in}
use Rattle.kin_pull.specs.Passes.{AreRead, IsDraft, read_of, was_read}
use Rattle.kin_pull.specs.Settles.{changes, ever, is_due}
use Rattle.kin_pull.specs.States.{keeping, net_in, opposite}
use Rattle.kin_pull.proofs.settles.draw.Given as goal

-- the layers up to this one
abbrev pub invariant-loop-layer : goal.invariant-loop-layer
invariant-loop-layer g l = record {
  ins : AreRead (g.R.PullRule.seen l.rule).side (g.V.View.seen l.view) l.users l.ins;
  outs : AreRead (opposite (g.R.PullRule.seen l.rule).side) (g.V.View.seen l.view) l.users l.outs;
  most : l.layer ≤ g.R.PullRule.LAYERS;
  draft : IsDraft (g.R.PullRule.seen l.rule) (g.V.View.seen l.view) l.users l.kept l.layer (map (λ r. r.items) l.draft.items);
  told : (x : User) → has_user l.users x ≡ true → was_read l.users l.outs x ≡ ever (λ j. changes (g.R.PullRule.seen l.rule)
      (net_in (g.R.PullRule.seen l.rule).side (g.V.View.seen l.view) l.users l.kept)
      (keeping (g.R.PullRule.seen l.rule).first l.users l.kept) j
      (layer_in (g.R.PullRule.seen l.rule) (net_in (g.R.PullRule.seen l.rule).side (g.V.View.seen l.view) l.users l.kept) j) x) l.layer;
  computed : (x : User) → has_user l.users x ≡ true → was_read l.users l.ins x ≡ ever (λ j. is_due (g.R.PullRule.seen l.rule)
      (net_in (g.R.PullRule.seen l.rule).side (g.V.View.seen l.view) l.users l.kept)
      (keeping (g.R.PullRule.seen l.rule).first l.users l.kept) l.users j
      (layer_in (g.R.PullRule.seen l.rule) (net_in (g.R.PullRule.seen l.rule).side (g.V.View.seen l.view) l.users l.kept) j) x) l.layer;
  reads : l.steps ≡ l.initial.steps
      + (read_of (opposite (g.R.PullRule.seen l.rule).side) (g.V.View.seen l.view) l.users l.outs
      + read_of (g.R.PullRule.seen l.rule).side (g.V.View.seen l.view) l.users l.ins);
}
