use Rattle.std.proofs.Common.{◌&&◌, arith, get_or, refl, sym}
use Rattle.std.proofs.lemmas.List.{get_or_default}
use Rattle.kin_ids.specs.Users.{has_user}
use Rattle.kin_rules.specs.LayerTables.{neighbours_seen}
use Rattle.kin_rules.specs.Places.{place}
use Rattle.kin_rules.proofs.PlacedValues.{place-at}
use Rattle.kin_pull.specs.Passes.{changes_in, marked, was_read}
use Rattle.kin_pull.specs.States.{opposite}
use Rattle.kin_pull.proofs.Marks.{shown-step}
use Rattle.kin_pull.proofs.WasRead.{or-false, told-end, told-start, told-step}
use Rattle.kin_pull.proofs.showing.tell_all.Goals as goal

pub tell-requires-clause-at : goal.tell-requires-clause-at
tell-requires-clause-at g c = place-at c.args.users.now c.loop-i.i _ c.requires.kept.ascend c.loop-i-test.true

pub loop-i-init : goal.loop-i-init
loop-i-init g c = record {
  outs = c.requires.outs;
  long = c.requires.long;
  marks = λ x. sym (or-false (marked c.args.users.now c.args.marks.now.items x));
  told = λ x there. told-start (place c.args.users.now x) (was_read c.args.users.now c.args.outs.now x) _;
  reads = refl;
}

pub loop-i-preserved : goal.loop-i-preserved
loop-i-preserved g c =
    let r = g.R.PullRule.seen c.args.rule.now in
    let v = g.V.View.seen c.args.view.now in
    let us = c.args.users.now in
    let k = c.args.kept.now in
    let u = get_or us c.loop-i.i (record { 0 = 0 }) in
    record {
      outs = c.in_ok-tell.ensures.outs;
      long = c.in_ok-tell.ensures.long;
      marks = λ x. shown-step (λ y. changes_in r us k c.args.layer c.args.drawn.now y && has_user (neighbours_seen
          (opposite r.side) v y) x) us c.loop-i.i _ _ (marked us c.args.marks.now.items x) (marked us c.loop-i.marks.items x)
          (marked us c.tell.new.marks.items x)
          c.loop-i-test.true refl (c.in_ok-tell.ensures.marks x) (c.loop-i.invariant.marks x);
      told = λ x there. told-step (λ y. changes_in r us k c.args.layer c.args.drawn.now y) us c.loop-i.i u x
          (was_read us c.args.outs.now x) (was_read us c.loop-i.outs x) (was_read us c.tell.new.outs x) c.loop-i-test.true
          (get_or_default us c.loop-i.i _ u c.loop-i-test.true) there (c.in_ok-tell.ensures.told x there) (c.loop-i.invariant.told x there);
      reads = omega (arith, c.in_ok-tell.ensures.reads, c.loop-i.invariant.reads);
    }

pub returns-clause-told : goal.returns-clause-told
returns-clause-told g c = λ x there. told-end c.args.users.now c.loop-i.i x (was_read c.args.users.now c.args.outs.now x)
    (was_read c.args.users.now c.loop-i.outs x) _ c.loop-i-test.false there (c.loop-i.invariant.told x there)
