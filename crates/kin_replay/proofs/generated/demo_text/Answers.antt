use Rattle.std.proofs.Common.{◌≡◌, ◌≤◌, ℕ, List, ◌++◌, length, sym, ap, subst, ◌∙◌}
use Rattle.std.specs.List.{sum_by}
use Rattle.kin_ids.specs.declared.ops.Record.{Record}
use Rattle.kin_ids.specs.declared.options.OptionWords.{OptionWords}
use Rattle.kin_hub.specs.Hubs.{cuts_in}
use Rattle.kin_report.specs.Report.{block_after}
use Rattle.kin_replay.specs.Demos.{bad_of, demo_epochs, demo_history, demo_line, demo_options, demo_setting}
use Rattle.kin_replay.specs.Mined.{HasJustMined}
use Rattle.kin_replay.proofs.DemoHistory.{just-mined, last-begun, epochs-are}
use Rattle.kin_replay.proofs.generated.demo_text.Goals as goal

pub count_bad-requires : goal.count_bad-requires
count_bad-requires c = record {
  few = subst (λ (feeds : List (List Record)). sum_by (λ (feed : List Record). length feed) feeds ≤ 2097152) (sym (c.feeds.ensures ∙ c.requires.stands.over.feeds)) c.requires.stands.over.limits.records;
}

pub block_of-requires-clause-mined : goal.block_of-requires-clause-mined
block_of-requires-clause-mined c =
    subst (HasJustMined c.args.world.now) (sym (c.cuts-epochs.ensures ∙ ap cuts_in c.hub.ensures ∙ epochs-are c.args.words c.args.world.now c.requires.stands))
    (just-mined c.args.words c.args.world.now c.requires.stands)

pub block_of-requires-clause-landmarks : goal.block_of-requires-clause-landmarks
block_of-requires-clause-landmarks c = c.requires.stands.over.landmarks ∙ sym (ap (λ (o : OptionWords). o.landmarks) c.in_ok-options.ensures)

pub returns : goal.returns
returns c =
    let w = c.args.words in
    let set = demo_setting w in
    let h = demo_history w in
    let epochs : c.cuts-epochs.result ≡ demo_epochs w = c.cuts-epochs.ensures ∙ ap cuts_in c.hub.ensures ∙ epochs-are w c.args.world.now c.requires.stands in
    let bad : c.count_bad.result ≡ bad_of set.feeds = c.count_bad.ensures ∙ ap bad_of (c.feeds.ensures ∙ c.requires.stands.over.feeds) in
    let line = c.in_ok-text.ensures ∙ ap (λ (n : ℕ). demo_line w n c.count_bad.result) epochs ∙ ap (λ (n : ℕ). demo_line w (demo_epochs w) n) bad in
    let block = c.as_slice.ensures.value ∙ c.in_ok-block.ensures set h c.requires.stands (last-begun w ∙ sym epochs)
    ∙ ap (λ (o : OptionWords). block_after set o h c.cuts-epochs.result) c.in_ok-options.ensures ∙ ap (λ (n : ℕ). block_after set demo_options h n) epochs in
    c.in_ok-extend_from_slice.ensures.items ∙ ap (λ (t : List ℕ). t ++ c.as_slice.result.now) line ∙ ap (λ (t : List ℕ). demo_line w (demo_epochs w) (bad_of set.feeds) ++ t) block
