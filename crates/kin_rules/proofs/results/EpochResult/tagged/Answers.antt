use Rattle.std.proofs.Common.{◌∙◌, ap, get_or, if◌then◌else◌, List, []}
use Rattle.kin_rules.specs.declared.numbers.KCount.{KCount}
use Rattle.kin_rules.specs.Results.{ResultView, expo_in, has_tag, tag_place}
use Rattle.kin_rules.proofs.WiderResults.{expo-over, lists-is, tagged-tabular}
use Rattle.kin_rules.proofs.results.EpochResult.tagged.Goals as goal

pub invariant_of-result : goal.invariant_of-result
invariant_of-result c =
    let expos = lists-is c.self.inside.tags.items c.args.tags.items _ _ c.self.inside.expos.items _ _ c.as_slice.ensures.value c.as_slice-3.ensures.value c.as_slice-2.ensures.value c.in_ok-expos.ensures in
    rw (c.new.ensures.items, c.new-2.ensures.items, c.new-3.ensures.items, c.new-4.ensures.items, c.new-5.ensures.items, c.new-6.ensures.items, c.new-7.ensures.items, expos)
    (tagged-tabular c.self.inside.epoch.0 c.self.inside.tags.items c.self.inside.expos.items c.args.tags.items c.args.numbers.items c.self.invariant.exposures c.requires.ascend c.requires.numbers c.requires.some)

pub returns-clause-expos : goal.returns-clause-expos
returns-clause-expos c = λ t.
    let expos = lists-is c.self.inside.tags.items c.args.tags.items _ _ c.self.inside.expos.items _ _ c.as_slice.ensures.value c.as_slice-3.ensures.value c.as_slice-2.ensures.value c.in_ok-expos.ensures in
    ap (λ (l : List (List KCount)). get_or l (tag_place c.args.tags.items t) []) expos ∙ expo-over c.self.inside.tags.items c.self.inside.expos.items c.args.tags.items t
    ∙ ap (λ (r : ResultView). if has_tag c.args.tags.items t then expo_in r t else []) c.self.view_is
