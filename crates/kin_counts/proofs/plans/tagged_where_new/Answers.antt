use Rattle.std.proofs.Common.{◌∙◌, map, ap}
use Rattle.kin_counts.proofs.Placing.{number, number-some, planned-tags, numbers-long, numbers-some}
use Rattle.kin_counts.proofs.plans.tagged_where_new.Goals as goal

pub tagged-requires-clause-numbers : goal.tagged-requires-clause-numbers
tagged-requires-clause-numbers c =
    let old = c.args.counted.now in
    let ds = c.args.deltas.now in
    let all = rw c.in-Some.is at c.in_ok-tags.ensures.all in
    let f = number old ds c.tags.result.now c.in-Some.tags.items c.tags.ensures.tags c.tags.ensures.in_use all in
    numbers-long c.in-Some.tags.items f c.in_ok-numbers-in-Some.numbers.items
    (c.in_ok-numbers-in-Some.ensures ∙ ap (map f) c.as_slice.ensures.value)

pub tagged-requires-clause-some : goal.tagged-requires-clause-some
tagged-requires-clause-some c =
    let old = c.args.counted.now in
    let ds = c.args.deltas.now in
    let all = rw c.in-Some.is at c.in_ok-tags.ensures.all in
    let f = number old ds c.tags.result.now c.in-Some.tags.items c.tags.ensures.tags c.tags.ensures.in_use all in
    numbers-some c.in-Some.tags.items f c.in_ok-numbers-in-Some.numbers.items
    (c.in_ok-numbers-in-Some.ensures ∙ ap (map f) c.as_slice.ensures.value)
    (number-some old ds c.tags.result.now c.in-Some.tags.items c.tags.ensures.tags c.tags.ensures.in_use all)

pub returns-in_ok-tagged-in-Some : goal.returns-in_ok-tagged-in-Some
returns-in_ok-tagged-in-Some c =
    let old = c.args.counted.now in
    let ds = c.args.deltas.now in
    let all = rw c.in-Some.is at c.in_ok-tags.ensures.all in
    let ascend = rw c.in-Some.is at c.in_ok-tags.ensures.ascend in
    let f = number old ds c.tags.result.now c.in-Some.tags.items c.tags.ensures.tags c.tags.ensures.in_use all in
    planned-tags old ds c.tags.result.now c.in-Some.tags.items c.tags.ensures.tags c.tags.ensures.in_use all ascend
    c.in_ok-numbers-in-Some.numbers.items
    (c.in_ok-numbers-in-Some.ensures
    ∙ ap (map f) c.as_slice.ensures.value) c.in_ok-tagged-in-Some.field-0 c.in_ok-tagged-in-Some.ensures.tags
    c.in_ok-tagged-in-Some.ensures.expos
