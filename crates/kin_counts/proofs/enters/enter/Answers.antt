use Rattle.std.proofs.Common.{◌∙◌, sym, subst}
use Rattle.kin_counts.specs.Plans.{planned_users}
use Rattle.kin_counts.proofs.Entered.{IsWidened, IsEntered, widened, retagged, entered, counted, mid-tags, mid-tag_users, mid-expos}
use Rattle.kin_counts.proofs.enters.enter.Goals as goal

pub returns : goal.returns
returns c =
    let old = c.args.counted.now in
    let ds = c.args.deltas.now in
    let over = planned_users c.args.plan old in
    let r1 = c.take_users.new.counted in
    let r2 = c.lower_all.new.counted in
    let r3 = c.raise_all.new.counted in
    let new = c.take_tags.new.counted in
    let low = c.lower_all.ensures in
    let high = c.raise_all.ensures in
    let w : IsWidened old ds over r1 = subst (IsWidened old ds over) (sym c.take_users.ensures)
    (widened old ds c.args.plan.wide c.requires.users) in
    let t = retagged old r3 new ds (mid-tags old r1 r2 r3 new ds over w low high) (mid-tag_users old r1 r2 r3 new ds over w low high)
    (mid-expos old r1 r2 r3 new ds over w low high)
    c.args.plan.tagged c.requires.tags c.take_tags.ensures.tags in
    let e : IsEntered old ds over new = entered old r1 r2 r3 new ds over w low high t c.take_tags.ensures.ascend in
    record {
      counts = λ was is led fits counts. counted old new ds over e was is led fits counts;
      keeps = e.keeps;
      users = e.users;
      alone_hops = λ i none. e.alone_hops i ∙ none;
      alone_close = λ i none. e.alone_close i ∙ none;
    }
