use Rattle.std.proofs.Common.{◌≡◌, ◌+◌, min, length, drop, take, sym, ◌∙◌, ap, arith}
use Rattle.std.proofs.lemmas.List.{drop-take, take_min}
use Rattle.kin_held.specs.Queues.{QueueView}
use Rattle.kin_held.proofs.queues.Queue.truncate.Goals as goal

pub returns-clause-items : goal.returns-clause-items
returns-clause-items c =
    let start = c.self.inside.start in
    let count = c.args.count in
    let all = c.self.inside.all.items in
    let end = c.saturating_add.result in
    let same : min end (length all) ≡ min (start + count) (length all) = (let saturated = c.saturating_add.ensures in let len = c.self.inside.all.ok in let small = c.self.inside.all.small in omega arith) in
    let cut : take end all ≡ take (start + count) all = sym (take_min end all) ∙ (ap (λ m. take m all) same ∙ take_min (start + count) all) in
    let left : drop start c.truncate.new.self.items ≡ take count (drop start all) = ap (drop start) (c.truncate.ensures.items ∙ cut) ∙ drop-take start count all in
    c.settle-self-inside.ensures.items ∙ (left ∙ ap (λ (v : QueueView). take count v.items) c.self.view_is)
