use Rattle.std.proofs.Common.{ℕ, take, sym, ap, ◌∙◌, arith}
use Rattle.std.proofs.lemmas.List.{take_all}
use Rattle.std.proofs.lemmas.List.Sorted.{length_permutation}
use Rattle.kin_rules.specs.Top as tops
use Rattle.kin_rules.proofs.Orders.{IsExact, in_order-permutes}
use Rattle.kin_rules.proofs.Cuts.{front-first}
use Rattle.kin_rules.proofs.tops.first_of.Goals as goal

pub returns-then-t-entries : goal.returns-then-t-entries
returns-then-t-entries g c =
    let o : IsExact g.T.Ord.cmp = record { total = g.met.T.Ord.total; exact = c.requires } in
    let is = front-first o c.args.entries.now _ _ _ c.select_nth_unstable.ensures.permutation c.select_nth_unstable.ensures.partitioned in
    sym is ∙ ap (λ (n : ℕ). take n (tops.in_order g.T.Ord.cmp c.args.entries.now)) c.select_nth_unstable.ensures.front_len

pub returns-else-t-entries : goal.returns-else-t-entries
returns-else-t-entries g c =
    let all = tops.in_order g.T.Ord.cmp c.args.entries.now in
    let long = length_permutation c.args.entries.now all (in_order-permutes g.T.Ord.cmp c.args.entries.now) in
    sym (take_all c.args.t all (omega (arith, long)))
