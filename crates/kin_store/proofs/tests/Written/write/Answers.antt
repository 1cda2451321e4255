use Rattle.std.proofs.Common.{◌≡◌, ◌+◌, ◌∙◌, arith, rules}
use Rattle.kin_store.proofs.Counts.{few-done}
use Rattle.kin_store.proofs.tests.Written.write.Goals as goal

pub invariant_of-self-2 : goal.invariant_of-self-2
invariant_of-self-2 c =
    let more : c.in-Some.more ≡ c.self.inside.number + 1 = search rules in
    let same = c.in_ok-write.ensures.same in (
      c.in_ok-write.ensures.indexed,
      (
        (same.0 ∙ c.self.invariant.1.0.0, same.1 ∙ c.self.invariant.1.0.1),
        λ u. omega (
          arith,
          more,
          few-done c.self.inside.snap c.write.new.self _ c.args.op c.self.inside.number c.in_ok-write.ensures.ok
              c.self.invariant.1.1 u,
        ),
      ),
    )
