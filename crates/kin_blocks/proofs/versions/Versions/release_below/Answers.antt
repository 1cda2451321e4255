use Rattle.std.proofs.Common.{rules, ◌≡◌, ℕ, ◌<◌, ◌≤◌, subst, length, drop, ◌-◌, max, sym}
use Rattle.kin_blocks.specs.Versions.{VersionsView, IsVersions, AreWritten, released, committed_at}
use Rattle.kin_blocks.proofs.Releasing.{released-versions, released-written}
use Rattle.kin_blocks.proofs.versions.Versions.release_below.Goals as goal

pub invariant_of-self : goal.invariant_of-self
invariant_of-self c =
    let old = c.self.inside in
    let v : VersionsView = record { first = old.first; committed = old.committed.items; epochs = old.epochs.items } in
    let rest : c.drop.new.self.0.items ≡ drop (c.args.k.0 - old.first) old.epochs.items = search rules in
    let whole : (p : ℕ) → p < length v.committed → c.args.k.0 ≤ committed_at v p =
    subst (λ (w : VersionsView). (p : ℕ) → p < length w.committed → c.args.k.0 ≤ committed_at w p) (sym c.self.view_is) c.requires in
    let first : c.max-self-inside.result ≡ max old.first c.args.k.0 = search rules in
    rw (rest, first) (
      released-versions v c.args.k.0 c.self.invariant.0 whole,
      released-written v c.args.k.0 c.self.invariant.0 whole
          old.writers.items c.self.invariant.1,
    )

pub returns-clause-versions : goal.returns-clause-versions
returns-clause-versions c = (invariant_of-self c).0
