use Rattle.std.proofs.Common.{◌∙◌, ap, arith, sym, subst, List, Option, ℕ}
use Rattle.kin_ids.specs.declared.ops.Half.{Half}
use Rattle.kin_rules.specs.Edges.{places_of}
use Rattle.kin_rules.specs.LayerTables.{present_ends}
use Rattle.kin_pull.specs.Passes.{AreRead, read_of, was_read}
use Rattle.kin_pull.proofs.LookedUp.{read-put, read-there}
use Rattle.kin_pull.proofs.WasRead.{read-more, was-put, was-there}
use Rattle.kin_pull.proofs.ends.Ends.read.Goals as goal

pub returns-then-has-clause-there : goal.returns-then-has-clause-there
returns-then-has-clause-there g c =
    read-there c.args.side (g.V.View.seen c.args.view.now) c.args.users.now c.args.self.now c.args.i c.args.user c.requires.read c.requires.within c.requires.at
    (sym c.has.ensures ∙ c.if-has.true)

pub returns-clause-read : goal.returns-clause-read
returns-clause-read g c =
    let v = g.V.View.seen c.args.view.now in
    subst (λ (es : List (Option (List ℕ))). AreRead c.args.side v c.args.users.now es) (sym c.in_ok-put.ensures.ok)
    (read-put c.args.side v c.args.users.now c.args.self.now c.args.i c.args.user c.as_slice.result.now c.requires.read c.requires.within c.requires.at
    (c.as_slice.ensures.value ∙ (c.in_ok-row.ensures
    ∙ ap (λ (hs : List Half). places_of c.args.users.now (present_ends hs)) c.halves_on-halves.ensures.halves)))

pub returns-then-has-clause-was : goal.returns-then-has-clause-was
returns-then-has-clause-was g c = λ x there. was-there c.args.users.now c.args.self.now c.args.i x (sym c.has.ensures ∙ c.if-has.true)

pub returns-clause-was : goal.returns-clause-was
returns-clause-was g c = λ x there.
    ap (λ (es : List (Option (List ℕ))). was_read c.args.users.now es x) c.in_ok-put.ensures.ok
    ∙ was-put c.args.users.now c.args.self.now c.args.i c.as_slice.result.now x (omega (arith, c.requires.within, c.requires.read.long))

pub returns-clause-reads : goal.returns-clause-reads
returns-clause-reads g c =
    let v = g.V.View.seen c.args.view.now in
    let more = read-more c.args.side v c.args.users.now c.args.self.now c.args.i c.args.user c.as_slice.result.now c.requires.ascend
    c.requires.read c.requires.within c.requires.at (sym c.has.ensures ∙ c.if-has.false) in
    let is = ap (λ (es : List (Option (List ℕ))). read_of c.args.side v c.args.users.now es) c.in_ok-put.ensures.ok in
    omega (arith, more, is, c.halves_on-halves.ensures.reads)
