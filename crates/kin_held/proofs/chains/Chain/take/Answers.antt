use Rattle.std.proofs.Common.{◌≡◌, subst}
use Rattle.std.proofs.lemmas.Result.{IfOk-weaker}
use Rattle.kin_ids.specs.Lines.{IsLine, stamps_of}
use Rattle.kin_held.specs.Chains.{ChainView}
use Rattle.kin_held.specs.declared.answers.Taken.{Taken}
use Rattle.kin_held.specs.Takes.{Takes, taken_of}
use Rattle.kin_held.proofs.Cases.{takes-is}
use Rattle.kin_held.proofs.chains.Chain.take.Goals as goal

pub returns-then-lt-2-clause-answer : goal.returns-then-lt-2-clause-answer
returns-then-lt-2-clause-answer c =
    let old = c.args.self.now in
    let piece = c.args.piece in
    let new = c.enter.new.self in
    let line = subst (λ (v : ChainView). IsLine v.floor (stamps_of v.held)) c.self.view_is c.self.invariant.run.0 in
    IfOk-weaker c.enter.result (λ (t : Taken). Takes old piece t new) (λ (t : Taken). t ≡ taken_of old piece new.top) (λ t takes. takes-is old piece t new line takes) c.enter.ensures.taken
