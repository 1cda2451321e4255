use Rattle.std.proofs.Common.{◌∙◌, sym}
use Rattle.std.specs.Str.{bytes_eq}
use Rattle.kin_words.proofs.Parts.{accepted}
use Rattle.kin_words.proofs.values.has.Goals as goal

pub returns-then-eq : goal.returns-then-eq
returns-then-eq c =
    sym (accepted (λ x. bytes_eq x c.args.name.now) c.args.parts.now c.loop-part.part-index _ c.loop-part-test.true (sym c.eq.ensures ∙ c.if-eq.true))
