use Rattle.std.proofs.Common.{◌&&◌, sym, ap, length}
use Rattle.std.specs.Prelude.{nat_le}
use Rattle.clap.specs.Walk.{texts}
use Rattle.kin_words.specs.Values.{is_filled}
use Rattle.kin_words.proofs.Parts.{refused, unfilled}
use Rattle.kin_words.proofs.values.are_files.Goals as goal

pub returns-then-is_empty : goal.returns-then-is_empty
returns-then-is_empty c =
    sym (ap (λ b. b && nat_le (length (texts c.args.parts.now)) 16)
    (refused is_filled c.args.parts.now c.loop-part.part-index _ c.loop-part-test.true (unfilled _ c.is_empty.result c.is_empty.ensures c.if-is_empty.true)))
