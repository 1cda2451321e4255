use Rattle.std.proofs.Common.{sym, ap, ◌∙◌, refl}
use Rattle.kin_ids.specs.Lines.{end_of, stamps_of}
use Rattle.kin_held.proofs.Pieces.{ends_grow}
use Rattle.kin_held.proofs.Cuts.{place_from_end, IsRun-pieces_upto}
use Rattle.kin_held.proofs.runs.len_to.Goals as goal

pub upto_len-count-requires : goal.upto_len-count-requires
upto_len-count-requires c = ends_grow c.args.floor c.args.pieces.now c.requires

pub returns-then-end_of-at-clause-place : goal.returns-then-end_of-at-clause-place
returns-then-end_of-at-clause-place c =
    place_from_end c.args.floor c.args.at c.args.pieces.now (sym (c.end_of.ensures ∙ ap (λ ps. end_of c.args.floor (stamps_of ps)) c.upto_len-count.ensures.front) ∙ c.if-end_of-at.true)

pub returns-else-end_of-at-clause-none : goal.returns-else-end_of-at-clause-none
returns-else-end_of-at-clause-none c = λ place. c.if-end_of-at.false
    (c.end_of.ensures ∙ (ap (λ ps. end_of c.args.floor (stamps_of ps)) c.upto_len-count.ensures.front
    ∙ (IsRun-pieces_upto c.args.floor c.args.at (end_of c.args.floor (stamps_of c.args.pieces.now)) c.args.pieces.now (c.requires, refl) place).1))
