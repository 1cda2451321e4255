use Rattle.std.proofs.Common.{◌∙◌, ap}
use Rattle.std.proofs.lemmas.List.{take_rest}
use Rattle.kin_ids.specs.Lines.{stamps_of}
use Rattle.kin_held.proofs.Pieces.{stamps_of-pieces_past}
use Rattle.kin_hub.proofs.runs.past.Goals as goal

pub returns : goal.returns
returns c = rw c.chain.ensures.held (ap stamps_of (take_rest _ c.count_upto.result ∙ c.count_upto.ensures.rest)
    ∙ stamps_of-pieces_past c.args.at _)
