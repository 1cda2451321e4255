use Rattle.kin_changes.proofs.Edges.{edges-law}
use Rattle.kin_push.proofs.Begun.{begin-law, empty-law}
use Rattle.kin_push.proofs.Epochs.{quiet-is-least, view-law}
use Rattle.kin_push.proofs.laws.push_laws.Goals as goal

pub returns : goal.returns
returns c = record { empty = empty-law; begins = begin-law edges-law; quiet = quiet-is-least; view = view-law }
