use Rattle.kin_blocks.specs.Blocks.{pieces_of}
use Rattle.kin_blocks.proofs.Alone.{alone-part, alone-room, alone-next}
use Rattle.kin_blocks.proofs.tests.commit_first.Goals as goal

pub commit-requires-clause-part : goal.commit-requires-clause-part
commit-requires-clause-part g c = alone-part c.args.versions.now c.requires.first

pub commit-requires-clause-room : goal.commit-requires-clause-room
commit-requires-clause-room g c = alone-room c.args.versions.now c.requires.first

pub commit-requires-clause-may : goal.commit-requires-clause-may
commit-requires-clause-may g c = alone-next c.args.versions.now c.requires.first (pieces_of c.args.runs.now) c.requires.may
