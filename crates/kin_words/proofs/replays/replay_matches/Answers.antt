use Rattle.std.proofs.Common.{map, string_bytes}
use Rattle.clap.specs.Words.{app_of}
use Rattle.kin_words.proofs.Asked.{replay_tells}
use Rattle.kin_words.proofs.replays.replay_matches.Goals as goal

pub returns-in-Ok : goal.returns-in-Ok
returns-in-Ok c = replay_tells (map string_bytes c.args.words.now) (app_of c.in-Ok.command) c.in-Ok.ensures c.parsed.result c.parsed.ensures
