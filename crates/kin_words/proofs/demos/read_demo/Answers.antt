use Rattle.std.proofs.Common.{map, string_bytes}
use Rattle.kin_words.proofs.Asked.{demo_asks}
use Rattle.kin_words.proofs.demos.read_demo.Goals as goal

pub returns-clause-usage : goal.returns-clause-usage
returns-clause-usage c usage w asks =
    c.chosen.ensures.usage usage w (demo_asks (map string_bytes c.args.words.now) c.in_ok-matches.matches c.in_ok-matches.ensures w asks)
