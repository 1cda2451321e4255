use Rattle.std.proofs.Common.{map, string_bytes, codes, refl, sym, subst}
use Rattle.clap.specs.Words.{first_value, found_of, one_text}
use Rattle.kin_words.specs.Items.{is_taken}
use Rattle.kin_words.specs.Commands.{IsReplay}
use Rattle.kin_words.proofs.Asked.{replay_asks}
use Rattle.kin_words.proofs.Parts.{flag_told}
use Rattle.kin_words.proofs.replays.read_replay.Goals as goal

pub returns-clause-usage : goal.returns-clause-usage
returns-clause-usage c usage w asks =
    let m = c.in_ok-matches.matches in
    let h = c.in_ok-matches.ensures in
    let same = flag_told (is_taken (codes "trace") h.items) c.get_flag-trace.result (one_text (found_of m) (codes "trace")) (h.flags (codes "trace") refl)
    c.get_flag-trace.ensures.value c.get_flag-trace.ensures.other in
    c.chosen.ensures.usage usage w (subst (λ t. IsReplay (first_value (found_of m)) t w) (sym same) (replay_asks (map string_bytes c.args.words.now) m h w asks))
