-- What the words of each command ask for.
use Rattle.std.proofs.Common.{◌≡◌, ◌∙◌, ◌^◌, ◌-◌, codes, List, [], true, refl, sym, ap, Result}
use Rattle.std.specs.Prelude.{option_and_then}
use Rattle.clap.specs.Words.{App, found_of, first_value}
use Rattle.clap.specs.declared.parser.matches.ArgMatches.{ArgMatches}
use Rattle.kin_ids.specs.declared.options.ReplayWords.{ReplayWords}
use Rattle.kin_ids.specs.declared.options.DemoWords.{DemoWords}
use Rattle.kin_words.specs.Items.{Text, has, value_at, is_taken}
use Rattle.kin_words.specs.Values.{or_default, number_from, names_of, rules_of, landmarks_of, chosen, rule_names}
use Rattle.kin_words.specs.Commands.{replay_names, IsReplay, AsksReplay, demo_names, IsDemo, AsksDemo}
use Rattle.kin_words.specs.Rules.{app_for}
use Rattle.kin_words.specs.Reads.{Parses, HasItems, Matches}
use Rattle.kin_words.specs.declared.faults.WordsFault.{WordsFault}
use Rattle.kin_words.proofs.Spellings.{AreNames}
use Rattle.kin_words.proofs.Readings.{some_is}
use Rattle.kin_words.proofs.Apps.{tells, one_line, no_flag, one_flag}

demo_are : AreNames demo_names.options demo_names.flags
demo_are = record { options = refl; flags = refl; apart = refl }

replay_are : AreNames replay_names.options replay_names.flags
replay_are = record { options = refl; flags = refl; apart = refl }

pub demo_tells : (words : List Text) (app : App) → app ≡ app_for (codes "demo") demo_names.options demo_names.flags → (r : Result ArgMatches WordsFault) → Parses app words r → Matches demo_names words r
demo_tells words = tells (codes "demo") demo_names.options demo_names.flags demo_are (no_flag demo_names.options) words

pub replay_tells : (words : List Text) (app : App) → app ≡ app_for (codes "replay") replay_names.options replay_names.flags → (r : Result ArgMatches WordsFault) → Parses app words r
    → Matches replay_names words r
replay_tells words = tells (codes "replay") replay_names.options replay_names.flags replay_are (one_flag (codes "trace") replay_names.options refl) words

pub demo_asks : (words : List Text) (m : ArgMatches) → HasItems demo_names words m → (w : DemoWords) → AsksDemo words w → IsDemo (first_value (found_of m)) w
demo_asks words m h w asks = record {
  seed = ap (option_and_then (number_from 0 (2 ^ 64 - 1))) (at (codes "seed") refl) ∙ asks.chooses.seed;
  records = ap (option_and_then (number_from 1 500000)) (at (codes "records") refl) ∙ asks.chooses.records;
}
  where
    at : (n : Text) → has n demo_names.options ≡ true → first_value (found_of m) n ≡ value_at n asks.items
    at n o = h.values n o ∙ ap (value_at n) (one_line (codes "demo") demo_names.options demo_names.flags demo_are (no_flag demo_names.options) words h.items asks.items h.line asks.line)

pub replay_asks : (words : List Text) (m : ArgMatches) (h : HasItems replay_names words m) (w : ReplayWords) → AsksReplay words w
    → IsReplay (first_value (found_of m)) (is_taken (codes "trace") h.items) w
replay_asks words m h w asks =
    let r = asks.chooses in
    record {
      script = at (codes "script") refl ∙ r.script;
      feeds = ap (option_and_then names_of) (at (codes "feeds") refl) ∙ r.feeds;
      parts = ap (or_default 1 (number_from 1 64)) (at (codes "parts") refl) ∙ r.parts;
      rules = ap (or_default (chosen rule_names) rules_of) (at (codes "rules") refl) ∙ r.rules;
      landmarks = ap (or_default [] landmarks_of) (at (codes "landmarks") refl) ∙ r.landmarks;
      top = ap (or_default 10 (number_from 0 1000)) (at (codes "top") refl) ∙ r.top;
      trace = r.trace ∙ ap (is_taken (codes "trace")) (sym same);
    }
  where
    same : h.items ≡ asks.items
    same = one_line (codes "replay") replay_names.options replay_names.flags replay_are (one_flag (codes "trace") replay_names.options refl) words h.items asks.items h.line asks.line

    at : (n : Text) → has n replay_names.options ≡ true → first_value (found_of m) n ≡ value_at n asks.items
    at n o = h.values n o ∙ ap (value_at n) same

pub replay_told : (words : List Text) (m : ArgMatches) (h : HasItems replay_names words m) (w : ReplayWords) → IsReplay (first_value (found_of m)) (is_taken (codes "trace") h.items) w
    → AsksReplay words w
replay_told words m h w r = record {
  items = h.items;
  line = h.line;
  chooses = record {
    script = at (codes "script") refl ∙ r.script;
    feeds = ap (option_and_then names_of) (at (codes "feeds") refl) ∙ r.feeds;
    parts = ap (or_default 1 (number_from 1 64)) (at (codes "parts") refl) ∙ r.parts;
    rules = ap (or_default (chosen rule_names) rules_of) (at (codes "rules") refl) ∙ r.rules;
    landmarks = ap (or_default [] landmarks_of) (at (codes "landmarks") refl) ∙ r.landmarks;
    top = ap (or_default 10 (number_from 0 1000)) (at (codes "top") refl) ∙ r.top;
    trace = r.trace;
  };
}
  where
    at : (n : Text) → has n replay_names.options ≡ true → value_at n h.items ≡ first_value (found_of m) n
    at n o = sym (h.values n o)

-- words ask for at most one thing
pub replay_once : (words : List Text) (v w : ReplayWords) → AsksReplay words v → AsksReplay words w → v ≡ w
replay_once words v w a b = λ i. record {
  script = some_is v.script w.script (sym a.chooses.script ∙ at (codes "script") ∙ b.chooses.script) i;
  feeds = some_is v.feeds w.feeds (sym a.chooses.feeds ∙ ap (option_and_then names_of) (at (codes "feeds")) ∙ b.chooses.feeds) i;
  parts = some_is v.parts w.parts (sym a.chooses.parts ∙ ap (or_default 1 (number_from 1 64)) (at (codes "parts")) ∙ b.chooses.parts) i;
  options = record {
    rules = some_is v.options.rules w.options.rules (sym a.chooses.rules ∙ ap (or_default (chosen rule_names) rules_of) (at (codes "rules")) ∙ b.chooses.rules) i;
    landmarks = some_is v.options.landmarks w.options.landmarks (sym a.chooses.landmarks ∙ ap (or_default [] landmarks_of) (at (codes "landmarks")) ∙ b.chooses.landmarks) i;
    top = some_is v.options.top w.options.top (sym a.chooses.top ∙ ap (or_default 10 (number_from 0 1000)) (at (codes "top")) ∙ b.chooses.top) i;
  };
  trace = (a.chooses.trace ∙ ap (is_taken (codes "trace")) same ∙ sym b.chooses.trace) i;
}
  where
    same : a.items ≡ b.items
    same = one_line (codes "replay") replay_names.options replay_names.flags replay_are (one_flag (codes "trace") replay_names.options refl) words a.items b.items a.line b.line

    at : (n : Text) → value_at n a.items ≡ value_at n b.items
    at n = ap (value_at n) same

pub demo_once : (words : List Text) (v w : DemoWords) → AsksDemo words v → AsksDemo words w → v ≡ w
demo_once words v w a b = λ i. record {
  seed = some_is v.seed w.seed (sym a.chooses.seed ∙ ap (option_and_then (number_from 0 (2 ^ 64 - 1))) (at (codes "seed")) ∙ b.chooses.seed) i;
  records = some_is v.records w.records (sym a.chooses.records ∙ ap (option_and_then (number_from 1 500000)) (at (codes "records")) ∙ b.chooses.records) i;
}
  where
    same : a.items ≡ b.items
    same = one_line (codes "demo") demo_names.options demo_names.flags demo_are (no_flag demo_names.options) words a.items b.items a.line b.line

    at : (n : Text) → value_at n a.items ≡ value_at n b.items
    at n = ap (value_at n) same
