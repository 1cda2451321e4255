-- Words and files ask for at most one job.
use Rattle.std.proofs.Common.{◌≡◌, ℕ, ◌<◌, ◌≤◌, get_or, List, [], ◌∷◌, length, map, drop, refl, sym, ap, ◌∙◌, arith}
use Rattle.std.specs.List.{All}
use Rattle.std.proofs.lemmas.List.Elements.{All-head, All-tail}
use Rattle.kin_ids.specs.declared.options.ReplayWords.{ReplayWords}
use Rattle.kin_script.specs.declared.events.Line.{Line}
use Rattle.kin_script.specs.Schedules.{IsInRange, IsScript, OneTextLaw, written}
use Rattle.kin_words.specs.Commands.{AsksReplay}
use Rattle.kin_replay.specs.Jobs.{Job}
use Rattle.kin_replay.specs.Files.{Text, Files, IsJob}
use Rattle.kin_replay.specs.Loaded.{AreInRange}
use Rattle.kin_replay.proofs.Loads.{no-less}
use Rattle.kin_replay.proofs.Ranges.{in-range}
use Rattle.kin_replay.proofs.Ended.{for-words}

module _ (law : OneTextLaw) (nodes parts : ℕ) (few_nodes : nodes < 65536) (few_parts : parts < 65536) where
  -- lines of the same texts and numbers are the same
  same-lines : (xs ys : List Line) → All (λ (line : Line). IsInRange nodes parts line.event) xs → All (λ (line : Line). IsInRange nodes parts line.event) ys
      → map written xs ≡ map written ys → xs ≡ ys
  same-lines [] [] r q e = refl
  same-lines [] (y ∷ ys) r q e = let n = ap (λ (ws : List (ℕ × Text)). length ws) e in absurd (no-less (length (map written ys)) (omega (arith, n)))
  same-lines (x ∷ xs) [] r q e = let n = ap (λ (ws : List (ℕ × Text)). length ws) e in absurd (no-less (length (map written xs)) (omega (arith, n)))
  same-lines (x ∷ xs) (y ∷ ys) r q e =
      let number : x.number ≡ y.number = ap (λ (ws : List (ℕ × Text)). (get_or ws 0 (0, [])).0) e in
      let event : x.event ≡ y.event =
      law nodes parts few_nodes few_parts x.event y.event (All-head (λ (line : Line). IsInRange nodes parts line.event) x xs r) (All-head (λ (line : Line). IsInRange nodes parts line.event) y ys q)
      (ap (λ (ws : List (ℕ × Text)). (get_or ws 0 (0, [])).1) e) in
      let rest : xs ≡ ys =
      same-lines xs ys (All-tail (λ (line : Line). IsInRange nodes parts line.event) x xs r) (All-tail (λ (line : Line). IsInRange nodes parts line.event) y ys q)
      (ap (λ (ws : List (ℕ × Text)). drop 1 ws) e) in
      λ i. record { number = number i; event = event i } ∷ rest i

-- bytes are one schedule
one-script : OneTextLaw → (nodes parts : ℕ) → nodes ≤ 16 → parts ≤ 64 → (bytes : List ℕ) (a b : List Line) → IsScript nodes parts bytes a → IsScript nodes parts bytes b → a ≡ b
one-script law nodes parts few_nodes few_parts bytes a b s t =
    same-lines law nodes parts (omega (arith, few_nodes)) (omega (arith, few_parts)) a b s.range t.range (s.texts ∙ sym t.texts)

one-job : OneTextLaw → (w : ReplayWords) → AreInRange w → (files : Files) (a b : Job) → IsJob w files a → IsJob w files b → a ≡ b
one-job law w range files a b p q = λ i. record {
  setting = record { feeds = (p.feeds ∙ sym q.feeds) i; parts = (p.parts ∙ sym q.parts) i; landmarks = (p.landmarks ∙ sym q.landmarks) i };
  options = (p.options ∙ sym q.options) i;
  trace = (p.trace ∙ sym q.trace) i;
  lines = one-script law (length w.feeds) w.parts range.few_feeds range.few_parts (files w.script) a.lines b.lines p.lines q.lines i;
}

-- the same words and files ask for the same job
pub asked-once : OneTextLaw → (words : List Text) (v w : ReplayWords) (files : Files) (a b : Job) → AsksReplay words v → AsksReplay words w → IsJob v files a → IsJob w files b → a ≡ b
asked-once law words v w files a b asks also p q =
    one-job law w (in-range words w also) files a b (for-words words v asks (λ u. IsJob u files a) p w also) q
