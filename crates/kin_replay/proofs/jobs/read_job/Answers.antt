use Rattle.std.proofs.Common.{rules, ◌≡◌, ◌∙◌, ◌≤◌, ◌∷◌, [], ℕ, List, length, IfErr, IfSome, Option, Some, refl, subst}
use Rattle.std.specs.Result.{IsErrOf}
use Rattle.std.proofs.lemmas.Result.{IfErr-weaker}
use Rattle.kin_io.specs.Outside.{Rose}
use Rattle.kin_line.specs.Lines.{lines}
use Rattle.kin_script.specs.Schedules.{IsScript}
use Rattle.kin_replay.specs.Files.{Files, FeedsFit, Told}
use Rattle.kin_replay.specs.Refusals.{IsOfFeeds, IsOfScript}
use Rattle.kin_replay.specs.declared.refusals.Refusal.TheVariants as refusal
use Rattle.kin_replay.proofs.Loads.{rose-first, rose-last, told-first, told-last}
use Rattle.kin_replay.proofs.Refused.{feeds-refuse, script-refuse}
use Rattle.kin_replay.proofs.jobs.read_job.Goals as goal

pub returns-in_err-feeds-clause-read : goal.returns-in_err-feeds-clause-read
returns-in_err-feeds-clause-read g c = λ e.
    let w = c.args.words in
    let hit : IsErrOf c.load_records.result refusal.Read = search rules in
    rose-first (g.F.Shelf.faults c.args.shelf.now) (g.F.Shelf.faults c.load_records.new.shelf) w.feeds (w.script ∷ []) (rw (← c.as_slice.ensures) (c.load_records.ensures.read hit))

pub returns-in_err-feeds-clause-err : goal.returns-in_err-feeds-clause-err
returns-in_err-feeds-clause-err g c =
    let w = c.args.words in
    let content = g.F.Shelf.content c.args.shelf.now in
    let own : IfErr c.from_residual.result (λ r. (files : Files) → Told content w.feeds files → IsOfFeeds w.feeds files r) = search rules in
    IfErr-weaker c.from_residual.result _ _ (λ r of_feeds files told. feeds-refuse w files r (of_feeds files (told-first content files w.feeds (w.script ∷ []) told))) own

pub returns-in_err-lines-clause-read : goal.returns-in_err-lines-clause-read
returns-in_err-lines-clause-read g c = λ e.
    let w = c.args.words in
    let hit : IsErrOf c.load_lines.result refusal.Read = search rules in
    let calm : (n : List ℕ) → g.F.Shelf.faults c.load_records.new.shelf n ≡ g.F.Shelf.faults c.args.shelf.now n = search rules in
    let rose : Rose (g.F.Shelf.faults c.args.shelf.now w.script) (g.F.Shelf.faults c.load_lines.new.shelf w.script) = rw (← calm w.script) (c.load_lines.ensures.read hit) in
    rose-last (g.F.Shelf.faults c.args.shelf.now) (g.F.Shelf.faults c.load_lines.new.shelf) w.feeds w.script rose

pub returns-in_err-lines-clause-err : goal.returns-in_err-lines-clause-err
returns-in_err-lines-clause-err g c =
    let w = c.args.words in
    let content = g.F.Shelf.content c.args.shelf.now in
    let mid = g.F.Shelf.content c.load_records.new.shelf in
    let own : IfErr c.from_residual-in_err-lines.result (λ r. IfSome (mid w.script) (IsOfScript (length w.feeds) w.parts r)) = search rules in
    IfErr-weaker c.from_residual-in_err-lines.result _ _
    (λ r of_script files told.
    let there : mid w.script ≡ Some (files w.script) = c.load_records.ensures.content w.script ∙ told-last content files w.feeds w.script told in
    let fit : FeedsFit w.feeds files = rw (← c.as_slice.ensures) (c.in_ok-feeds.ensures.fit files (rw c.as_slice.ensures (told-first content files w.feeds (w.script ∷ []) told))) in
    script-refuse w files r fit (subst (λ (o : Option (List ℕ)). IfSome o (IsOfScript (length w.feeds) w.parts r)) there of_script)) own

pub returns-clause-job : goal.returns-clause-job
returns-clause-job g c = λ files told.
    let w = c.args.words in
    let content = g.F.Shelf.content c.args.shelf.now in
    let mid = g.F.Shelf.content c.load_records.new.shelf in
    let script = c.in_ok-lines.lines.items in
    let there : mid w.script ≡ Some (files w.script) = c.load_records.ensures.content w.script ∙ told-last content files w.feeds w.script told in
    let own : IfSome (mid w.script) (λ file. IsScript (length w.feeds) w.parts file script) = search rules in
    record {
      feeds = rw (← c.as_slice.ensures) (c.in_ok-feeds.ensures.feeds files (rw c.as_slice.ensures (told-first content files w.feeds (w.script ∷ []) told)));
      parts = refl;
      landmarks = refl;
      options = refl;
      trace = refl;
      lines = subst (λ (o : Option (List ℕ)). IfSome o (λ file. IsScript (length w.feeds) w.parts file script)) there own;
    }

pub returns-clause-fit : goal.returns-clause-fit
returns-clause-fit g c = λ files told.
    let w = c.args.words in
    let content = g.F.Shelf.content c.args.shelf.now in
    let mid = g.F.Shelf.content c.load_records.new.shelf in
    let there : mid w.script ≡ Some (files w.script) = c.load_records.ensures.content w.script ∙ told-last content files w.feeds w.script told in
    record {
      feeds = rw (← c.as_slice.ensures) (c.in_ok-feeds.ensures.fit files (rw c.as_slice.ensures (told-first content files w.feeds (w.script ∷ []) told)));
      bytes = subst (λ (o : Option (List ℕ)). IfSome o (λ file. length file ≤ 33554432)) there c.in_ok-lines.ensures.fits;
      lines = subst (λ (o : Option (List ℕ)). IfSome o (λ file. length (lines file) ≤ 1048576)) there c.in_ok-lines.ensures.fits_lines;
    }
