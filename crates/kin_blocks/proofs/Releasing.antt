-- Versions without the epochs below one.
use Rattle.std.proofs.Common.{◌≡◌, ℕ, ◌+◌, ◌-◌, ◌<◌, ◌≤◌, List, length, get_or, drop, max, refl, sym, ◌∙◌, ap, subst, arith}
use Rattle.std.proofs.lemmas.List.{get_or-drop, length-drop}
use Rattle.kin_graph.specs.State.{PartState, empty_part}
use Rattle.kin_blocks.specs.Blocks.{BlocksView, fresh}
use Rattle.kin_blocks.specs.Versions.{VersionsView, VersionState, IsVersion, IsVersions, AreWritten, no_version, released, committed_at}
use Rattle.kin_blocks.specs.Versions.{version_at, store_at}

module _ (v : VersionsView) (k : ℕ) (ok : IsVersions v) (whole : (p : ℕ) → p < length v.committed → k ≤ committed_at v p) where
  -- the version of an epoch that stays
  pub released-version : (j : ℕ) → v.first ≤ j → k ≤ j → version_at (released v k) j ≡ version_at v j
  released-version j from to =
      get_or-drop (k - v.first) v.epochs (j - max v.first k) no_version
      ∙ ap (λ (i : ℕ). get_or v.epochs i no_version) (same j from to)
    where
      same : (j : ℕ) → v.first ≤ j → k ≤ j → k - v.first + (j - max v.first k) ≡ j - v.first
      same j from to = omega arith

  pub released-versions : IsVersions (released v k)
  released-versions = record {
    some = ok.some;
    few = ok.few;
    each = λ j lt. subst (IsVersion (length v.committed)) (sym (get_or-drop (k - v.first) v.epochs j no_version))
        (ok.each (k - v.first + j) (omega (arith, length-drop (k - v.first) v.epochs)));
    since = λ p lt. let from = ok.since p lt in let to = whole p lt in omega arith;
    there = λ p lt. let from = ok.since p lt in let to = whole p lt in let there = ok.there p lt in
        let long = length-drop (k - v.first) v.epochs in omega arith;
  }

  pub released-written : (writers : List BlocksView) → AreWritten v writers → AreWritten (released v k) writers
  released-written writers written = record {
    count = written.count;
    each = λ p b lt. written.each p b lt ∙ ap (λ (w : VersionState). fresh (get_or w.stores p (empty p)))
        (sym (released-version (committed_at v p) (ok.since p lt) (whole p lt)));
  } where
    empty : ℕ → PartState
    empty p = empty_part 0 0
