-- The empty stores of the partitions are a snapshot, and versions begin with it.
use Rattle.std.proofs.Common.{◌≡◌, ℕ, zero, suc, ◌<◌, ◌^◌, [], ◌∷◌, length, get_or, map, sym, ap, ◌∙◌, arith}
use Rattle.std.specs.Prelude.{replicate}
use Rattle.std.proofs.lemmas.List.{length-replicate, get_or-replicate, length-map, get_or-map}
use Rattle.kin_graph.specs.State.{PartState, empty_part}
use Rattle.kin_graph.specs.Deltas.{no_change}
use Rattle.kin_blocks.specs.Blocks.{BlocksView, fresh}
use Rattle.kin_blocks.specs.Snaps.{IsSnap, empty_stores}
use Rattle.kin_blocks.proofs.Empties.{length-empty_stores, empty-snap}
use Rattle.kin_blocks.specs.Versions.{IsVersion, IsVersions, AreWritten, unchanged, first_versions, first_writers, no_version, store_at}
use Rattle.kin_blocks.specs.Versions.{committed_at}

pub IsVersions-first : (parts : ℕ) → 0 < parts → parts < 2 ^ 16 → IsVersions (first_versions parts)
IsVersions-first parts some few =
    let count : length {A = ℕ} (replicate parts 0) ≡ parts = length-replicate parts 0 in
    record {
      some = rw count some;
      few = rw count few;
      each = shaped;
      since = λ p lt. omega arith;
      there = λ p lt. omega (arith, get_or-replicate {A = ℕ} parts p 0 0 (rw count at lt));
    }
  where
    shaped : (j : ℕ) → j < 1 → IsVersion (length {A = ℕ} (replicate parts 0)) (get_or (unchanged (empty_stores parts) ∷ []) j no_version)
    shaped zero lt = record {
      snap = empty-snap parts some few;
      stores = length-empty_stores parts ∙ sym (length-replicate parts 0);
      deltas = length-replicate (length (empty_stores parts)) no_change ∙ (length-empty_stores parts ∙ sym (length-replicate parts 0));
    }
    shaped (suc j) lt = absurd (omega arith)

pub AreWritten-first : (parts : ℕ) → AreWritten (first_versions parts) (first_writers parts)
AreWritten-first parts = record {
  count = length-map (empty_stores parts) fresh ∙ (length-empty_stores parts ∙ sym (length-replicate parts 0));
  each = λ p b lt.
      let below : p < length (empty_stores parts) = omega (arith, length-replicate {A = ℕ} parts 0, length-empty_stores parts) in
      let none : committed_at (first_versions parts) p ≡ 0 = get_or-replicate {A = ℕ} parts p 0 0
      (omega (arith, length-empty_stores parts)) in
      get_or-map fresh (empty_stores parts) p (empty_part 0 0) b below
      ∙ ap fresh (sym (ap (λ (k : ℕ). store_at (first_versions parts) p k) none));
}
