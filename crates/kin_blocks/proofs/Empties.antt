-- The empty stores of all partitions.
use Rattle.std.proofs.Common.{◌≡◌, ℕ, ◌<◌, ◌^◌, length, ap, ◌∙◌, sym, arith}
use Rattle.std.proofs.lemmas.List.FromFn.{length-map-range_with_len, get_or-map-range_with_len}
use Rattle.kin_graph.specs.State.{PartState, empty_part}
use Rattle.kin_blocks.specs.Snaps.{IsSnap, state_at, empty_stores}

pub length-empty_stores : (n : ℕ) → length (empty_stores n) ≡ n
length-empty_stores n = length-map-range_with_len (λ (q : ℕ). empty_part q n) 0 n

pub state_at-empty : (n p : ℕ) → p < n → state_at (empty_stores n) p ≡ empty_part p n
state_at-empty n p h = get_or-map-range_with_len (λ (q : ℕ). empty_part q n) 0 n p p (empty_part 0 0) h (omega arith)

pub empty-snap : (n : ℕ) → 0 < n → n < 2 ^ 16 → IsSnap (empty_stores n)
empty-snap n some few =
    let long : length (empty_stores n) ≡ n = length-empty_stores n in
    record {
      some = omega arith;
      few = omega arith;
      part = λ p h. ap (λ (s : PartState). s.part) (state_at-empty n p (omega arith));
      parts = λ p h. ap (λ (s : PartState). s.parts) (state_at-empty n p (omega arith)) ∙ sym long;
    }
