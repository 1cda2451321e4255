use Rattle.std.proofs.Common.{◌≡◌, ◌&&◌, ◌||◌, ℕ, Some, None, length, take, slice_index_or}
use Rattle.kin_rules.specs.Going.{has_place}
use Rattle.kin_pull.specs.States.{is_from}
use Rattle.kin_pull.proofs.kept.lower_each.Given as goal

-- so far
abbrev pub invariant-loop-p : goal.invariant-loop-p
invariant-loop-p l = record {
  long : length l.low.items ≡ length l.initial.low.items;
  low : (q j : ℕ) → is_from (slice_index_or l.low.items q None) j ≡ (is_from (slice_index_or l.initial.low.items q None) j || (has_place
      (take l.p-index l.places) q && is_from (Some l.fn.from) j));
}
