use Rattle.std.proofs.Common.{◌≡◌, ◌||◌, ℕ, false, take, length, slice_index_or}
use Rattle.kin_rules.specs.Going.{has_place}
use Rattle.kin_pull.proofs.showing.mark_all.Given as goal

-- the places so far are marked
abbrev pub invariant-loop-end : goal.invariant-loop-end
invariant-loop-end l = record {
  long : length l.marks.items ≡ length l.initial.marks.items;
  marks : (k : ℕ) → slice_index_or l.marks.items k false ≡ (slice_index_or l.initial.marks.items k false || has_place
      (take l.end-index l.ends) k);
}
