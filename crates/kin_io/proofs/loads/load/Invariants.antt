use Rattle.std.proofs.Common.{◌≡◌, ◌≤◌, ℕ, List, length, take, IfSome, ◌+◌, ◌-◌}
use Rattle.kin_io.proofs.loads.load.Given as goal

-- the bytes so far are the file's front
abbrev pub invariant-loop-buf : goal.invariant-loop-buf
invariant-loop-buf g l = record {
  few : length l.bytes.items ≤ l.limit + 1;
  front : IfSome (g.F.Shelf.content l.fn.shelf l.name) (λ file. (l.bytes.items ≡ take (length l.bytes.items) file) × (length l.bytes.items ≤ length file));
  content : (n : List ℕ) → g.F.Shelf.content l.shelf n ≡ g.F.Shelf.content l.fn.shelf n;
  calm : (n : List ℕ) → g.F.Shelf.faults l.shelf n ≡ g.F.Shelf.faults l.fn.shelf n;
}

abbrev pub decreases-loop-buf : goal.decreases-loop-buf
decreases-loop-buf g l = l.limit + 1 - length l.bytes.items
