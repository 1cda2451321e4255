use Rattle.std.proofs.Common.{◌≡◌, ◌+◌, List, ℕ, length, map, take}
use Rattle.std.specs.List.{sum_by}
use Rattle.kin_replay.specs.Files.{Files, Told}
use Rattle.kin_replay.proofs.files.load_feeds.Given as goal

-- the files so far are those of the first names, and what is left of the limit goes with them
abbrev pub invariant-loop-name : goal.invariant-loop-name
invariant-loop-name g l = record {
  left : l.left + sum_by (λ (f : List ℕ). length f) (map (λ f. f.items) l.all.items) ≡ 33554432;
  count : length l.all.items ≡ l.name-index;
  whole : (files : Files) → Told (g.F.Shelf.content l.fn.shelf) l.names files → map (λ f. f.items) l.all.items ≡ map files (take l.name-index l.names);
  content : (n : List ℕ) → g.F.Shelf.content l.shelf n ≡ g.F.Shelf.content l.fn.shelf n;
  calm : (n : List ℕ) → g.F.Shelf.faults l.shelf n ≡ g.F.Shelf.faults l.fn.shelf n;
}
